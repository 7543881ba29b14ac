use Rattle.std.proofs.Common.{◌≡◌, ℕ, ◌+◌, ◌-◌, Err, rules, tests, refl, sym, ap, ◌∙◌, arith}
use Rattle.link_rules.specs.Refusals.{raised}
use Rattle.link_rules.proofs.RefusalLaws.{none_raised, raised_none, raised_first}
use Rattle.image_fault.specs.ImageFault.{image_fault}
use Rattle.yard_check.specs.Yard.{part_of}
use Rattle.carry.specs.Carry.{images_fault}
use Rattle.carry.proofs.LayoutLaws.{images-end, images-turn, images_pass}
use Rattle.carry.proofs.images_fault.Goals as goal

pub loop-t-init : goal.loop-t-init
loop-t-init c = let a = c.args in
    ap (λ (s : ℕ). images_fault a.yard.now a.l (s - a.count) a.count) c.slot_count-slots.ensures

pub loop-t-preserved : goal.loop-t-preserved
loop-t-preserved c = let a = c.args in
    let l = c.loop-t in
    let f = image_fault (part_of a.yard.now (l.t + 1)) a.l in
    let e = c.image_fault.ensures ∙ ap (λ x. raised (image_fault x a.l)) c.part.ensures in
    sym (images_pass a.yard.now a.l c.slot_count-slots.result l.t (omega arith) (none_raised f (sym e ∙ c.in_ok-image_fault.was))) ∙ l.invariant

pub returns-in_err-image_fault : goal.returns-in_err-image_fault
returns-in_err-image_fault c = let a = c.args in
    let l = c.loop-t in
    let e : c.from_residual.result ≡ Err c.in_err-image_fault.field-0.0 = search (rules, tests) in
    let f = image_fault (part_of a.yard.now (l.t + 1)) a.l in
    let g = c.image_fault.ensures ∙ ap (λ x. raised (image_fault x a.l)) c.part.ensures in
    e ∙ raised_first f _ _ (sym g ∙ c.in_err-image_fault.was) ∙ ap raised (sym (images-turn a.yard.now a.l c.slot_count-slots.result l.t (omega arith)) ∙ l.invariant)

pub returns : goal.returns
returns c = let a = c.args in
    let l = c.loop-t in
    sym (raised_none _ refl) ∙ ap raised (sym (images-end a.yard.now a.l c.slot_count-slots.result l.t (omega arith)) ∙ l.invariant)
