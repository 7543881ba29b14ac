use Rattle.std.proofs.Common.{◌≡◌, ◌-◌, Err, rules, tests, sym, ◌∙◌, arith}
use Rattle.link_rules.proofs.RefusalLaws.{raised_unless, raised_first, raised_next}
use Rattle.yard_check.specs.Yard.{slot_count}
use Rattle.carry.specs.Carry.{images_fault, rest_fault}
use Rattle.carry.proofs.slots_fault.Goals as goal

pub returns-in_err-images_fault : goal.returns-in_err-images_fault
unfolding rest_fault
returns-in_err-images_fault c = let a = c.args in
    let e : c.from_residual.result ≡ Err c.in_err-images_fault.field-0.0 = search (rules, tests) in
    e ∙ raised_first (images_fault a.yard.now a.l (slot_count a.yard.now - a.count) a.count) _ _ (sym c.images_fault.ensures ∙ c.in_err-images_fault.was)

pub returns : goal.returns
unfolding rest_fault
returns c = let a = c.args in
    rw (← c.second_fits.ensures)
    (c.refuse_unless.ensures ∙ raised_unless _ 24 (λ z. absurd (omega arith)) ∙ raised_next (images_fault a.yard.now a.l (slot_count a.yard.now - a.count) a.count) _ (sym c.images_fault.ensures ∙ c.in_ok-images_fault.was))
