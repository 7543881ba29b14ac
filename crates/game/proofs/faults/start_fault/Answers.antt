use Rattle.std.proofs.Common.{◌≡◌, [], Err, ltb, rules, tests, refl, sym, ap, ◌∙◌, arith}
use Rattle.image.specs.declared.codec.PathHeader.{PathHeader}
use Rattle.link_rules.specs.Refusals.{refused_unless, raised}
use Rattle.link_rules.proofs.RefusalLaws.{raised_unless, raised_first, raised_next}
use Rattle.image_fault.specs.declared.Widths.TheVariants.{Either}
use Rattle.update_definition.specs.UpdateImage.{update_fault_in}
use Rattle.game.specs.Game.{start_fault}
use Rattle.game.proofs.faults.start_fault.Goals as goal

pub returns-in_err-update_fault : goal.returns-in_err-update_fault
unfolding start_fault
returns-in_err-update_fault c = let a = c.args in
    let e : c.from_residual.result ≡ Err c.in_err-update_fault.field-0.0 = search (rules, tests) in
    e ∙ raised_first (update_fault_in Either a.image.now a.occ.now [] a.o.moved.0 a.o.limit) _ _ (sym (c.update_fault.ensures a.occ.now refl c.given_fault-own.ensures) ∙ c.in_err-update_fault.was)

pub returns : goal.returns
unfolding start_fault
returns c = let a = c.args in
    c.refuse_unless.ensures
    ∙ raised_unless _ 10 (λ z. absurd (omega arith))
    ∙ ap (λ (x : PathHeader). raised (refused_unless (ltb x.free x.path_count) 10)) c.path_header-h.ensures
    ∙ raised_next (update_fault_in Either a.image.now a.occ.now [] a.o.moved.0 a.o.limit) _ (sym (c.update_fault.ensures a.occ.now refl c.given_fault-own.ensures) ∙ c.in_ok-update_fault.was)
