use Rattle.std.proofs.Common.{◌≡◌, Err, rules, tests, refl, sym, ◌∙◌, arith}
use Rattle.link_rules.proofs.RefusalLaws.{raised_unless, raised_first, raised_next, first_unless, next_unless, unless_done}
use Rattle.update_definition.specs.UpdateImage.{call_fault}
use Rattle.carry.specs.HalfCheck.{early_fault}
use Rattle.carry.proofs.LayoutLaws.{yard-few}
use Rattle.carry.proofs.half.early_fault.Goals as goal

pub returns-in_err-call_fault : goal.returns-in_err-call_fault
unfolding early_fault
returns-in_err-call_fault c = let a = c.args in
    let e : c.from_residual.result ≡ Err c.in_err-call_fault.field-0.0 = search (rules, tests) in
    λ begin local. e ∙ raised_first (call_fault a.occupancy.now a.blocking.now a.moved.0 a.limit) _ _ (sym (c.call_fault.ensures a.occupancy.now refl) ∙ c.in_err-call_fault.was)

pub returns-in_err-refuse_unless : goal.returns-in_err-refuse_unless
unfolding early_fault
returns-in_err-refuse_unless c = let a = c.args in
    let e : c.from_residual-in_err-refuse_unless.result ≡ Err c.in_err-refuse_unless.field-0.0 = search (rules, tests) in
    λ begin local. rw (← c.yard_fits.ensures)
    (e
    ∙ first_unless _ 14 _ _ (λ z. absurd (omega arith)) (sym c.refuse_unless.ensures ∙ c.in_err-refuse_unless.was)
    ∙ raised_next (call_fault a.occupancy.now a.blocking.now a.moved.0 a.limit) _ (sym (c.call_fault.ensures a.occupancy.now refl) ∙ c.in_ok-call_fault.was))

pub half_fits-requires : goal.half_fits-requires
half_fits-requires c = let a = c.args in
    yard-few a.yard.now (λ i. omega (arith, c.shared_slice_known-1.given i)) (sym c.yard_fits.ensures ∙ unless_done c.yard_fits.result 14 (sym c.refuse_unless.ensures ∙ c.in_ok-refuse_unless.was))

pub returns : goal.returns
unfolding early_fault
returns c = let a = c.args in
    λ begin local. rw (← c.yard_fits.ensures, ← c.half_fits.ensures)
    (c.refuse_unless-2.ensures
    ∙ raised_unless _ 24 (λ z. absurd (omega arith))
    ∙ next_unless _ 14 _ (λ z. absurd (omega arith)) (sym c.refuse_unless.ensures ∙ c.in_ok-refuse_unless.was)
    ∙ raised_next (call_fault a.occupancy.now a.blocking.now a.moved.0 a.limit) _ (sym (c.call_fault.ensures a.occupancy.now refl) ∙ c.in_ok-call_fault.was))
