use Rattle.std.proofs.Common.{◌≡◌, ◌∙◌, refl, sym, arith, rules, tests}
use Rattle.link_rules.specs.Refusals.{Refused}
use Rattle.link_rules.proofs.RefusalLaws.{raised_first, raised_next, first_unless, next_unless}
use Rattle.yard_check.specs.Check.{slots_fault, check_fault}
use Rattle.yard_check.proofs.check.check_wide_fault.Goals as goal

pub returns-in_err-call_fault : goal.returns-in_err-call_fault
unfolding check_fault
returns-in_err-call_fault c =
    let e : c.from_residual.result ≡ Refused c.in_err-call_fault.field-0.0 = search (rules, tests) in
    e ∙ raised_first _ _ _ (sym (c.call_fault.ensures c.args.occ.now refl) ∙ c.in_err-call_fault.was)

pub returns-in_err-refuse_unless : goal.returns-in_err-refuse_unless
unfolding check_fault
returns-in_err-refuse_unless c =
    let e : c.from_residual-in_err-refuse_unless.result ≡ Refused c.in_err-refuse_unless.field-0.0 = search (rules, tests) in
    rw (← c.yard_fits.ensures) (
    e
    ∙ first_unless c.yard_fits.result 14 _ _ (λ z. absurd (omega arith)) (sym c.refuse_unless.ensures ∙ c.in_err-refuse_unless.was)
    ∙ raised_next _ _ (sym (c.call_fault.ensures c.args.occ.now refl) ∙ c.in_ok-call_fault.was)
    )

pub returns : goal.returns
unfolding check_fault slots_fault
returns c =
    rw (← c.yard_fits.ensures) (
    c.held_or_late_fault.ensures
    ∙ next_unless c.yard_fits.result 14 _ (λ z. absurd (omega arith)) (sym c.refuse_unless.ensures ∙ c.in_ok-refuse_unless.was)
    ∙ raised_next _ _ (sym (c.call_fault.ensures c.args.occ.now refl) ∙ c.in_ok-call_fault.was)
    )
