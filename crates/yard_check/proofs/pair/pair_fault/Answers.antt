use Rattle.std.proofs.Common.{◌≡◌, ◌∙◌, refl, sym, arith, rules, tests}
use Rattle.link_rules.specs.Refusals.{Refused}
use Rattle.link_rules.proofs.RefusalLaws.{raised_first, raised_next, first_unless, next_unless, unless_done}
use Rattle.yard_check.specs.Check.{slots_fault}
use Rattle.yard_check.specs.Pair.{late_fault, pair_fault}
use Rattle.yard_check.proofs.pair.pair_fault.Goals as goal

pub returns-in_err-call_fault : goal.returns-in_err-call_fault
unfolding pair_fault
returns-in_err-call_fault c =
    let e : c.from_residual.result ≡ Refused c.in_err-call_fault.field-0.0 = search (rules, tests) in
    e ∙ raised_first _ _ _ (sym (c.call_fault.ensures c.args.occ.now refl) ∙ c.in_err-call_fault.was)

pub returns-in_err-refuse_unless : goal.returns-in_err-refuse_unless
unfolding pair_fault
returns-in_err-refuse_unless c =
    let e : c.from_residual-in_err-refuse_unless.result ≡ Refused c.in_err-refuse_unless.field-0.0 = search (rules, tests) in
    rw (← c.yard_fits.ensures) (
    e
    ∙ first_unless c.yard_fits.result 14 _ _ (λ z. absurd (omega arith)) (sym c.refuse_unless.ensures ∙ c.in_err-refuse_unless.was)
    ∙ raised_next _ _ (sym (c.call_fault.ensures c.args.occ.now refl) ∙ c.in_ok-call_fault.was)
    )

pub second_lies-requires : goal.second_lies-requires
second_lies-requires c = sym c.yard_fits.ensures ∙ unless_done c.yard_fits.result 14 (sym c.refuse_unless.ensures ∙ c.in_ok-refuse_unless.was)

pub returns-in_err-refuse_unless-2 : goal.returns-in_err-refuse_unless-2
unfolding pair_fault
returns-in_err-refuse_unless-2 c =
    let e : c.from_residual-in_err-refuse_unless-2.result ≡ Refused c.in_err-refuse_unless-2.field-0.0 = search (rules, tests) in
    rw (← c.yard_fits.ensures, ← c.second_lies.ensures) (
    e
    ∙ first_unless c.second_lies.result 24 _ _ (λ z. absurd (omega arith)) (sym c.refuse_unless-2.ensures ∙ c.in_err-refuse_unless-2.was)
    ∙ next_unless c.yard_fits.result 14 _ (λ z. absurd (omega arith)) (sym c.refuse_unless.ensures ∙ c.in_ok-refuse_unless.was)
    ∙ raised_next _ _ (sym (c.call_fault.ensures c.args.occ.now refl) ∙ c.in_ok-call_fault.was)
    )

pub returns : goal.returns
unfolding pair_fault late_fault slots_fault
returns c =
    rw (← c.yard_fits.ensures, ← c.second_lies.ensures) (
    c.late_fault.ensures
    ∙ next_unless c.second_lies.result 24 _ (λ z. absurd (omega arith)) (sym c.refuse_unless-2.ensures ∙ c.in_ok-refuse_unless-2.was)
    ∙ next_unless c.yard_fits.result 14 _ (λ z. absurd (omega arith)) (sym c.refuse_unless.ensures ∙ c.in_ok-refuse_unless.was)
    ∙ raised_next _ _ (sym (c.call_fault.ensures c.args.occ.now refl) ∙ c.in_ok-call_fault.was)
    )
