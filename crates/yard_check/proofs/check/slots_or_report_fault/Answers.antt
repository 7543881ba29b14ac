use Rattle.std.proofs.Common.{◌≡◌, ◌∙◌, eqb, sym, arith, rules, tests}
use Rattle.link_rules.specs.Refusals.{Refused}
use Rattle.yard_check.specs.Check.{slots_fault, report_fault}
use Rattle.link_rules.proofs.RefusalLaws.{raised_unless, first_unless, next_unless}
use Rattle.yard_check.proofs.check.slots_or_report_fault.Goals as goal

pub returns-in_err-refuse_unless : goal.returns-in_err-refuse_unless
unfolding slots_fault report_fault
returns-in_err-refuse_unless c w =
    let e : c.from_residual.result ≡ Refused c.in_err-refuse_unless.field-0.0 = search (rules, tests) in
    rw (← c.slots_fit.ensures) (e ∙ first_unless c.slots_fit.result 15 _ _ (λ z. absurd (omega arith)) (sym c.refuse_unless.ensures ∙ c.in_err-refuse_unless.was))

pub returns : goal.returns
unfolding slots_fault report_fault
returns c w = let a = c.args in
    rw (← c.slots_fit.ensures, ← c.rows_length.ensures) (
    c.refuse_unless-2.ensures
    ∙ raised_unless (eqb a.long c.rows_length.result) 16 (λ z. absurd (omega arith))
    ∙ next_unless c.slots_fit.result 15 _ (λ z. absurd (omega arith)) (sym c.refuse_unless.ensures ∙ c.in_ok-refuse_unless.was)
    )
