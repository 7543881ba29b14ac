use Rattle.std.proofs.Common.{◌≡◌, rules, tests, sym, ◌∙◌, arith}
use Rattle.link_rules.specs.Refusals.{Refused}
use Rattle.link_rules.proofs.RefusalLaws.{first_unless, next_unless}
use Rattle.conversion.proofs.narrow_own.Goals as goal

pub returns-in_err-refuse_unless : goal.returns-in_err-refuse_unless
returns-in_err-refuse_unless c =
    let e : c.from_residual.result ≡ Refused c.in_err-refuse_unless.field-0.0 = search (rules, tests) in
    rw (← c.is_wide.ensures) (e ∙ first_unless _ 6 _ _ (λ z. absurd (omega arith)) (sym c.refuse_unless.ensures ∙ c.in_err-refuse_unless.was))

pub returns : goal.returns
returns c =
    rw (← c.is_wide.ensures) (c.out_fault.ensures ∙ next_unless _ 6 _ (λ z. absurd (omega arith)) (sym c.refuse_unless.ensures ∙ c.in_ok-refuse_unless.was))
