use Rattle.std.proofs.Common.{◌≡◌, Err, rules, tests, sym, ◌∙◌, arith}
use Rattle.link_rules.proofs.RefusalLaws.{raised_unless, first_unless, next_unless}
use Rattle.link_index.specs.LinkIndex.{build_fault}
use Rattle.link_index.proofs.build_fault.Goals as goal

pub returns-in_err-refuse_unless : goal.returns-in_err-refuse_unless
unfolding build_fault
returns-in_err-refuse_unless c =
    let e : c.from_residual.result ≡ Err c.in_err-refuse_unless.field-0.0 = search (rules, tests) in
    rw (← c.length_fits.ensures) (e ∙ first_unless _ 25 _ _ (λ z. absurd (omega arith)) (sym c.refuse_unless.ensures ∙ c.in_err-refuse_unless.was))

pub returns : goal.returns
unfolding build_fault
returns c =
    rw (← c.length_fits.ensures, ← c.yard_fits.ensures)
    (c.refuse_unless-2.ensures ∙ raised_unless _ 14 (λ z. absurd (omega arith)) ∙ next_unless _ 25 _ (λ z. absurd (omega arith)) (sym c.refuse_unless.ensures ∙ c.in_ok-refuse_unless.was))
