use Rattle.std.proofs.Common.{◌≡◌, Bool, not, eqb, Err, rules, tests, sym, ap, ◌∙◌, arith}
use Rattle.link_rules.specs.Refusals.{or_else, raised, refuse_unless}
use Rattle.link_rules.specs.declared.refusal.Refusal.{Refusal}
use Rattle.link_rules.proofs.RefusalLaws.{raised_unless, first_unless, next_unless}
use Rattle.yard_check.specs.Yard as Yard
use Rattle.ceiling.proofs.CeilingLaws.{limit_fault}
use Rattle.ceiling.proofs.yard_fault.Goals as goal

pub returns-in_err-refuse_unless : goal.returns-in_err-refuse_unless
returns-in_err-refuse_unless c = let a = c.args in
    let e : c.from_residual.result ≡ Err c.in_err-refuse_unless.field-0.0 = search (rules, tests) in
    e
    ∙ first_unless (not (eqb a.limit 0)) 5 (Yard.yard_fault a.yard.now) _ (λ z. absurd (omega arith)) (sym c.refuse_unless.ensures ∙ c.in_err-refuse_unless.was)
    ∙ ap (λ (f : Refusal). raised (or_else f (Yard.yard_fault a.yard.now))) (limit_fault a.limit)

pub returns : goal.returns
returns c = let a = c.args in
    c.refuse_unless-2.ensures
    ∙ ap (λ (b : Bool). refuse_unless b 14) c.yard_fits.ensures
    ∙ raised_unless _ 14 (λ z. absurd (omega arith))
    ∙ next_unless (not (eqb a.limit 0)) 5 (Yard.yard_fault a.yard.now) (λ z. absurd (omega arith)) (sym c.refuse_unless.ensures ∙ c.in_ok-refuse_unless.was)
    ∙ ap (λ (f : Refusal). raised (or_else f (Yard.yard_fault a.yard.now))) (limit_fault a.limit)
