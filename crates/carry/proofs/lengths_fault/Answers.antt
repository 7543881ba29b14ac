use Rattle.std.proofs.Common.{◌≡◌, Err, rules, tests, sym, ◌∙◌, arith}
use Rattle.link_rules.proofs.RefusalLaws.{raised_unless, first_unless, next_unless}
use Rattle.carry.proofs.LayoutLaws.{lengths_by}
use Rattle.carry.proofs.lengths_fault.Goals as goal

pub returns-in_err-refuse_unless : goal.returns-in_err-refuse_unless
returns-in_err-refuse_unless c =
    let e : c.from_residual.result ≡ Err c.in_err-refuse_unless.field-0.0 = search (rules, tests) in
    e ∙ first_unless _ 2 _ _ (λ z. absurd (omega arith)) (sym c.refuse_unless.ensures ∙ c.in_err-refuse_unless.was) ∙ lengths_by c.args.l c.args.m

pub returns-in_err-refuse_unless-2 : goal.returns-in_err-refuse_unless-2
returns-in_err-refuse_unless-2 c =
    let e : c.from_residual-in_err-refuse_unless-2.result ≡ Err c.in_err-refuse_unless-2.field-0.0 = search (rules, tests) in
    e
    ∙ first_unless _ 2 _ _ (λ z. absurd (omega arith)) (sym c.refuse_unless-2.ensures ∙ c.in_err-refuse_unless-2.was)
    ∙ next_unless _ 2 _ (λ z. absurd (omega arith)) (sym c.refuse_unless.ensures ∙ c.in_ok-refuse_unless.was)
    ∙ lengths_by c.args.l c.args.m

pub returns : goal.returns
returns c =
    c.refuse_unless-3.ensures
    ∙ raised_unless _ 2 (λ z. absurd (omega arith))
    ∙ next_unless _ 2 _ (λ z. absurd (omega arith)) (sym c.refuse_unless-2.ensures ∙ c.in_ok-refuse_unless-2.was)
    ∙ next_unless _ 2 _ (λ z. absurd (omega arith)) (sym c.refuse_unless.ensures ∙ c.in_ok-refuse_unless.was)
    ∙ lengths_by c.args.l c.args.m
