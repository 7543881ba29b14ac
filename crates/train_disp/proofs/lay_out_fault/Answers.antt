use Rattle.std.proofs.Common.{◌≡◌, rules, tests, sym, ◌∙◌, arith}
use lib.ListN.{length}
use Rattle.link_rules.specs.Refusals.{Refused}
use Rattle.link_rules.proofs.RefusalLaws.{raised_unless, raised_first, raised_next, first_unless, next_unless, unless_done}
use Rattle.train_disp.specs.TrainDisp.{lay_out_fault}
use Rattle.train_disp.proofs.LayOutLaws.{sizes_give}
use Rattle.train_disp.proofs.lay_out_fault.Goals as goal

pub returns-in_err-refuse_unless : goal.returns-in_err-refuse_unless
unfolding lay_out_fault
returns-in_err-refuse_unless c =
    let e : c.from_residual.result ≡ Refused c.in_err-refuse_unless.field-0.0 = search (rules, tests) in
    e ∙ first_unless _ 5 _ _ (λ z. absurd (omega arith)) (sym c.refuse_unless.ensures ∙ c.in_err-refuse_unless.was)

pub returns-in_err-refuse_unless-2 : goal.returns-in_err-refuse_unless-2
unfolding lay_out_fault
returns-in_err-refuse_unless-2 c =
    let e : c.from_residual-in_err-refuse_unless-2.result ≡ Refused c.in_err-refuse_unless-2.field-0.0 = search (rules, tests) in
    rw (← c.sizes_fit.ensures) (
    e
    ∙ first_unless _ 6 _ _ (λ z. absurd (omega arith)) (sym c.refuse_unless-2.ensures ∙ c.in_err-refuse_unless-2.was)
    ∙ next_unless _ 5 _ (λ z. absurd (omega arith)) (sym c.refuse_unless.ensures ∙ c.in_ok-refuse_unless.was)
    )

pub judge-requires : goal.judge-requires
judge-requires c =
    sizes_give (length c.args.est.now) c.args.settings c.args.size (sym c.sizes_fit.ensures ∙ unless_done _ 6 (sym c.refuse_unless-2.ensures ∙ c.in_ok-refuse_unless-2.was))

pub returns-in_err-judge : goal.returns-in_err-judge
unfolding lay_out_fault
returns-in_err-judge c =
    let e : c.from_residual-in_err-judge.result ≡ Refused c.in_err-judge.field-0.0 = search (rules, tests) in
    rw (← c.sizes_fit.ensures) (
    e
    ∙ raised_first _ _ _ (sym c.judge.ensures ∙ c.in_err-judge.was)
    ∙ next_unless _ 6 _ (λ z. absurd (omega arith)) (sym c.refuse_unless-2.ensures ∙ c.in_ok-refuse_unless-2.was)
    ∙ next_unless _ 5 _ (λ z. absurd (omega arith)) (sym c.refuse_unless.ensures ∙ c.in_ok-refuse_unless.was)
    )

pub offsets_fit-requires : goal.offsets_fit-requires
offsets_fit-requires c =
    let s = sizes_give (length c.args.est.now) c.args.settings c.args.size (sym c.sizes_fit.ensures ∙ unless_done _ 6 (sym c.refuse_unless-2.ensures ∙ c.in_ok-refuse_unless-2.was)) in
    s.few-est

pub returns : goal.returns
unfolding lay_out_fault
returns c =
    rw (← c.sizes_fit.ensures, ← c.offsets_fit.ensures) (
    c.refuse_unless-3.ensures
    ∙ raised_unless _ 11 (λ z. absurd (omega arith))
    ∙ raised_next _ _ (sym c.judge.ensures ∙ c.in_ok-judge.was)
    ∙ next_unless _ 6 _ (λ z. absurd (omega arith)) (sym c.refuse_unless-2.ensures ∙ c.in_ok-refuse_unless-2.was)
    ∙ next_unless _ 5 _ (λ z. absurd (omega arith)) (sym c.refuse_unless.ensures ∙ c.in_ok-refuse_unless.was)
    )
