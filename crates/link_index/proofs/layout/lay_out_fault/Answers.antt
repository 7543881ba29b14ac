use Rattle.std.proofs.Common.{◌≡◌, eqb, leb, Err, rules, tests, sym, ap, ◌∙◌, arith}
use Rattle.link_rules.specs.Refusals.{raised}
use Rattle.link_rules.specs.declared.refusal.Refusal.{Refusal}
use Rattle.link_rules.proofs.RefusalLaws.{some_raised, raised_some, raised_unless, first_unless, next_unless}
use Rattle.train_disp.specs.TrainDisp as TrainDisp
use Rattle.link_index.proofs.CallLaws.{own_part, train_tests, six_first, six_none}
use Rattle.link_index.proofs.layout.lay_out_fault.Goals as goal
use Rattle.link_index.proofs.layout.lay_out_fault.Goals.{in-Err+else-own-eq6, in_default}

pub returns-in_err-refuse_unless : goal.returns-in_err-refuse_unless
returns-in_err-refuse_unless c = let a = c.args in
    let e : c.from_residual.result ≡ Err c.in_err-refuse_unless.field-0.0 = search (rules, tests) in
    e
    ∙ first_unless (leb 1 a.settings.train_idx.0) 5 _ _ (λ z. absurd (omega arith)) (sym c.refuse_unless.ensures ∙ c.in_err-refuse_unless.was)
    ∙ train_tests a.est.now a.settings a.size a.m

pub returns-in_err-refuse_unless-2 : goal.returns-in_err-refuse_unless-2
returns-in_err-refuse_unless-2 c = let a = c.args in
    let e : c.from_residual-in_err-refuse_unless-2.result ≡ Err c.in_err-refuse_unless-2.field-0.0 = search (rules, tests) in
    e
    ∙ first_unless (leb a.settings.train_idx.0 63) 5 _ _ (λ z. absurd (omega arith)) (sym c.refuse_unless-2.ensures ∙ c.in_err-refuse_unless-2.was)
    ∙ next_unless (leb 1 a.settings.train_idx.0) 5 _ (λ z. absurd (omega arith)) (sym c.refuse_unless.ensures ∙ c.in_ok-refuse_unless.was)
    ∙ train_tests a.est.now a.settings a.size a.m

pub returns-then-own-eq6 : goal.returns-then-own-eq6
returns-then-own-eq6 c = let a = c.args in
    let F = TrainDisp.lay_out_fault a.est.now a.settings a.size in
    let h = some_raised F c.in-Err.own (sym c.lay_out_fault.ensures ∙ c.in-Err.is) in
    let six : F.number ≡ 6 = ap (λ (f : Refusal). f.number) h.0 ∙ c.if-own-eq6.true in
    ap Err (sym h.0)
    ∙ sym (raised_some F h.1)
    ∙ ap raised (six_first a.est.now a.settings a.size a.m F six)
    ∙ next_unless (leb a.settings.train_idx.0 63) 5 (own_part a.est.now a.settings a.size a.m) (λ z. absurd (omega arith)) (sym c.refuse_unless-2.ensures ∙ c.in_ok-refuse_unless-2.was)
    ∙ next_unless (leb 1 a.settings.train_idx.0) 5 _ (λ z. absurd (omega arith)) (sym c.refuse_unless.ensures ∙ c.in_ok-refuse_unless.was)
    ∙ train_tests a.est.now a.settings a.size a.m

pub returns : goal.returns
returns c = let a = c.args in
    let F = TrainDisp.lay_out_fault a.est.now a.settings a.size in
    let other : F.number ≡ 6 → ⊥ = elim c.match-lay_out_fault.branch [
      | in-Err+else-own-eq6 w ↦ λ z. w.if-own-eq6.false (ap (λ (f : Refusal). f.number) (sym (some_raised F w.in-Err.own (sym c.lay_out_fault.ensures ∙ w.in-Err.is)).0) ∙ z)
      | in_default w ↦ λ z. w.in_default.not-Err F (c.lay_out_fault.ensures ∙ raised_some F (λ y. omega (arith, y, z)))
    ] in
    c.refuse_unless-3.ensures
    ∙ raised_unless (eqb a.m a.settings.links) 25 (λ z. absurd (omega arith))
    ∙ ap raised (six_none a.est.now a.settings a.size a.m F other)
    ∙ next_unless (leb a.settings.train_idx.0 63) 5 (own_part a.est.now a.settings a.size a.m) (λ z. absurd (omega arith)) (sym c.refuse_unless-2.ensures ∙ c.in_ok-refuse_unless-2.was)
    ∙ next_unless (leb 1 a.settings.train_idx.0) 5 _ (λ z. absurd (omega arith)) (sym c.refuse_unless.ensures ∙ c.in_ok-refuse_unless.was)
    ∙ train_tests a.est.now a.settings a.size a.m
