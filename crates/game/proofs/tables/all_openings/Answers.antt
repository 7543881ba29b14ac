use mathlib.Core.Path.{◌≡◌, sym, ap, ◌∙◌}
use mathlib.Core.Bool.{Bool}
use Prim.Native.Nat.{ℕ, ◌+◌}
use native.Mathlib.Omega.{arith}
use borrow.Author.Rules.{rules}
use Rattle.game.proofs.Bounded.{all_none}
use Rattle.link_rules.specs.Network.{all_below}
use Rattle.link_rules.proofs.TableLaws.{all_more, all_fails}
use Rattle.game.specs.Sets.{opened_in, won}
use Rattle.game.proofs.SetLaws.{power_fits}
use Rattle.game.proofs.TableLaws.{lost_at, won-at}
use Rattle.game.proofs.tables.all_openings.Goals as goal

pub loop-a-init : goal.loop-a-init
loop-a-init c = (search rules, all_none (λ j. won c.args.t.now (opened_in c.args.k c.args.c j)))

pub bounds-t-d : goal.bounds-t-d
bounds-t-d c = omega (arith, power_fits c.args.k (omega arith))

pub returns-then-t-d-eq0 : goal.returns-then-t-d-eq0
returns-then-t-d-eq0 c = let l = c.loop-a in
    let a = c.args in
    let f : ℕ → Bool = λ j. won a.t.now (opened_in a.k a.c j) in
    sym (all_fails f (a.k + 1) l.a (omega arith) (lost_at a.t.now c.opened-d.result (opened_in a.k a.c l.a) c.opened-d.ensures.0 c.if-t-d-eq0.true))

pub loop-a-preserved : goal.loop-a-preserved
loop-a-preserved c = let l = c.loop-a in
    let a = c.args in
    let f : ℕ → Bool = λ j. won a.t.now (opened_in a.k a.c j) in (
      search rules,
      all_more f l.a l.invariant.1 (won-at a.t.now c.opened-d.result (opened_in a.k a.c l.a) c.opened-d.ensures.0 c.if-t-d-eq0.false),
    )

pub returns : goal.returns
returns c = let l = c.loop-a in
    let a = c.args in
    let f : ℕ → Bool = λ j. won a.t.now (opened_in a.k a.c j) in
    let e : l.a ≡ a.k + 1 = omega arith in
    sym l.invariant.1 ∙ ap (λ (n : ℕ). all_below n f) e
