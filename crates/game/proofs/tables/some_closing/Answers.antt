use mathlib.Core.Path.{◌≡◌, sym, ap, ◌∙◌}
use mathlib.Core.Bool.{Bool}
use Prim.Native.Nat.{ℕ, ◌+◌}
use native.Mathlib.Omega.{arith}
use borrow.Author.Rules.{rules}
use Rattle.game.proofs.Bounded.{some-from, some_more, some-none}
use Rattle.game.specs.Sets.{some_below, shut_in, won}
use Rattle.game.proofs.SetLaws.{power_fits}
use Rattle.game.proofs.TableLaws.{lost_at, won-at}
use Rattle.game.proofs.tables.some_closing.Goals as goal

pub loop-i-init : goal.loop-i-init
loop-i-init c = (search rules, some-none (λ j. won c.args.t.now (shut_in c.args.k c.args.c j)))

pub bounds-t-d : goal.bounds-t-d
bounds-t-d c = omega (arith, power_fits c.args.k (omega arith))

pub returns-then-t-d-ne0 : goal.returns-then-t-d-ne0
returns-then-t-d-ne0 c = let l = c.loop-i in
    let a = c.args in
    let f : ℕ → Bool = λ j. won a.t.now (shut_in a.k a.c j) in
    sym (some-from (a.k + 1) f l.i (omega arith) (won-at a.t.now c.shut-d.result (shut_in a.k a.c l.i) c.shut-d.ensures.0 c.if-t-d-ne0.true))

pub loop-i-preserved : goal.loop-i-preserved
loop-i-preserved c = let l = c.loop-i in
    let a = c.args in
    let f : ℕ → Bool = λ j. won a.t.now (shut_in a.k a.c j) in (
      search rules,
      some_more l.i f l.invariant.1 (lost_at a.t.now c.shut-d.result (shut_in a.k a.c l.i) c.shut-d.ensures.0 c.if-t-d-ne0.false),
    )

pub returns : goal.returns
returns c = let l = c.loop-i in
    let a = c.args in
    let f : ℕ → Bool = λ j. won a.t.now (shut_in a.k a.c j) in
    let e : l.i ≡ a.k + 1 = omega arith in
    sym l.invariant.1 ∙ ap (λ (n : ℕ). some_below n f) e
