use mathlib.Core.Path.{◌≡◌, refl, sym, ap, ◌∙◌}
use Prim.Native.Nat.{ℕ, ◌-◌}
use native.Mathlib.Omega.{arith}
use lib.ListN.{length}
use borrow.Author.Tests.{eq-eqb, ne_eqb}
use Rattle.link_rules.specs.Network.{all_below}
use Rattle.link_rules.proofs.TableLaws.{all_more, all_fails}
use Rattle.carry.specs.Carry.{zero_from}
use borrow.Author.Rules.{rules}
use Rattle.carry.proofs.zero_from.Invariants.{is_zero}
use Rattle.carry.proofs.zero_from.Goals as goal

pub loop-i-init : goal.loop-i-init
unfolding all_below
loop-i-init c = (search rules, omega (arith, c.requires), refl)

pub loop-i-preserved : goal.loop-i-preserved
loop-i-preserved c = let a = c.args in
    let l = c.loop-i in
    (search rules, l.invariant.1, all_more (is_zero a.a a.bs.now) l.i l.invariant.2 (eq-eqb _ _ c.if-bs-a-ne0.false))

pub returns-then-bs-a-ne0 : goal.returns-then-bs-a-ne0
unfolding zero_from
returns-then-bs-a-ne0 c = let a = c.args in
    let l = c.loop-i in
    sym (all_fails (is_zero a.a a.bs.now) (length a.bs.now - a.a) l.i (omega (arith, l.invariant.1, c.loop-i-test.true)) (ne_eqb _ _ c.if-bs-a-ne0.true))

pub returns : goal.returns
unfolding zero_from
returns c = let a = c.args in
    let l = c.loop-i in
    let e : l.i ≡ length a.bs.now - a.a = omega (arith, l.invariant.0, l.invariant.1, c.loop-i-test.false) in
    sym (ap (λ (n : ℕ). all_below n (is_zero a.a a.bs.now)) (sym e) ∙ l.invariant.2)
