use mathlib.Core.Path.{◌≡◌, refl, sym, ap, ◌∙◌}
use Prim.Native.Nat.{ℕ}
use native.Mathlib.Omega.{arith}
use Rattle.link_rules.specs.Network.{all_below}
use Rattle.link_rules.proofs.TableLaws.{all_more, all_fails}
use Rattle.carry.specs.Carry.{carried_fits}
use borrow.Author.Rules.{rules}
use Rattle.carry.proofs.all_carried.Goals as goal

pub loop-i-init : goal.loop-i-init
unfolding all_below
loop-i-init c = (search rules, refl)

pub carried_fits-requires : goal.carried_fits-requires
carried_fits-requires c = let p = c.requires in (p.0, p.1, omega (arith, p.2, c.loop-i-test.true))

pub loop-i-preserved : goal.loop-i-preserved
loop-i-preserved c = let a = c.args in
    let l = c.loop-i in
    (search rules, all_more (carried_fits a.yard.now a.wide.now) l.i l.invariant.1 (sym c.carried_fits.ensures ∙ c.if-not-carried_fits.false))

pub returns-then-not-carried_fits : goal.returns-then-not-carried_fits
returns-then-not-carried_fits c = let a = c.args in
    let l = c.loop-i in
    sym (all_fails (carried_fits a.yard.now a.wide.now) a.count l.i (omega (arith, c.loop-i-test.true)) (sym c.carried_fits.ensures ∙ c.if-not-carried_fits.true))

pub returns : goal.returns
returns c = let a = c.args in
    let l = c.loop-i in
    let e : l.i ≡ a.count = omega (arith, l.invariant.0, c.loop-i-test.false) in
    sym (ap (λ (n : ℕ). all_below n (carried_fits a.yard.now a.wide.now)) (sym e) ∙ l.invariant.1)
