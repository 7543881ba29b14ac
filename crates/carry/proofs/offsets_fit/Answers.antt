use mathlib.Core.Path.{◌≡◌, refl, sym, ap, ◌∙◌}
use Prim.Native.Nat.{ℕ}
use native.Mathlib.Omega.{arith}
use Rattle.link_rules.specs.Network.{all_below}
use Rattle.link_rules.proofs.TableLaws.{all_more, all_fails}
use Rattle.yard_check.specs.Yard.{slot_count}
use Rattle.carry.specs.Carry.{offset_fits}
use borrow.Author.Rules.{rules}
use Rattle.carry.proofs.offsets_fit.Goals as goal

pub loop-i-init : goal.loop-i-init
unfolding all_below
loop-i-init c = (search rules, refl)

pub offset_fits-requires : goal.offset_fits-requires
offset_fits-requires c = let p = c.requires in (p.0, p.1, omega (arith, c.slot_count-slots.ensures, c.loop-i-test.true))

pub loop-i-preserved : goal.loop-i-preserved
loop-i-preserved c = let a = c.args in
    let l = c.loop-i in
    (search rules, all_more (offset_fits a.yard.now a.wide.now) l.i l.invariant.1 (sym c.offset_fits.ensures ∙ c.if-not-offset_fits.false))

pub returns-then-not-offset_fits : goal.returns-then-not-offset_fits
returns-then-not-offset_fits c = let a = c.args in
    let l = c.loop-i in
    sym (all_fails (offset_fits a.yard.now a.wide.now) (slot_count a.yard.now) l.i (omega (arith, c.slot_count-slots.ensures, c.loop-i-test.true)) (sym c.offset_fits.ensures ∙ c.if-not-offset_fits.true))

pub returns : goal.returns
returns c = let a = c.args in
    let l = c.loop-i in
    let e : l.i ≡ slot_count a.yard.now = omega (arith, l.invariant.0, c.loop-i-test.false, c.slot_count-slots.ensures) in
    sym (ap (λ (n : ℕ). all_below n (offset_fits a.yard.now a.wide.now)) (sym e) ∙ l.invariant.1)
