use mathlib.Core.Path.{◌≡◌, sym, ap, ap₂, ◌∙◌}
use Prim.Native.Nat.{ℕ, ◌+◌, ◌*◌}
use native.Mathlib.Omega.{arith}
use Rattle.carry.specs.Carry.{wide_end}
use Rattle.carry.proofs.LayoutLaws.{end_zero, end-turn}
use Rattle.carry.proofs.wide_end.Goals as goal

pub loop-i-init : goal.loop-i-init
loop-i-init c = let a = c.args in
    let p = c.requires in
    let s = c.slot_count.ensures in (
      omega arith,
      omega (arith, p.1, p.2),
      p.0,
      ap (λ (n : ℕ). 8 + 4 * n) s ∙ sym (end_zero a.yard.now),
      omega (arith, s, p.1),
    )

pub wide_length-end-requires : goal.wide_length-end-requires
wide_length-end-requires c = c.loop-i.invariant.2

pub loop-i-preserved : goal.loop-i-preserved
loop-i-preserved c = let a = c.args in
    let l = c.loop-i in
    let w = c.wide_length-end.ensures in (
      omega (arith, c.loop-i-test.true),
      l.invariant.1,
      l.invariant.2,
      ap₂ (λ (x y : ℕ). x + y) l.invariant.3 w.0 ∙ sym (end-turn a.yard.now l.i),
      omega (arith, l.invariant.4, w.1),
    )

pub returns : goal.returns
returns c = let a = c.args in
    let l = c.loop-i in
    let e : l.i ≡ a.n = omega (arith, l.invariant.0, c.loop-i-test.false) in
    (l.invariant.3 ∙ ap (wide_end a.yard.now) e, omega (arith, l.invariant.4, e))
