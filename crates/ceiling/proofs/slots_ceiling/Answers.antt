use mathlib.Core.Path.{◌≡◌, refl, ap, ap₂, ◌∙◌}
use Prim.Native.Nat.{ℕ, ◌+◌}
use native.Mathlib.Omega.{arith}
use Rattle.yard_check.specs.Yard.{part_of}
use Rattle.ceiling.specs.Ceiling.{slots_ceiling}
use Rattle.ceiling.proofs.CeilingLaws.{slot-few, slots-turn}
use Rattle.ceiling.proofs.slots_ceiling.Goals as goal

pub loop-t-init : goal.loop-t-init
unfolding slots_ceiling
loop-t-init c = (omega arith, refl, omega arith)

pub overflow_add-sum : goal.overflow_add-sum
overflow_add-sum c = let l = c.loop-t in
    let a = c.args in
    omega (arith, l.invariant.0, l.invariant.2, c.loop-t-test.true, c.requires, c.slot_ceiling-sum.ensures, slot-few (part_of a.yard.now (l.t + 1)) a.limit (omega (arith, c.ranges)))

pub loop-t-preserved : goal.loop-t-preserved
loop-t-preserved c = let l = c.loop-t in
    let a = c.args in (
      omega (arith, c.loop-t-test.true),
      ap₂ (λ (m n : ℕ). m + n) l.invariant.1 c.slot_ceiling-sum.ensures ∙ slots-turn a.yard.now a.limit l.t,
      omega (arith, l.invariant.2, c.slot_ceiling-sum.ensures, slot-few (part_of a.yard.now (l.t + 1)) a.limit (omega (arith, c.ranges))),
    )

pub returns : goal.returns
returns c = let l = c.loop-t in
    let e : l.t ≡ c.args.slots = omega (arith, l.invariant.0, c.loop-t-test.false) in
    l.invariant.1 ∙ ap (slots_ceiling c.args.yard.now c.args.limit) e
