use mathlib.Core.Path.{◌≡◌, refl, ap, ◌∙◌}
use mathlib.Core.List.{List}
use Prim.Native.Nat.{ℕ, ◌+◌}
use native.Mathlib.Omega.{arith}
use lib.ListN.{length}
use Rattle.link_index.specs.Bits.{bit_of}
use Rattle.link_index.specs.Slots.{slots_done, slot_rebuilt}
use Rattle.link_index.proofs.SlotLaws.{slots_length, slots_start, slots-turn}
use Rattle.link_index.proofs.slots.rebuild_slots.Goals as goal

pub loop-t-init : goal.loop-t-init
loop-t-init c = let a = c.args in (omega arith, refl, slots_start (bit_of a.set) a.yard.now a.index.now (λ l. omega (arith, c.slice_known-1.given l)))

pub rebuild_slot-requires : goal.rebuild_slot-requires
rebuild_slot-requires c = (c.loop-t-test.true, omega (arith, c.loop-t.invariant.1, c.requires))

pub loop-t-preserved : goal.loop-t-preserved
loop-t-preserved c = let g = c.loop-t in
    let a = c.args in
    let xs = a.index.now in
    let h = c.loop-t-test.true in
    let e = c.rebuild_slot.ensures
    ∙ (ap (λ (ys : List ℕ). slot_rebuilt (bit_of a.set g.t) a.yard.now g.t ys) g.invariant.2 ∙ slots-turn (bit_of a.set) a.yard.now xs g.t h) in
    (omega (arith, h), ap (λ (ys : List ℕ). length ys) e ∙ slots_length (bit_of a.set) a.yard.now xs (g.t + 1), e)

pub shape_of-index : goal.shape_of-index
shape_of-index c = c.loop-t.invariant.1

pub returns : goal.returns
returns c = let g = c.loop-t in
    let a = c.args in
    let e : g.t ≡ 64 = omega (arith, g.invariant.0, c.loop-t-test.false) in
    g.invariant.2 ∙ ap (λ (n : ℕ). slots_done (bit_of a.set) a.yard.now n a.index.now) e
