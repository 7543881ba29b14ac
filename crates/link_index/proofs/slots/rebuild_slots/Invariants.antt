use mathlib.Core.Path.{◌≡◌}
use Prim.Native.Nat.{◌≤◌}
use lib.ListN.{length}
use Rattle.link_index.specs.Bits.{bit_of}
use Rattle.link_index.specs.Slots.{slots_done}
use Rattle.link_index.proofs.slots.rebuild_slots.Given as goal

abbrev pub invariant-loop-t : goal.invariant-loop-t
invariant-loop-t l = (l.t ≤ 64) × (length l.index ≡ length l.initial.index) × (l.index ≡ slots_done (bit_of l.set) l.yard l.t l.initial.index)
