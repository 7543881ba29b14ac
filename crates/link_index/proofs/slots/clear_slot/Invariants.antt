use mathlib.Core.Path.{◌≡◌}
use Prim.Native.Nat.{◌≤◌}
use lib.ListN.{length}
use Rattle.link_index.proofs.SlotLaws.{cleared_to}
use Rattle.link_index.proofs.slots.clear_slot.Given as goal

abbrev pub invariant-loop-l : goal.invariant-loop-l
invariant-loop-l l = (l.l ≤ length l.initial.index) × (length l.index ≡ length l.initial.index) × (l.index ≡ cleared_to l.l l.t l.initial.index)
