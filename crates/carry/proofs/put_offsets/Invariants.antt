use mathlib.Core.Path.{◌≡◌}
use Prim.Native.Nat.{◌≤◌}
use lib.ListN.{length}
use Rattle.yard_check.specs.Yard.{slot_count}
use Rattle.carry.specs.Carry.{with_offsets}
use Rattle.carry.proofs.put_offsets.Given as goal

abbrev pub invariant-loop-i : goal.invariant-loop-i
invariant-loop-i l = (l.i ≤ l.slots) × (l.slots ≡ slot_count l.yard) × (l.wide ≡ with_offsets l.yard l.i l.initial.wide) × (length l.wide ≡ length l.initial.wide)
