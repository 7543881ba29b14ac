use mathlib.Core.Path.{◌≡◌}
use Prim.Native.Nat.{◌≤◌}
use lib.ListN.{length}
use Rattle.link_index.specs.Slots.{arrivals_added}
use Rattle.link_index.proofs.slots.add_arrivals.Given as goal

abbrev pub invariant-loop-i : goal.invariant-loop-i
invariant-loop-i l = (l.i ≤ l.n) × (length l.index ≡ length l.initial.index) × (l.index ≡ arrivals_added l.image l.i l.t l.initial.index)
