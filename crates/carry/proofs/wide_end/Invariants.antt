use mathlib.Core.Path.{◌≡◌}
use Prim.Native.Nat.{◌+◌, ◌*◌, ◌≤◌, ◌<◌}
use lib.ListN.{length}
use Rattle.carry.specs.Carry.{wide_end}
use Rattle.carry.proofs.wide_end.Given as goal

abbrev pub invariant-loop-i : goal.invariant-loop-i
invariant-loop-i l = (l.i ≤ l.n) × (l.n ≤ 63) × (length l.yard < 4294967296) × (l.end ≡ wide_end l.yard l.i) × (l.end ≤ 260 + 21474836480 * l.i)
