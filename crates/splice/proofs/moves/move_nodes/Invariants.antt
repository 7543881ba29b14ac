use mathlib.Core.Path.{◌≡◌}
use Prim.Native.Nat.{◌+◌, ◌*◌}
use lib.Dec.{ltb}
use lib.ListN.{length}
use Rattle.splice.proofs.MoveLaws.{Moved, low, high}
use Rattle.splice.proofs.moves.move_nodes.Given as goal

abbrev pub invariant-loop-moved : goal.invariant-loop-moved
invariant-loop-moved l = (l.moves ≡ l.moved) × (length l.s ≡ length l.initial.s) × Moved l.s l.initial.s (l.p + 32 * l.i) (l.p + 32 * l.j) (low (ltb l.i l.j) l.k l.moved) (high (ltb l.i l.j) l.k l.moved)
