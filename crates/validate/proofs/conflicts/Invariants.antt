use mathlib.Core.Path.{◌≡◌}
use Prim.Native.Nat.{◌+◌, ◌≤◌, ◌<◌}
use lib.ListN.{drop}
use Rattle.disp_structs.specs.Listed.{listed}
use Rattle.image.specs.Image.{node_at}
use Rattle.free_path.specs.Base.{count}
use Rattle.free_path.specs.Validate.{in_conflict}
use Rattle.validate.proofs.conflicts.Given as goal

abbrev pub invariant-loop-i : goal.invariant-loop-i
invariant-loop-i l = (l.k ≤ l.i) × (l.i < 4294967296) × (l.k + count (in_conflict l.occ) (drop l.i (listed l.n (node_at l.img))) ≡ count (in_conflict l.occ) (drop l.free (listed l.n (node_at l.img))))
