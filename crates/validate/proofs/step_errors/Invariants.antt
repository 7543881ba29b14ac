use mathlib.Core.Path.{◌≡◌}
use Prim.Native.Nat.{◌-◌, ◌<◌}
use lib.ListN.{drop}
use Rattle.disp_structs.specs.Listed.{listed}
use Rattle.image.specs.Image.{est_at, node_at}
use Rattle.free_path.specs.Validate.{bad_path}
use Rattle.validate.proofs.ErrorLaws.{plus}
use Rattle.validate.proofs.step_errors.Given as goal

abbrev pub invariant-loop-i : goal.invariant-loop-i
invariant-loop-i l = (l.k < l.i) × (l.i < 4294967296) × (plus l.k (bad_path (listed l.e (est_at l.img)) (drop (l.i - 1) (listed l.n (node_at l.img)))) ≡ bad_path (listed l.e (est_at l.img)) (listed l.n (node_at l.img))) × (l.a ≡ node_at l.img (l.i - 1)) × (l.x ≡ est_at l.img (node_at l.img (l.i - 1)).est_idx.0)
