use Rattle.image_fault.proofs.ArrivalLaws.{Flagged}
use Rattle.image.specs.Image.{node_at}
use mathlib.Core.Path.{◌≡◌}
use Prim.Native.Nat.{◌-◌, ◌<◌}
use lib.ListN.{length}
use Rattle.image_fault.specs.ImageFault.{first_unfit, on_route}
use Rattle.image_fault.proofs.path_fault_in.Given as goal

abbrev pub invariant-loop-i : goal.invariant-loop-i
invariant-loop-i l = (length l.seen ≡ length l.initial.seen) × Flagged (length l.initial.seen) l.img l.seen l.i × (0 < l.i → l.b ≡ (node_at l.img (l.i - 1)).est_idx) × (first_unfit 9 (on_route l.img) (l.n - l.i) l.i ≡ first_unfit 9 (on_route l.img) l.n 0)
