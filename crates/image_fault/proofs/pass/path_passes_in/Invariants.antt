use Rattle.image_fault.proofs.ArrivalLaws.{Flagged}
use Rattle.link_rules.specs.Network.{all_below}
use Rattle.image.specs.Image.{node_at}
use Rattle.image_fault.specs.AllFit.{path_passes}
use mathlib.Core.Path.{◌≡◌}
use mathlib.Core.Bool.{true}
use Prim.Native.Nat.{◌-◌, ◌<◌}
use lib.ListN.{length}
use Rattle.image_fault.proofs.pass.path_passes_in.Given as goal

abbrev pub invariant-loop-i : goal.invariant-loop-i
invariant-loop-i l = (length l.seen ≡ length l.initial.seen) × Flagged (length l.initial.seen) l.img l.seen l.i × (0 < l.i → l.b ≡ (node_at l.img (l.i - 1)).est_idx) × (all_below l.i (path_passes l.img l.links) ≡ true)
