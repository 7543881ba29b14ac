use Rattle.image_fault.proofs.CycleArrays.{Holds}
use Rattle.image.specs.Image.{est_at}
use mathlib.Core.Path.{◌≡◌}
use lib.ListN.{length}
use Rattle.image_fault.proofs.lowest_on_cycle.Given as goal

abbrev pub invariant-loop-i : goal.invariant-loop-i
invariant-loop-i l = (length l.next ≡ 512) × (length l.alt ≡ 512) × Holds (λ j. (est_at l.img j).idx_next.0) l.i l.next × Holds (λ j. (est_at l.img j).idx_next_alt.0) l.i l.alt
