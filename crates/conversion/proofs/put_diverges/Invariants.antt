use mathlib.Core.Path.{◌≡◌}
use Rattle.disp_structs.specs.Listed.{listed}
use Rattle.image.specs.Image.{is_wide, diverge_at}
use Rattle.image_store.specs.Stored.{diverges_into}
use Rattle.conversion.proofs.put_diverges.Given as goal

abbrev pub invariant-loop-i : goal.invariant-loop-i
invariant-loop-i l = l.out ≡ diverges_into (is_wide l.initial.out) (listed l.i (diverge_at l.image)) l.initial.out
