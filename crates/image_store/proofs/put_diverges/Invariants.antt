use mathlib.Core.Path.{◌≡◌}
use Rattle.disp_structs.specs.Listed.{listed}
use Rattle.free_path.specs.Columns.{div_at}
use Rattle.image.specs.Image.{is_wide}
use Rattle.image_store.specs.Stored.{diverges_into}
use Rattle.image_store.proofs.put_diverges.Given as goal

abbrev pub invariant-loop-i : goal.invariant-loop-i
invariant-loop-i l = l.image ≡ diverges_into (is_wide l.initial.image) (listed l.i (div_at l.dt l.dn)) l.initial.image
