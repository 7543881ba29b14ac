use mathlib.Core.Path.{◌≡◌}
use Rattle.disp_structs.specs.Listed.{listed}
use Rattle.free_path.specs.Columns.{div_at}
use Rattle.image.specs.Image.{diverge_at}
use Rattle.update_free_path.proofs.call.take_diverges.Given as goal

abbrev pub invariant-loop-i : goal.invariant-loop-i
invariant-loop-i l = listed l.i (div_at l.dt l.dn) ≡ listed l.i (diverge_at l.img)
