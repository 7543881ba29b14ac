use mathlib.Core.Path.{◌≡◌}
use mathlib.Core.Bool.{◌&&◌}
use Prim.Native.Nat.{ℕ}
use lib.Dec.{leb}
use lib.ListN.{drop}
use Rattle.update_definition.specs.UpdateImage.{entries_up_to}
use Rattle.update_free_path.proofs.call.greatest_train.Given as goal

abbrev pub invariant-loop-x : goal.invariant-loop-x
invariant-loop-x l = (top : ℕ) → (entries_up_to top (drop l.x-index l.occ) && leb l.t top) ≡ (entries_up_to top l.occ && leb l.moved top)
