-- What the tests of an undo record say of its length. Assumes nothing.
use mathlib.Core.Path.{◌≡◌}
use mathlib.Core.Bool.{true}
use mathlib.Core.List.{List}
use Prim.Native.Nat.{ℕ, ◌≤◌}
use lib.Dec.{leb}
use lib.ListN.{length}
use borrow.Author.Tests.{leb-true}
use Rattle.link_rules.proofs.TableLaws.{both}
use Rattle.undo.specs.Undo.{filled_bytes, numbers_fit}

-- a record whose numbers fit lies within its buffer
pub numbers-room : (y : ℕ) (r : List ℕ) → numbers_fit y r ≡ true → filled_bytes y ≤ length r
unfolding numbers_fit
numbers-room y r h = leb-true (filled_bytes y) (length r) (both (leb (filled_bytes y) (length r)) _ h).0
