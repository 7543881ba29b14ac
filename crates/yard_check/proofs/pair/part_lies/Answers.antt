use mathlib.Core.Path.{ap}
use mathlib.Core.List.{List}
use Prim.Native.Nat.{ℕ}
use lib.Dec.{leb}
use lib.ListN.{length}
use Rattle.yard_check.proofs.pair.part_lies.Goals as goal

pub returns : goal.returns
returns c = ap (λ (x : List ℕ). leb 64 (length x)) c.part.ensures
