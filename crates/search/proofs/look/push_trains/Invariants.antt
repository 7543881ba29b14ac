use mathlib.Core.Path.{◌≡◌}
use mathlib.Core.List.{◌++◌}
use Prim.Native.Nat.{◌+◌, ◌≤◌}
use lib.ListN.{length, take}
use Rattle.free_path.specs.Columns.{trains}
use Rattle.search.specs.Read.{trains_from}
use Rattle.search.proofs.look.push_trains.Given as goal

abbrev pub invariant-loop-j : goal.invariant-loop-j
invariant-loop-j l = (l.j ≤ l.k) × (length l.pool ≡ 2048) × (take (l.len + l.j) (trains l.pool) ≡ take l.len (trains l.initial.pool) ++ trains_from l.col l.a l.j)
