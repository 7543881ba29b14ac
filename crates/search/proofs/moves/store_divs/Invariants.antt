use mathlib.Core.Path.{◌≡◌}
use mathlib.Core.List.{◌++◌}
use Prim.Native.Nat.{◌+◌, ◌≤◌}
use lib.ListN.{length}
use Rattle.search.specs.Read.{divs_of}
use Rattle.search.proofs.DepositLaws.{divs_from}
use Rattle.search.proofs.moves.store_divs.Given as goal

abbrev pub invariant-loop-j : goal.invariant-loop-j
invariant-loop-j l = (l.j ≤ l.k) × (length l.nt ≡ length l.initial.nt) × (length l.nn ≡ length l.initial.nn) × (divs_of (l.count + l.j) l.nt l.nn ≡ divs_of l.count l.initial.nt l.initial.nn ++ divs_from l.node l.pool l.b l.j)
