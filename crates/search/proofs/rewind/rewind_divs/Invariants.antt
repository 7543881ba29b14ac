use mathlib.Core.Path.{◌≡◌}
use mathlib.Core.List.{List}
use Prim.Native.Nat.{ℕ, ◌≤◌}
use Rattle.free_path.specs.Base.{walk_back}
use Rattle.search.specs.Read.{divs_of}
use Rattle.search.proofs.RewindLaws.{off}
use Rattle.search.proofs.rewind.rewind_divs.Given as goal

abbrev pub invariant-loop-k : goal.invariant-loop-k
invariant-loop-k l = (l.k ≤ l.count) × ((nt : List ℕ) → walk_back (off l.join) (divs_of l.count nt l.nn) l.k ≡ walk_back (off l.join) (divs_of l.count nt l.nn) l.count)
