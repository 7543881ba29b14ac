use mathlib.Core.Path.{◌≡◌}
use mathlib.Core.Bool.{Bool, true}
use mathlib.Core.List.{List}
use Prim.Native.Nat.{ℕ, ◌+◌, ◌≤◌}
use lib.Dec.{eqb}
use lib.ListN.{length, get_or}
use Rattle.link_rules.specs.Network.{all_below}
use Rattle.carry.proofs.zero_from.Given as goal

abbrev pub is_zero : ℕ → List ℕ → ℕ → Bool
is_zero a bs i = eqb (get_or bs (a + i) 0) 0

abbrev pub invariant-loop-i : goal.invariant-loop-i
invariant-loop-i l = (l.i ≤ l.left) × (l.left + l.a ≡ length l.bs) × (all_below l.i (is_zero l.a l.bs) ≡ true)
