use mathlib.Core.Path.{◌≡◌}
use mathlib.Core.Bool.{true}
use Prim.Native.Nat.{◌+◌, ◌≤◌}
use Rattle.link_rules.specs.Network.{all_below}
use Rattle.game.specs.Sets.{opened_in, won}
use Rattle.game.proofs.tables.all_openings.Given as goal

-- `tables::all_openings` meets its contract. The loop's invariant: all answers tried so far lead to a win. Assumes nothing.
abbrev pub invariant-loop-a : goal.invariant-loop-a
invariant-loop-a l = (l.a ≤ l.k + 1) × (all_below l.a (λ j. won l.t (opened_in l.k l.c j)) ≡ true)
