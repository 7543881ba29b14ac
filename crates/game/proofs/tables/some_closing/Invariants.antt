use mathlib.Core.Path.{◌≡◌}
use mathlib.Core.Bool.{false}
use Prim.Native.Nat.{◌+◌, ◌≤◌}
use Rattle.game.specs.Sets.{some_below, shut_in, won}
use Rattle.game.proofs.tables.some_closing.Given as goal

-- `tables::some_closing` meets its contract. The loop's invariant: no closing tried so far leads to a win. Assumes nothing.
abbrev pub invariant-loop-i : goal.invariant-loop-i
invariant-loop-i l = (l.i ≤ l.k + 1) × (some_below l.i (λ j. won l.t (shut_in l.k l.c j)) ≡ false)
