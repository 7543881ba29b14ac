use mathlib.Core.Path.{◌≡◌}
use Prim.Native.Nat.{◌≤◌}
use lib.ListN.{length}
use Rattle.game.specs.Sets.{won, some_closing, Verdicts}
use Rattle.game.proofs.tables.before_closing.Given as goal

-- `tables::before_closing` meets its contract. The loop's invariant: the entries below c are right. Assumes nothing.
abbrev pub invariant-loop-c : goal.invariant-loop-c
invariant-loop-c l = (l.c ≤ l.n) × (length l.out ≡ 256) × Verdicts l.c (some_closing l.k (won l.t)) l.out
