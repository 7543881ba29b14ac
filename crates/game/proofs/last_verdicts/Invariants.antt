use mathlib.Core.Path.{◌≡◌}
use Prim.Native.Nat.{◌≤◌}
use lib.ListN.{length}
use Rattle.game.specs.Sets.{Verdicts, game_of, wins_with}
use Rattle.game.proofs.last_verdicts.Given as goal

abbrev pub invariant-loop-c : goal.invariant-loop-c
invariant-loop-c l = (l.c ≤ l.n) × (length l.out ≡ 256) × (length l.img ≡ length l.image) × (length l.held ≡ length l.occ) × Verdicts l.c (wins_with (game_of l.image l.occ l.o l.links)) l.out
