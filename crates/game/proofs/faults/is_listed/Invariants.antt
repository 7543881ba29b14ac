use mathlib.Core.Path.{◌≡◌}
use lib.ListN.{drop}
use Rattle.game.specs.Game.{is_listed}
use Rattle.game.proofs.faults.is_listed.Given as goal

abbrev pub invariant-loop-i : goal.invariant-loop-i
invariant-loop-i l = is_listed (drop l.i l.links) l.x ≡ is_listed (drop l.from l.links) l.x
