-- The measure is the turns left.
use Rattle.game.proofs.tables.+judge.Given as goal

abbrev pub decreases-judge : goal.decreases-judge
decreases-judge l = l.turns
