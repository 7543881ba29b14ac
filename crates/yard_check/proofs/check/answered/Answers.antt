use Rattle.yard_check.proofs.TurnLaws.{erred-answer}
use mathlib.Core.Bool.{not}
use lib.Dec.{eqb}
use Rattle.yard_check.proofs.check.answered.Goals as goal

pub returns-then-y-ne0 : goal.returns-then-y-ne0
returns-then-y-ne0 c = let y = c.args.y in erred-answer y.erred (not (eqb y.blocked 0)) y.next c.if-y-ne0.true

pub returns-else-y-ne0 : goal.returns-else-y-ne0
returns-else-y-ne0 c = rw c.if-y-ne0.false
