use Rattle.disp_structs.specs.Floats.{in_reach}
use Rattle.disp_structs.proofs.floats.in_reach.Goals as goal

pub returns-then-x : goal.returns-then-x
unfolding in_reach
returns-then-x c = rw c.if-x.true

pub returns-else-x : goal.returns-else-x
unfolding in_reach
returns-else-x c = rw c.if-x.false
