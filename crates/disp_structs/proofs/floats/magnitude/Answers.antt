use Rattle.disp_structs.specs.Floats.{magnitude}
use Rattle.disp_structs.proofs.floats.magnitude.Goals as goal

pub returns-then-x : goal.returns-then-x
unfolding magnitude
returns-then-x c = rw c.if-x.true

pub returns-else-x : goal.returns-else-x
unfolding magnitude
returns-else-x c = rw c.if-x.false
