use lib.Ieee.{ne}
use Rattle.disp_structs.specs.Floats.{near_float}
use Rattle.disp_structs.proofs.floats.near.Goals as goal

pub returns-then-magnitude : goal.returns-then-magnitude
unfolding near_float
returns-then-magnitude c = rw (← c.magnitude.ensures, c.if-magnitude.true)

pub returns-then-s : goal.returns-then-s
unfolding near_float ne
returns-then-s c = rw (← c.magnitude.ensures, c.if-magnitude.false, c.if-s.true, ← c.magnitude-then-s.ensures)

pub returns-else-s : goal.returns-else-s
unfolding near_float ne
returns-else-s c = rw (← c.magnitude.ensures, c.if-magnitude.false, c.if-s.false)
