use mathlib.Core.Bool.{not}
use mathlib.Core.Path.{ap}
use Rattle.free_path.specs.Validate.{bad_step}
use Rattle.validate.proofs.step.bad_step.Goals as goal

pub returns-then-steps_next : goal.returns-then-steps_next
unfolding bad_step
returns-then-steps_next c = rw (← c.steps_next.ensures, c.if-steps_next.true) (ap not c.near.ensures)

pub returns-then-steps_alt : goal.returns-then-steps_alt
unfolding bad_step
returns-then-steps_alt c = rw (← c.steps_next.ensures, c.if-steps_next.false, ← c.steps_alt.ensures, c.if-steps_alt.true) (ap not c.near-then-steps_alt.ensures)

pub returns : goal.returns
unfolding bad_step
returns c = rw (← c.steps_next.ensures, c.if-steps_next.false, ← c.steps_alt.ensures, c.if-steps_alt.false)
