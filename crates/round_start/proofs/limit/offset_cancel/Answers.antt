use mathlib.Core.Path.{refl}
use Rattle.round_start.proofs.limit.offset_cancel.Goals as goal

pub returns-then-local : goal.returns-then-local
returns-then-local c = rw (c.if-local.true, c.maximum.ensures)

pub returns-else-local : goal.returns-else-local
returns-else-local c = rw c.if-local.false refl
