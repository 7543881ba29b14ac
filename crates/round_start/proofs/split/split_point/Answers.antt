use mathlib.Core.Path.{refl}
use Rattle.disp_structs.specs.Listed.{listed}
use Rattle.free_path.specs.Columns.{link_at}
use Rattle.round_start.proofs.SplitLaws.{none-met}
use Rattle.round_start.proofs.split.split_point.Goals as goal

pub returns-then-is_apart : goal.returns-then-is_apart
returns-then-is_apart c = let a = c.args in
    rw (← c.is_apart.ensures, c.if-is_apart.true) (refl, none-met a.sentinel (listed a.n (link_at a.col.now)) a.occ.now)

pub returns : goal.returns
returns c = rw (← c.is_apart.ensures, c.if-is_apart.false) c.meeting.ensures
