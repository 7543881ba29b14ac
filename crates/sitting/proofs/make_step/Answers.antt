use Rattle.sitting.proofs.StepLaws.{step_marked, step_checked}
use Rattle.sitting.proofs.make_step.Goals as goal

-- src/lib.rt:267:9
-- src/lib.rt:267:9
pub mark_step-requires : goal.mark_step-requires
mark_step-requires c = c.requires.fits

-- src/lib.rt:269:5
pub returns-then-s-eq0 : goal.returns-then-s-eq0
returns-then-s-eq0 c = let a = c.args in
    step_marked a.recording.now a.s a.yard.now a.occupancy.now a.j.report a.table.now _ _ c.if-s-eq0.true c.mark_step.ensures

-- src/lib.rt:255:1
pub check_step-requires : goal.check_step-requires
check_step-requires c = c.requires.room

pub returns-else-s-eq0 : goal.returns-else-s-eq0
returns-else-s-eq0 c = let a = c.args in
    step_checked a.recording.now a.s a.yard.now a.occupancy.now a.j.report a.table.now _ _ c.if-s-eq0.false c.check_step.ensures
