use mathlib.Core.Path.{sym}
use native.Mathlib.Omega.{arith}
use lib.Seq.{length-take-le}
use Rattle.sitting.proofs.StepLaws.{check_whole, check-lent}
use Rattle.sitting.proofs.check_step.Goals as goal

-- src/lib.rt:235:9
pub slice_bounds-check_read-end : goal.slice_bounds-check_read-end
slice_bounds-check_read-end c = sym (length-take-le _ c.links_room-blocking.result (omega (arith, c.min-n.ensures, c.links_room-blocking.ensures)))

-- src/lib.rt:229:5
pub slice_bounds-check_read-end-2 : goal.slice_bounds-check_read-end-2
slice_bounds-check_read-end-2 c = sym (length-take-le _ c.report_room-report.result (omega (arith, c.requires, c.report_room-report.ensures)))

pub returns : goal.returns
returns c = let a = c.args in
    let n = c.min-n.ensures in
    check_whole a.recording.now a.s a.yard.now a.occupancy.now _ a.rows _ _ n
    (check-lent a.recording.now a.s a.yard.now a.occupancy.now _ a.rows c.links_room-blocking.result c.report_room-report.result _ _ (omega (arith, n, c.links_room-blocking.ensures)) (omega (arith, c.requires, c.report_room-report.ensures)) c.check_read.ensures)
