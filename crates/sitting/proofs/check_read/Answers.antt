use Rattle.sitting.proofs.StepLaws.{check-made}
use mathlib.Core.Path.{refl}
use Rattle.sitting.proofs.check_read.Goals as goal

pub returns : goal.returns
returns c = let a = c.args in
    check-made a.recording.now a.s a.yard.now a.occupancy.now _ _ a.report.now _ _ _ _ c.check_deadlock.result refl c.read_links.ensures c.check_deadlock.ensures c.check_number.ensures
