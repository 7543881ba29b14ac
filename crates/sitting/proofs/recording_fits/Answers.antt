use Rattle.std.proofs.Common.{rules, tests}
use Rattle.sitting.specs.Replay.{recording_fits}
use Rattle.sitting.proofs.recording_fits.Goals as goal

pub returns-then-recording-n : goal.returns-then-recording-n
unfolding recording_fits
returns-then-recording-n c = search (rules, tests)

pub returns-else-recording-n : goal.returns-else-recording-n
unfolding recording_fits
returns-else-recording-n c = search (rules, tests)
