use Rattle.std.proofs.Common.{rules, tests}
use Rattle.sitting.specs.Replay.{step_fits}
use Rattle.sitting.proofs.step_fits.Goals as goal

pub returns-then-s-eq0 : goal.returns-then-s-eq0
unfolding step_fits
returns-then-s-eq0 c = search (rules, tests)

pub returns-else-s-eq0 : goal.returns-else-s-eq0
unfolding step_fits
returns-else-s-eq0 c = search (rules, tests)
