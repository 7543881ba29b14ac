use Rattle.std.proofs.Common.{rules, tests}
use Rattle.sitting.specs.Replay.{check_fits}
use Rattle.sitting.proofs.check_fits.Goals as goal

pub returns-then-s-le1 : goal.returns-then-s-le1
unfolding check_fits
returns-then-s-le1 c = search (rules, tests)

pub returns-else-s-le1 : goal.returns-else-s-le1
unfolding check_fits
returns-else-s-le1 c = search (rules, tests)
