use Rattle.std.proofs.Common.{rules, tests}
use Rattle.sitting.specs.Replay.{mark_fits}
use Rattle.sitting.proofs.mark_fits.Goals as goal

pub returns-then-s-eq0-3 : goal.returns-then-s-eq0-3
unfolding mark_fits
returns-then-s-eq0-3 c = search (rules, tests)

pub returns-else-s-eq0-3 : goal.returns-else-s-eq0-3
unfolding mark_fits
returns-else-s-eq0-3 c = search (rules, tests)
