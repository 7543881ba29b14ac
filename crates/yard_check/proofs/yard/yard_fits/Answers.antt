use Rattle.std.proofs.Common.{rules, tests}
use Rattle.yard_check.specs.Yard.{yard_fits}
use Rattle.yard_check.proofs.yard.yard_fits.Goals as goal

pub returns-then-part_begin-slots : goal.returns-then-part_begin-slots
unfolding yard_fits
returns-then-part_begin-slots c = search (rules, tests)

pub returns-else-part_begin-slots : goal.returns-else-part_begin-slots
unfolding yard_fits
returns-else-part_begin-slots c = search (rules, tests)
