use Rattle.std.proofs.Common.{rules, tests}
use Rattle.yard_check.specs.Yard.{part_fits}
use Rattle.yard_check.proofs.yard.part_fits.Goals as goal

pub returns-then-b-part_end : goal.returns-then-b-part_end
unfolding part_fits
returns-then-b-part_end c = search (rules, tests)

pub returns-else-b-part_end : goal.returns-else-b-part_end
unfolding part_fits
returns-else-b-part_end c = search (rules, tests)
