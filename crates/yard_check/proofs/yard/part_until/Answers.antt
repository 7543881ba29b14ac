use Rattle.std.proofs.Common.{rules, tests}
use Rattle.yard_check.specs.Yard.{part_until}
use Rattle.yard_check.proofs.yard.part_until.Goals as goal

pub returns : goal.returns
unfolding part_until
returns c = search (rules, tests)
