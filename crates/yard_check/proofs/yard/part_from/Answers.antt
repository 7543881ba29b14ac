use Rattle.std.proofs.Common.{rules, tests}
use Rattle.yard_check.specs.Yard.{part_from}
use Rattle.yard_check.proofs.yard.part_from.Goals as goal

pub returns : goal.returns
unfolding part_from
returns c = search (rules, tests)
