use Rattle.std.proofs.Common.{rules, tests}
use Rattle.yard_check.specs.Yard.{part_end}
use Rattle.yard_check.proofs.yard.part_end.Goals as goal

pub returns-then-t-slot_count : goal.returns-then-t-slot_count
unfolding part_end
returns-then-t-slot_count c = search (rules, tests)

pub returns-else-t-slot_count : goal.returns-else-t-slot_count
unfolding part_end
returns-else-t-slot_count c = search (rules, tests)
