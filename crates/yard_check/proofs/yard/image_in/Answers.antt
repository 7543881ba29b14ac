use Rattle.std.proofs.Common.{rules, tests}
use Rattle.yard_check.specs.Yard.{image_in}
use Rattle.yard_check.proofs.yard.image_in.Goals as goal

pub returns-then-slot-lt1 : goal.returns-then-slot-lt1
unfolding image_in
returns-then-slot-lt1 c = search (rules, tests)

pub returns : goal.returns
unfolding image_in
returns c = search (rules, tests)
