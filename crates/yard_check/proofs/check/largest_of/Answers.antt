use Rattle.std.proofs.Common.{rules, tests}
use Rattle.image.specs.Image.{largest_of}
use Rattle.yard_check.proofs.check.largest_of.Goals as goal

pub returns-then-wide : goal.returns-then-wide
unfolding largest_of
returns-then-wide c = search (rules, tests)

pub returns-else-wide : goal.returns-else-wide
unfolding largest_of
returns-else-wide c = search (rules, tests)
