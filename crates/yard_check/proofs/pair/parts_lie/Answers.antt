use Rattle.std.proofs.Common.{◌+◌, rules, tests}
use Rattle.yard_check.specs.Pair.{part_lies}
use Rattle.link_rules.proofs.RangeLaws.{all_ran}
use Rattle.yard_check.proofs.pair.parts_lie.Goals as goal

pub returns : goal.returns
returns c = all_ran (λ i. part_lies c.args.yard.now (i + 1)) c.args.slots c.all.ensures.ran (λ x b q k. search (rules, tests))
