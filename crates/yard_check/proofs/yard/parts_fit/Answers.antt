use Rattle.std.proofs.Common.{◌+◌, rules, tests}
use Rattle.yard_check.specs.Yard.{part_fits}
use Rattle.link_rules.proofs.RangeLaws.{all_ran}
use Rattle.yard_check.proofs.yard.parts_fit.Goals as goal

pub returns : goal.returns
returns c = all_ran (λ i. part_fits c.args.yard.now (i + 1)) c.args.slots c.all.ensures.ran (λ x b q k. search (rules, tests))
