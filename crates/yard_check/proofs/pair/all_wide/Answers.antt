use Rattle.std.proofs.Common.{◌+◌, rules, tests}
use Rattle.image.specs.Image.{is_wide}
use Rattle.yard_check.specs.Pair.{pair_image}
use Rattle.link_rules.proofs.RangeLaws.{all_ran}
use Rattle.yard_check.proofs.pair.all_wide.Goals as goal

pub returns : goal.returns
returns c = let a = c.args in
    all_ran (λ i. is_wide (pair_image a.yard.now a.second.now a.count (i + 1))) a.slots c.all.ensures.ran (λ x b q k. search (rules, tests))
