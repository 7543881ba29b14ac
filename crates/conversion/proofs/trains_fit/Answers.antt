use Rattle.std.proofs.Common.{rules, tests}
use Rattle.link_rules.proofs.RangeLaws.{all_ran}
use Rattle.conversion.specs.Conversion.{fits_narrow}
use Rattle.conversion.proofs.trains_fit.Goals as goal

pub returns : goal.returns
returns c = all_ran (fits_narrow c.args.image.now) c.args.m c.all.ensures.ran (λ x b q k. search (rules, tests))
