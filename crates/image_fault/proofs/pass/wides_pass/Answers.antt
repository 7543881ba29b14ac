use Rattle.std.proofs.Common.{rules, tests}
use Rattle.link_rules.proofs.RangeLaws.{all_ran}
use Rattle.image_fault.specs.AllFit.{wide_passes}
use Rattle.image_fault.proofs.pass.wides_pass.Goals as goal

pub returns : goal.returns
returns c = all_ran (wide_passes c.args.img.now) c.args.m c.all.ensures.ran (λ x b q k. search (rules, tests))
