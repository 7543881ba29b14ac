use Rattle.std.proofs.Common.{rules, tests}
use Rattle.link_rules.proofs.RangeLaws.{all_ran}
use Rattle.image_fault.specs.CodeFacts.{leads_on}
use Rattle.image_fault.proofs.ascends.Goals as goal

pub returns : goal.returns
returns c = all_ran (leads_on c.args.img.now) c.args.e c.all.ensures.ran (λ x b q k. search (rules, tests))
