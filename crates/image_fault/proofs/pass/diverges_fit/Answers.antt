use Rattle.std.proofs.Common.{rules, tests}
use Rattle.link_rules.proofs.RangeLaws.{all_ran}
use Rattle.image_fault.specs.ImageFault.{diverge_fits}
use Rattle.image_fault.proofs.pass.diverges_fit.Goals as goal

pub returns : goal.returns
returns c = all_ran (diverge_fits c.args.img.now) c.args.m c.all.ensures.ran (λ x b q k. search (rules, tests))
