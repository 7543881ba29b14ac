use Rattle.std.proofs.Common.{rules, tests}
use Rattle.link_rules.proofs.RangeLaws.{all_ran}
use Rattle.image_fault.specs.ImageFault.{est_type_fits}
use Rattle.image_fault.proofs.est_types_fit.Goals as goal

pub returns : goal.returns
returns c = rw (← c.est_count.ensures) (all_ran (est_type_fits c.args.img.now) c.est_count.result c.all.ensures.ran (λ x b q k. search (rules, tests)))
