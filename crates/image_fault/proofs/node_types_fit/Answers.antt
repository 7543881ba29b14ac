use Rattle.std.proofs.Common.{rules, tests}
use Rattle.link_rules.proofs.RangeLaws.{all_ran}
use Rattle.image_fault.specs.ImageFault.{node_type_fits}
use Rattle.image_fault.proofs.node_types_fit.Goals as goal

pub returns : goal.returns
returns c = rw (← c.path_count.ensures) (all_ran (node_type_fits c.args.img.now) c.path_count.result c.all.ensures.ran (λ x b q k. search (rules, tests)))
