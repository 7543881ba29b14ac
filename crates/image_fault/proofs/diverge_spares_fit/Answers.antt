use Rattle.std.proofs.Common.{rules, tests}
use Rattle.link_rules.proofs.RangeLaws.{all_ran}
use Rattle.image_fault.specs.ImageFault.{diverge_spare_fits}
use Rattle.image_fault.proofs.diverge_spares_fit.Goals as goal

pub returns : goal.returns
returns c = rw (← c.diverge_count.ensures) (all_ran (diverge_spare_fits c.args.img.now) c.diverge_count.result c.all.ensures.ran (λ x b q k. search (rules, tests)))
