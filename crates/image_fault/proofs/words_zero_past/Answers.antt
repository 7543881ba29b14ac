use Rattle.std.proofs.Common.{rules, tests}
use Rattle.link_rules.proofs.RangeLaws.{all_ran}
use Rattle.image_fault.specs.ImageFault.{zero_word}
use Rattle.image_fault.proofs.words_zero_past.Goals as goal

pub returns : goal.returns
unfolding zero_word
returns c = all_ran (zero_word c.args.img.now c.args.at) c.args.k c.all.ensures.ran (λ x b q k. search (rules, tests))
