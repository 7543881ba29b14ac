use Rattle.std.proofs.Common.{ap, ◌∙◌}
use Rattle.free_path_c.specs.Words.{answer_word}
use Rattle.free_path_c.proofs.PlainLaws.{word_plain, plain_widen}
use Rattle.free_path_c.proofs.wide.lavtoeu_widen.Goals as goal

pub returns : goal.returns
returns c = let a = c.args in
    let o = c.widen.ensures in
    (c.answer_word.ensures ∙ ap answer_word o.0 ∙ word_plain _ (plain_widen a.image.now _), o.1)
