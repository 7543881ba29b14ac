use Rattle.std.proofs.Common.{ap, ◌∙◌}
use Rattle.free_path_c.specs.Words.{answer_word}
use Rattle.free_path_c.proofs.PlainLaws.{word_plain, plain_page}
use Rattle.free_path_c.proofs.lavtoeu_page.Goals as goal

pub returns : goal.returns
returns c = let a = c.args in
    let o = c.page.ensures in
    (c.answer_word.ensures ∙ ap answer_word o.0 ∙ word_plain _ (plain_page a.image.now a.page.now), o.1)
