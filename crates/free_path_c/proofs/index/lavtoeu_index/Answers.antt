use Rattle.std.proofs.Common.{ap, ◌∙◌}
use Rattle.free_path_c.specs.Words.{answer_word}
use Rattle.free_path_c.proofs.PlainLaws.{word_plain, plain_build}
use Rattle.free_path_c.proofs.index.lavtoeu_index.Goals as goal

pub returns : goal.returns
returns c = let a = c.args in
    let o = c.build_index.ensures in
    (c.answer_word.ensures ∙ ap answer_word o.0 ∙ word_plain _ (plain_build a.yard.now a.index.now), o.1)
