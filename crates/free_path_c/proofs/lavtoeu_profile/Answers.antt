use Rattle.std.proofs.Common.{ap, ◌∙◌}
use Rattle.free_path_c.specs.Words.{answer_word}
use Rattle.free_path_c.proofs.PlainLaws.{word_plain, plain_profile}
use Rattle.free_path_c.proofs.lavtoeu_profile.Goals as goal

pub returns : goal.returns
returns c = let a = c.args in
    let o = c.profile_fault.ensures in
    c.answer_word.ensures ∙ ap answer_word o ∙ word_plain _ (plain_profile a.image.now)
