use Rattle.std.proofs.Common.{refl, sym, ap, ◌∙◌}
use Rattle.link_rules.specs.Refusals.{no_refusal}
use Rattle.link_rules.proofs.RefusalLaws.{raised_none}
use Rattle.free_path_c.specs.Words.{answer_word}
use Rattle.free_path_c.proofs.PlainLaws.{word_plain, plain_alone}
use Rattle.free_path_c.proofs.lavtoeu_image_fault.Goals as goal

pub returns : goal.returns
returns c = let a = c.args in
    c.answer_word.ensures ∙ ap answer_word (c.fault_with.ensures no_refusal (sym (raised_none no_refusal refl))) ∙ word_plain _ (plain_alone a.image.now a.links)
