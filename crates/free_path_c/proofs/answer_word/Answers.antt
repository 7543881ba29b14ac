use Rattle.std.proofs.Common.{sym, ap, ◌∙◌}
use Rattle.free_path_c.specs.Words.{answer_word}
use Rattle.free_path_c.proofs.answer_word.Goals as goal

pub returns-in-Err : goal.returns-in-Err
returns-in-Err c = c.fault_word.ensures ∙ sym (ap answer_word c.in-Err.is)
