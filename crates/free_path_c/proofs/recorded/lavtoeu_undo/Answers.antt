use mathlib.Core.Path.{◌∙◌, ap}
use Rattle.undo.specs.Undo.{Undone}
use Rattle.free_path_c.specs.Words.{answer_word}
use Rattle.free_path_c.proofs.recorded.lavtoeu_undo.Goals as goal

pub returns : goal.returns
returns c = let e = c.undo.ensures in
    (c.answer_word.ensures ∙ ap (λ (m : Undone). answer_word m.answer) e, ap (λ (m : Undone). m.yard) e)
