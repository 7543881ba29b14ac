use mathlib.Core.Path.{◌∙◌, ap}
use Rattle.link_index.specs.Indexed.{Undone}
use Rattle.free_path_c.specs.Words.{answer_word}
use Rattle.free_path_c.proofs.index.lavtoeu_undo_indexed.Goals as goal

pub returns : goal.returns
returns c = let e = c.undo_indexed.ensures in
    record { word = c.answer_word.ensures ∙ ap (λ (m : Undone). answer_word m.answer) e; yard_bytes = ap (λ (m : Undone). m.yard) e; entries = ap (λ (m : Undone). m.index) e }
