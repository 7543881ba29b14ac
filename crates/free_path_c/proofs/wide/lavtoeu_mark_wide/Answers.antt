use mathlib.Core.Path.{◌∙◌, ap}
use Rattle.link_rules.specs.AdvanceRewind.{Marked}
use Rattle.free_path_c.specs.Words.{answer_word}
use Rattle.free_path_c.proofs.wide.lavtoeu_mark_wide.Goals as goal

pub returns : goal.returns
returns c = let e = c.mark_wide.ensures in
    (c.answer_word.ensures ∙ ap (λ (m : Marked). answer_word m.answer) e, ap (λ (m : Marked). m.occupancy) e)
