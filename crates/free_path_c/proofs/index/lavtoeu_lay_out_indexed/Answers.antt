use mathlib.Core.Path.{◌∙◌, ap}
use Rattle.link_index.specs.Indexed.{Laid}
use Rattle.free_path_c.specs.Words.{answer_word}
use Rattle.free_path_c.proofs.index.lavtoeu_lay_out_indexed.Goals as goal

pub returns : goal.returns
returns c = let e = c.lay_out_indexed.ensures in
    record { word = c.answer_word.ensures ∙ ap (λ (m : Laid). answer_word m.answer) e; image_bytes = ap (λ (m : Laid). m.image) e; entries = ap (λ (m : Laid). m.index) e }
