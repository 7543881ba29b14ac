use mathlib.Core.Path.{◌∙◌, ap}
use Rattle.train_disp.specs.TrainDisp.{Laid}
use Rattle.free_path_c.specs.Words.{answer_word}
use Rattle.free_path_c.proofs.lavtoeu_lay_out.Goals as goal

pub returns : goal.returns
returns c = let e = c.lay_out.ensures in
    (c.answer_word.ensures ∙ ap (λ (m : Laid). answer_word m.answer) e, ap (λ (m : Laid). m.image) e)
