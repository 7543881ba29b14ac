use mathlib.Core.Path.{◌∙◌, ap}
use Rattle.carry.specs.Carry.{Carried}
use Rattle.free_path_c.specs.Words.{answer_word}
use Rattle.free_path_c.proofs.carried.lavtoeu_carry.Goals as goal

pub returns : goal.returns
returns c = let e = c.carry.ensures in
    (c.answer_word.ensures ∙ ap (λ (k : Carried). answer_word k.answer) e, ap (λ (k : Carried). k.yard) e, ap (λ (k : Carried). k.occupancy) e)
