use mathlib.Core.Path.{◌∙◌, ap}
use mathlib.Core.Bool.{Bool}
use Rattle.update_definition.specs.UpdateImage.{UpdatedImage, updated_image}
use Rattle.free_path_c.specs.Words.{status_word, update_words}
use Rattle.free_path_c.proofs.lavtoeu_update.Goals as goal

pub returns : goal.returns
returns c = let a = c.args in
    let e =
    c.update_free_path-x.ensures
    ∙ ap (λ (b : Bool). updated_image a.image.now a.occupancy.now a.blocking.now a.moved b a.limit) c.flag_of.ensures in
    let w = c.put_update.ensures in
    record {
      word = w.0 ∙ ap (λ (u : UpdatedImage). status_word u.answer.status) e;
      bytes = ap (λ (u : UpdatedImage). u.image) e;
      words = w.1 ∙ ap (λ (u : UpdatedImage). update_words u a.answer.now) e;
    }
