use mathlib.Core.Path.{sym, ◌∙◌}
use Rattle.update_definition.specs.ImageTrain.{train_of}
use Rattle.image_store.proofs.StoreLaws.{stored-train, stored_standing}
use Rattle.update_free_path.proofs.AnswerLaws.{left-refused, left-done}
use Rattle.update_free_path.proofs.answer.leave.Goals as goal

pub returns-then-is_refusal : goal.returns-then-is_refusal
returns-then-is_refusal c = let a = c.args in left-refused (train_of a.img.now a.dt.now a.dn.now a.h) a.image.now a.s (sym c.is_refusal.ensures ∙ c.if-is_refusal.true)

pub returns-then-same : goal.returns-then-same
returns-then-same c = let a = c.args in
    let done = sym c.is_refusal.ensures ∙ c.if-is_refusal.false in
    let g = c.requires done in
    c.store_diverges.ensures
    ∙ stored_standing a.img.now a.dt.now a.dn.now a.h a.image.now (g.2 c.if-same.true)
    ∙ stored-train a.img.now a.dt.now a.dn.now a.h a.image.now g.0 g.1
    ∙ left-done (train_of a.img.now a.dt.now a.dn.now a.h) a.image.now a.s done

pub returns : goal.returns
returns c = let a = c.args in
    let done = sym c.is_refusal.ensures ∙ c.if-is_refusal.false in
    let g = c.requires done in
    c.store.ensures
    ∙ stored-train a.img.now a.dt.now a.dn.now a.h a.image.now g.0 g.1
    ∙ left-done (train_of a.img.now a.dt.now a.dn.now a.h) a.image.now a.s done
