use mathlib.Core.Path.{sym, ap, subst, ◌∙◌}
use mathlib.Core.List.{List}
use Prim.Native.Nat.{ℕ}
use Rattle.update_definition.specs.UpdateImage.{stored_answer}
use Rattle.update_free_path.specs.Updates.{UpdateBegins, update_of}
use Rattle.update_free_path.proofs.update_widened.Goals as goal

pub update_begun-requires : goal.update_begun-requires
update_begun-requires c = let a = c.args in subst (λ (xs : List ℕ). UpdateBegins a.image.now xs a.h) (sym (c.widen.ensures c.requires.1)) c.requires.0

pub returns : goal.returns
returns c = let a = c.args in
    c.update_begun.ensures
    ∙ ap (λ (xs : List ℕ). stored_answer (update_of a.image.now xs a.blocking.now a.o) a.image.now) (c.widen.ensures c.requires.1)
