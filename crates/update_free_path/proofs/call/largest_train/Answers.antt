use mathlib.Core.Path.{sym, ◌∙◌}
use Rattle.image.specs.Image.{largest_of}
use Rattle.update_free_path.proofs.call.largest_train.Goals as goal

pub returns-then-is_wide : goal.returns-then-is_wide
unfolding largest_of
returns-then-is_wide c = rw (sym c.is_wide.ensures ∙ c.if-is_wide.true)

pub returns : goal.returns
unfolding largest_of
returns c = rw (sym c.is_wide.ensures ∙ c.if-is_wide.false)
