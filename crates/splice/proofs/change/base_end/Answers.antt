use mathlib.Core.Path.{sym, ◌∙◌}
use Rattle.splice.specs.Read.{base_end}
use Rattle.splice.proofs.change.base_end.Goals as goal

pub returns-then-not-at_split : goal.returns-then-not-at_split
unfolding base_end
returns-then-not-at_split c = λ ts. rw (sym c.at_split.ensures ∙ c.if-not-at_split.true)

pub returns : goal.returns
unfolding base_end
returns c = λ ts. rw (sym c.at_split.ensures ∙ c.if-not-at_split.false) (c.walk_past.ensures ts)
