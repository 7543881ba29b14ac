use mathlib.Core.Path.{refl, sym, ◌∙◌}
use Rattle.update_free_path.proofs.RoundsLaws.{ran_same}
use Rattle.update_free_path.proofs.rounds.closed.Goals as goal

pub returns-then-is_due : goal.returns-then-is_due
returns-then-is_due c = let a = c.args in rw (sym c.is_due.ensures ∙ c.if-is_due.true) (c.ran_with.ensures ∙ ran_same _ a.w.header refl refl c.is_first-first.ensures)

pub returns : goal.returns
returns c = let a = c.args in rw (sym c.is_due.ensures ∙ c.if-is_due.false) (c.ran_with-2.ensures ∙ ran_same _ a.w.header refl refl c.is_first-first.ensures)
