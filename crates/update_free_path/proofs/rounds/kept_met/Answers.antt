use mathlib.Core.Path.{sym, ◌∙◌}
use Rattle.update_free_path.proofs.rounds.kept_met.Goals as goal

pub returns-then-is_first : goal.returns-then-is_first
returns-then-is_first c = rw (sym c.is_first.ensures ∙ c.if-is_first.true)

pub returns : goal.returns
returns c = rw (sym c.is_first.ensures ∙ c.if-is_first.false)
