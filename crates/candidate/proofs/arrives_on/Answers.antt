use mathlib.Core.Path.{sym, ◌∙◌}
use Rattle.candidate.proofs.CandidateLaws.{arrives_yes, arrives-none}
use Rattle.candidate.proofs.arrives_on.Goals as goal

pub returns-then-is_arrive : goal.returns-then-is_arrive
returns-then-is_arrive c = let a = c.args in arrives_yes a.link a.event (sym c.is_arrive.ensures ∙ c.if-is_arrive.true)

pub returns : goal.returns
returns c = let a = c.args in arrives-none a.link a.event (sym c.is_arrive.ensures ∙ c.if-is_arrive.false)
