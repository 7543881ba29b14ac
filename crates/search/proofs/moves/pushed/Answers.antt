use mathlib.Core.Path.{refl, sym, ◌∙◌}
use Rattle.search.proofs.PushLaws.{push_far, push_near}
use Rattle.search.proofs.moves.pushed.Goals as goal

pub returns-then-not-in_reach : goal.returns-then-not-in_reach
returns-then-not-in_reach c = let a = c.args in
    (tt, λ r standing. push_far (standing a.p) a.n (sym c.in_reach.ensures ∙ c.if-not-in_reach.true))

pub returns : goal.returns
returns c = let a = c.args in
    (refl, λ r standing. push_near (standing a.p) a.n (sym c.in_reach.ensures ∙ c.if-not-in_reach.false))
