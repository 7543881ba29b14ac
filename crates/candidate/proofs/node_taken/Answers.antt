use mathlib.Core.Path.{sym, ap, ◌∙◌}
use Rattle.candidate.specs.Candidate.{link_taken}
use Rattle.candidate.proofs.CandidateLaws.{taken_yes, taken_none}
use Rattle.candidate.proofs.node_taken.Goals as goal

pub returns-then-is_arrive : goal.returns-then-is_arrive
returns-then-is_arrive c = let a = c.args in
    let e = c.node_link_event-event in
    taken_yes a.occupancy.now e.result c.train_at.result (sym c.is_arrive.ensures ∙ c.if-is_arrive.true) c.train_at.ensures
    ∙ ap (link_taken a.occupancy.now) e.ensures

pub returns : goal.returns
returns c = let a = c.args in
    let e = c.node_link_event-event in
    taken_none a.occupancy.now e.result (sym c.is_arrive.ensures ∙ c.if-is_arrive.false)
    ∙ ap (link_taken a.occupancy.now) e.ensures
