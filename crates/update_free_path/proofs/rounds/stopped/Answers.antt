use mathlib.Core.Path.{sym, ap, ◌∙◌}
use Rattle.round.specs.declared.End.{End}
use Rattle.update_free_path.specs.Updates.{kept_met, stopped_by}
use Rattle.update_free_path.proofs.RoundsLaws.{ran_same}
use Rattle.update_free_path.proofs.rounds.stopped.Goals as goal

pub returns-in-Refused : goal.returns-in-Refused
returns-in-Refused c = let a = c.args in
    c.ran_with.ensures
    ∙ ran_same _ a.x.header c.tallied.ensures c.kept_met-met.ensures c.is_first-first.ensures
    ∙ sym (ap (λ (e : End). stopped_by e a.x.header a.w.tally a.x.steps a.strays (kept_met a.w a.x)) c.in-Refused.is)

pub returns-in-AtEnd : goal.returns-in-AtEnd
returns-in-AtEnd c = let a = c.args in
    c.ran_with-in-AtEnd.ensures
    ∙ ran_same _ a.x.header c.tallied-in-AtEnd.ensures c.kept_met-met.ensures c.is_first-first.ensures
    ∙ sym (ap (λ (e : End). stopped_by e a.x.header a.w.tally a.x.steps a.strays (kept_met a.w a.x)) c.in-AtEnd.is)

pub returns-in-Blocked : goal.returns-in-Blocked
returns-in-Blocked c = let a = c.args in
    c.ran_with-in-Blocked.ensures
    ∙ ran_same _ a.x.header c.tallied-in-Blocked.ensures c.kept_met-met.ensures c.is_first-first.ensures
    ∙ sym (ap (λ (e : End). stopped_by e a.x.header a.w.tally a.x.steps a.strays (kept_met a.w a.x)) c.in-Blocked.is)

pub returns-in-Again : goal.returns-in-Again
returns-in-Again c = let a = c.args in
    c.ran_with-in-Again.ensures
    ∙ ran_same _ a.x.header c.tallied-in-Again.ensures c.kept_met-met.ensures c.is_first-first.ensures
    ∙ sym (ap (λ (e : End). stopped_by e a.x.header a.w.tally a.x.steps a.strays (kept_met a.w a.x)) c.in-Again.is)
