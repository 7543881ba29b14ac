use mathlib.Core.Path.{sym, ap, subst, ◌∙◌}
use native.Mathlib.Omega.{arith}
use Rattle.update_free_path.specs.Updates.{status_of}
use Rattle.update_free_path.specs.declared.answer.Status.{Status}
use Rattle.yard_check.specs.Check.{status_row}
use Rattle.yard_check.specs.Checks.{StatusFits}
use Rattle.yard_check.proofs.check.updated_row.Goals as goal

pub overflow_cast-n : goal.overflow_cast-n
overflow_cast-n c = let h = subst (λ (s : Status). StatusFits (status_of s)) c.in-Faulty.is c.requires.0 in
    omega arith

pub refused_row-requires : goal.refused_row-requires
refused_row-requires c = subst (λ (s : Status). StatusFits (status_of s)) c.in-Refused.is c.requires.0

pub returns-in-Success : goal.returns-in-Success
returns-in-Success c = let a = c.args in
    c.worked_row.ensures ∙ ap (λ (s : Status). status_row (status_of s) a.u.tally.rounds a.u.tally.strays a.u.met.0) (sym c.in-Success.is)

pub returns-in-Blocked : goal.returns-in-Blocked
returns-in-Blocked c = let a = c.args in
    c.worked_row-in-Blocked.ensures ∙ ap (λ (s : Status). status_row (status_of s) a.u.tally.rounds a.u.tally.strays a.u.met.0) (sym c.in-Blocked.is)

pub returns-in-Faulty : goal.returns-in-Faulty
returns-in-Faulty c = let a = c.args in
    c.worked_row-in-Faulty.ensures ∙ ap (λ (s : Status). status_row (status_of s) a.u.tally.rounds a.u.tally.strays a.u.met.0) (sym c.in-Faulty.is)

pub returns-in-Refused : goal.returns-in-Refused
returns-in-Refused c = let a = c.args in
    c.refused_row.ensures ∙ ap (λ (s : Status). status_row (status_of s) a.u.tally.rounds a.u.tally.strays a.u.met.0) (sym c.in-Refused.is)
