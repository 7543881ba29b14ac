use Rattle.std.proofs.Common.{◌≡◌, Err, rules, tests, sym, ◌∙◌}
use Rattle.link_rules.proofs.RefusalLaws.{raised_first, raised_next}
use Rattle.undo.specs.Undo.{room_fault}
use Rattle.link_index.specs.Indexed.{recorded_fault}
use Rattle.link_index.proofs.checks.recorded_fault.Goals as goal

pub returns-in_err-room_fault : goal.returns-in_err-room_fault
unfolding recorded_fault
returns-in_err-room_fault c = let a = c.args in
    let e : c.from_residual.result ≡ Err c.in_err-room_fault.field-0.0 = search (rules, tests) in
    e ∙ raised_first (room_fault a.y a.room) _ _ (sym c.room_fault.ensures ∙ c.in_err-room_fault.was)

pub returns : goal.returns
unfolding recorded_fault
returns c = let a = c.args in
    c.lengths_fault.ensures ∙ raised_next (room_fault a.y a.room) _ (sym c.room_fault.ensures ∙ c.in_ok-room_fault.was)
