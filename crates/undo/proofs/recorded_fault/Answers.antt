use Rattle.std.proofs.Common.{◌≡◌, ◌∙◌, sym, rules, tests}
use Rattle.link_rules.specs.Refusals.{Refused}
use Rattle.link_rules.proofs.RefusalLaws.{raised_first, raised_next}
use Rattle.undo.proofs.recorded_fault.Goals as goal

pub returns-in_err-room_fault : goal.returns-in_err-room_fault
returns-in_err-room_fault c f q =
    let e : c.from_residual.result ≡ Refused c.in_err-room_fault.field-0.0 = search (rules, tests) in
    e ∙ raised_first _ f _ (sym c.room_fault.ensures ∙ c.in_err-room_fault.was)

pub returns : goal.returns
returns c f q = q ∙ raised_next _ f (sym c.room_fault.ensures ∙ c.in_ok-room_fault.was)
