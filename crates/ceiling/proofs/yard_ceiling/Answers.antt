use Rattle.std.proofs.Common.{◌≡◌, Err, rules, tests, sym, ◌∙◌, arith}
use Rattle.link_rules.proofs.RefusalLaws.{none_raised}
use Rattle.yard_check.specs.Yard.{slot_count}
use Rattle.ceiling.specs.Ceiling.{slots_ceiling, ceiling_fault, yard_ceiling_of}
use Rattle.ceiling.proofs.CeilingLaws.{told-refused, told-steps, slots_63}
use Rattle.ceiling.proofs.yard_ceiling.Goals as goal

pub returns-in_err-yard_fault : goal.returns-in_err-yard_fault
unfolding yard_ceiling_of
returns-in_err-yard_fault c = let a = c.args in
    let e : c.from_residual.result ≡ Err c.in_err-yard_fault.field-0.0 = search (rules, tests) in
    e ∙ told-refused (ceiling_fault a.yard.now a.limit) _ (slots_ceiling a.yard.now a.limit (slot_count a.yard.now)) (sym c.yard_fault.ensures ∙ c.in_err-yard_fault.was)

pub slots_ceiling-requires : goal.slots_ceiling-requires
slots_ceiling-requires c = let a = c.args in
    omega (arith, c.slot_count.ensures, slots_63 a.yard.now a.limit (none_raised (ceiling_fault a.yard.now a.limit) (sym c.yard_fault.ensures ∙ c.in_ok-yard_fault.was)))

pub returns : goal.returns
unfolding yard_ceiling_of
returns c = let a = c.args in
    rw (c.slots_ceiling.ensures, c.slot_count.ensures)
    (told-steps (ceiling_fault a.yard.now a.limit) (slots_ceiling a.yard.now a.limit (slot_count a.yard.now)) (sym c.yard_fault.ensures ∙ c.in_ok-yard_fault.was))
