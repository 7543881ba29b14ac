use mathlib.Core.Path.{sym, ap, ◌∙◌}
use Rattle.link_rules.specs.declared.refusal.Refusal.{Refusal}
use Rattle.carry.specs.HalfCheck.{half_args, early_fault}
use Rattle.link_rules.proofs.RefusalLaws.{none_raised, some_raised}
use Rattle.carry.proofs.HalfLaws.{half_refused, half_pair}
use Rattle.carry.proofs.half.check_half.Goals as goal

pub returns-in-Err : goal.returns-in-Err
returns-in-Err c = let a = c.args in
    let g = half_args a.blocking.now a.moved.0 a.begin a.local a.limit in
    let f = early_fault a.yard.now a.wide_yard.now a.count a.occupancy.now g in
    let h = some_raised f c.in-Err.f (sym (c.early_fault.ensures a.begin a.local) ∙ c.in-Err.is) in
    half_refused a.yard.now a.wide_yard.now a.count a.occupancy.now g a.report.now c.in-Err.f (sym h.0) (λ z. h.1 (ap (λ (x : Refusal). x.number) h.0 ∙ z))

pub returns-in-Ok : goal.returns-in-Ok
returns-in-Ok c = let a = c.args in
    let g = half_args a.blocking.now a.moved.0 a.begin a.local a.limit in
    let f = early_fault a.yard.now a.wide_yard.now a.count a.occupancy.now g in
    c.check_pair.ensures ∙ half_pair a.yard.now a.wide_yard.now a.count a.occupancy.now g a.report.now (none_raised f (sym (c.early_fault.ensures a.begin a.local) ∙ c.in-Ok.is))
