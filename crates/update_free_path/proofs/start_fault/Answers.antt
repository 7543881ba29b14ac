use Rattle.std.proofs.Common.{◌≡◌, rules, tests, refl, sym, ap, ◌∙◌}
use Rattle.std.specs.Prelude.{Err}
use Rattle.link_rules.specs.declared.refusal.Refusal.{Refusal}
use Rattle.link_rules.proofs.RefusalLaws.{none_raised, some_raised}
use Rattle.update_definition.specs.UpdateImage.{update_fault_in}
use Rattle.update_free_path.proofs.CallLaws.{judged-refused, judged_ten, judged_fine}
use Rattle.update_free_path.proofs.start_fault.Goals as goal

pub returns-in_err-update_fault : goal.returns-in_err-update_fault
returns-in_err-update_fault c occ q g = let a = c.args in
    let f = c.in_err-update_fault.field-0.0 in
    let e : c.from_residual.result ≡ Err f = search (rules, tests) in
    let s = some_raised (update_fault_in a.w a.image.now occ a.blocking.now a.o.moved.0 a.o.limit) f (sym (c.update_fault.ensures occ q g) ∙ c.in_err-update_fault.was) in
    rw e (judged-refused a.w a.image.now occ a.blocking.now a.o f (sym s.0) (λ z. s.1 (ap (λ (x : Refusal). x.number) s.0 ∙ z)))

pub returns-then-h : goal.returns-then-h
returns-then-h c occ q g = let a = c.args in
    let f = update_fault_in a.w a.image.now occ a.blocking.now a.o.moved.0 a.o.limit in
    let z = none_raised f (sym (c.update_fault.ensures occ q g) ∙ c.in_ok-update_fault.was) in
    let h = c.path_header-h in
    rw c.new.ensures (judged_ten a.w a.image.now occ a.blocking.now a.o f refl z h.result h.ensures c.if-h.true)

pub returns : goal.returns
returns c occ q g = let a = c.args in
    let f = update_fault_in a.w a.image.now occ a.blocking.now a.o.moved.0 a.o.limit in
    let z = none_raised f (sym (c.update_fault.ensures occ q g) ∙ c.in_ok-update_fault.was) in
    let h = c.path_header-h in
    judged_fine a.w a.image.now occ a.blocking.now a.o f refl z h.result h.ensures c.if-h.false
