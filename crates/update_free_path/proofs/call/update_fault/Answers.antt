use Rattle.std.proofs.Common.{◌≡◌, ℕ, length, replicate, rules, tests, sym, ap, ◌∙◌, arith}
use lib.ListN.{length-replicate}
use Rattle.link_rules.specs.Refusals.{Refused, raised}
use Rattle.link_rules.proofs.RefusalLaws.{none_raised, raised_first, raised_next}
use Rattle.image_fault.specs.ImageFault.{fault_with}
use Rattle.image_fault.proofs.PassLaws.{own_raised}
use Rattle.update_definition.specs.UpdateImage.{call_fault, given_fault, update_fault_in}
use Rattle.update_free_path.proofs.FaultLaws.{call-links}
use Rattle.update_free_path.proofs.call.update_fault.Goals as goal

pub returns-in_err-call_fault : goal.returns-in_err-call_fault
unfolding update_fault_in
returns-in_err-call_fault c occ q g =
    let e : c.from_residual.result ≡ Refused c.in_err-call_fault.field-0.0 = search (rules, tests) in
    e ∙ raised_first _ _ _ (sym (c.call_fault.ensures occ q) ∙ c.in_err-call_fault.was)

pub overflow_cast-l : goal.overflow_cast-l
overflow_cast-l c = let a = c.args in
    let occ = replicate {A = ℕ} a.l 0 in
    let q : length occ ≡ a.l = length-replicate {A = ℕ} a.l 0 in
    let z = none_raised (call_fault occ a.blocking.now a.o.moved.0 a.o.limit) (sym (c.call_fault.ensures occ q) ∙ c.in_ok-call_fault.was) in
    omega (arith, q, (call-links occ a.blocking.now a.o.moved.0 a.o.limit z).1)

pub returns : goal.returns
unfolding update_fault_in
returns c occ q g = let a = c.args in
    let own = given_fault a.w a.image.now occ a.o.moved.0 in
    c.fault_with.ensures own (own_raised own g)
    ∙ ap (λ (n : ℕ). raised (fault_with a.w own a.image.now n)) (sym q)
    ∙ raised_next _ _ (sym (c.call_fault.ensures occ q) ∙ c.in_ok-call_fault.was)
