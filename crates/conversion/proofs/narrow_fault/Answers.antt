use Rattle.std.proofs.Common.{◌≡◌, ℕ, Bool, false, rules, tests, sym, ap, ◌∙◌, arith}
use Rattle.link_rules.specs.Network.{all_below}
use Rattle.link_rules.specs.Refusals.{Refused, refuse_unless, refused_unless, or_else}
use Rattle.link_rules.proofs.RefusalLaws.{raised_unless, raised_first, raised_next}
use Rattle.link_rules.specs.declared.refusal.Refusal.{Refusal}
use Rattle.image.specs.Image.{is_wide}
use Rattle.image_fault.proofs.PassLaws.{own_raised}
use Rattle.conversion.specs.Conversion.{fits_narrow, out_fault, narrow_fault}
use Rattle.conversion.proofs.narrow_fault.Goals as goal

pub returns-in_err-fault_with : goal.returns-in_err-fault_with
unfolding narrow_fault
returns-in_err-fault_with c = let a = c.args in
    let own : Refusal = or_else (refused_unless (is_wide a.image.now) 6) (out_fault false a.image.now a.size) in
    let e : c.from_residual.result ≡ Refused c.in_err-fault_with.field-0.0 = search (rules, tests) in
    e ∙ raised_first _ _ _ (sym (c.fault_with.ensures own (own_raised own c.narrow_own-own.ensures)) ∙ c.in_err-fault_with.was)

pub returns : goal.returns
unfolding narrow_fault
returns c = let a = c.args in
    let own : Refusal = or_else (refused_unless (is_wide a.image.now) 6) (out_fault false a.image.now a.size) in
    let small = c.trains_fit.ensures ∙ ap (λ (m : ℕ). all_below m (fits_narrow a.image.now)) c.diverge_count.ensures in
    c.refuse_unless.ensures
    ∙ ap (λ (t : Bool). refuse_unless t 23) small
    ∙ raised_unless _ 23 (λ z. absurd (omega arith))
    ∙ raised_next _ _ (sym (c.fault_with.ensures own (own_raised own c.narrow_own-own.ensures)) ∙ c.in_ok-fault_with.was)
