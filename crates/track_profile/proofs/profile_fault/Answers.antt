use Rattle.std.proofs.Common.{◌≡◌, Bool, rules, tests, refl, sym, ap, ◌∙◌, arith}
use Rattle.link_rules.specs.Refusals.{Refused, refuse_unless, no_refusal}
use Rattle.link_rules.proofs.RefusalLaws.{raised_none, raised_unless, raised_first, raised_next}
use Rattle.track_profile.specs.Profile.{profile_fault}
use Rattle.track_profile.proofs.profile_fault.Goals as goal

pub returns-in_err-fault_with : goal.returns-in_err-fault_with
unfolding profile_fault
returns-in_err-fault_with c =
    let e : c.from_residual.result ≡ Refused c.in_err-fault_with.field-0.0 = search (rules, tests) in
    e ∙ raised_first _ _ _ (sym (c.fault_with.ensures no_refusal (sym (raised_none no_refusal refl))) ∙ c.in_err-fault_with.was)

pub returns : goal.returns
unfolding profile_fault
returns c =
    c.refuse_unless.ensures
    ∙ ap (λ (t : Bool). refuse_unless t 29) c.image_in_profile.ensures
    ∙ raised_unless _ 29 (λ z. absurd (omega arith))
    ∙ raised_next _ _ (sym (c.fault_with.ensures no_refusal (sym (raised_none no_refusal refl))) ∙ c.in_ok-fault_with.was)
