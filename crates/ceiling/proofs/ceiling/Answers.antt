use Rattle.std.proofs.Common.{◌≡◌, Err, rules, tests, refl, sym, ◌∙◌}
use Rattle.link_rules.specs.Refusals.{no_refusal}
use Rattle.link_rules.proofs.RefusalLaws.{raised_none}
use Rattle.image_fault.specs.ImageFault.{fault_with}
use Rattle.image_fault.specs.declared.Widths.TheVariants.{Either}
use Rattle.ceiling.specs.Ceiling.{round_ceiling, ceiling_of}
use Rattle.ceiling.proofs.CeilingLaws.{told-refused, told-steps}
use Rattle.ceiling.proofs.ceiling.Goals as goal

pub returns-in_err-fault_with : goal.returns-in_err-fault_with
unfolding ceiling_of
returns-in_err-fault_with c =
    let e : c.from_residual.result ≡ Err c.in_err-fault_with.field-0.0 = search (rules, tests) in
    e ∙ told-refused (fault_with Either no_refusal c.args.image.now 4000) _ (round_ceiling c.args.image.now) (sym (c.fault_with.ensures no_refusal (sym (raised_none no_refusal refl))) ∙ c.in_err-fault_with.was)

pub returns : goal.returns
unfolding ceiling_of
returns c =
    rw c.round_ceiling.ensures
    (told-steps (fault_with Either no_refusal c.args.image.now 4000) (round_ceiling c.args.image.now) (sym (c.fault_with.ensures no_refusal (sym (raised_none no_refusal refl))) ∙ c.in_ok-fault_with.was))
