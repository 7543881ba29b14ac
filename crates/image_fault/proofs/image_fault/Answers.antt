use Rattle.std.proofs.Common.{refl, sym, ap, ◌∙◌}
use Rattle.link_rules.specs.Refusals.{no_refusal, raised}
use Rattle.link_rules.proofs.RefusalLaws.{raised_none}
use Rattle.image_fault.specs.declared.Widths.TheVariants.{Narrow}
use Rattle.image_fault.proofs.PassLaws.{all_fit-none}
use Rattle.image_fault.proofs.image_fault.Goals as goal

pub returns-then-all_fit : goal.returns-then-all_fit
returns-then-all_fit c =
    let a = c.args in
    sym (ap raised (all_fit-none Narrow no_refusal a.img.now a.links (sym c.all_fit.ensures ∙ c.if-all_fit.true)) ∙ raised_none no_refusal refl)

pub returns : goal.returns
returns c = c.first_fault.ensures no_refusal (sym (raised_none no_refusal refl))
