use Rattle.std.proofs.Common.{rules, sym, refl, ◌∙◌}
use Rattle.link_rules.specs.Refusals.{no_refusal}
use Rattle.link_rules.proofs.RefusalLaws.{raised_none}
use Rattle.image_fault.specs.ImageFault.{trains_fault, diverge_train_fits}
use Rattle.image_fault.proofs.trains_fault.Goals as goal

pub returns-then-is_wide : goal.returns-then-is_wide
unfolding trains_fault
returns-then-is_wide c =
    rw (← c.diverge_count.ensures, sym c.is_wide.ensures ∙ c.if-is_wide.true) (c.first_unfit.ensures (diverge_train_fits c.args.img.now) (λ i l b p. search rules))

pub returns : goal.returns
unfolding trains_fault
returns c = rw (sym c.is_wide.ensures ∙ c.if-is_wide.false) (sym (raised_none no_refusal refl))
