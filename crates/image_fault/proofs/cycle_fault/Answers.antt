use Rattle.image_fault.proofs.Ascent.{ascends_none}
use Rattle.link_rules.specs.Refusals.{no_refusal, raised}
use Rattle.link_rules.proofs.RefusalLaws.{raised_none}
use Rattle.std.proofs.Common.{refl, sym, ap, ◌∙◌}
use Rattle.image_fault.proofs.cycle_fault.Goals as goal

pub returns-then-ascends : goal.returns-then-ascends
returns-then-ascends c = sym (ap raised (ascends_none c.args.img.now (rw (← c.requires.0) (sym c.ascends.ensures ∙ c.if-ascends.true))) ∙ raised_none no_refusal refl)
