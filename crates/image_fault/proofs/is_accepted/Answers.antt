use Rattle.std.proofs.Common.{refl, sym, ap, ◌∙◌}
use Rattle.std.specs.Result.{is_ok}
use Rattle.link_rules.specs.Refusals.{no_refusal}
use Rattle.link_rules.proofs.RefusalLaws.{raised_none, ok_raised}
use Rattle.image_fault.specs.ImageFault.{is_accepted}
use Rattle.image_fault.proofs.is_accepted.Goals as goal

pub returns : goal.returns
unfolding is_accepted
returns c = c.is_ok.ensures.value ∙ ap is_ok (c.fault_with.ensures no_refusal (sym (raised_none no_refusal refl))) ∙ ok_raised _
