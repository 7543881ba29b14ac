use Rattle.link_rules.specs.Network.{all_below}
use Rattle.std.proofs.Common.{◌≡◌, true}
use Rattle.image_fault.specs.AllFit.{est_passes}
use Rattle.image_fault.specs.CodeFacts.{leads_on}
use Rattle.image_fault.proofs.pass.ests_pass.Given as goal

abbrev pub invariant-loop-i : goal.invariant-loop-i
invariant-loop-i l = (all_below l.i (est_passes l.img l.links) ≡ true) × (l.ascend ≡ all_below l.i (leads_on l.img))
