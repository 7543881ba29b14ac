use Rattle.std.proofs.Common.{refl}
use Rattle.link_rules.specs.Network.{all_below}
use Rattle.image_fault.proofs.ZeroLaws.{zero_turn}
use Rattle.image_fault.proofs.bytes_zero.Goals as goal

pub loop-b-init : goal.loop-b-init
unfolding all_below
loop-b-init c = refl

pub loop-b-preserved : goal.loop-b-preserved
loop-b-preserved c = let l = c.loop-b in zero_turn c.args.s.now l.bits l.b-index l.invariant
