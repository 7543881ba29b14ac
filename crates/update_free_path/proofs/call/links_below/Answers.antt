use Rattle.std.proofs.Common.{◌∙◌}
use Rattle.update_free_path.proofs.FaultLaws.{below_more, below_asked}
use Rattle.update_free_path.proofs.call.links_below.Goals as goal

pub loop-x-preserved : goal.loop-x-preserved
loop-x-preserved c = let a = c.args in
    below_more a.l a.blocking.now c.loop-x.x-index c.loop-x.below c.loop-x-test.true ∙ c.loop-x.invariant

pub returns : goal.returns
returns c = let a = c.args in
    below_asked a.l a.blocking.now c.loop-x.x-index c.loop-x.below c.loop-x-test.false ∙ c.loop-x.invariant
