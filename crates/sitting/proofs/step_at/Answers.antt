use Rattle.sitting.specs.Replay.{step_at}
use Rattle.sitting.proofs.step_at.Goals as goal

pub returns : goal.returns
unfolding step_at
returns c = cc
