use Rattle.train_disp.specs.TrainDisp.{offset_behind}
use Rattle.train_disp.proofs.offset_behind.Goals as goal

pub returns-then-sums : goal.returns-then-sums
unfolding offset_behind
returns-then-sums c = rw c.if-sums.true

pub returns : goal.returns
unfolding offset_behind
returns c = rw c.if-sums.false
