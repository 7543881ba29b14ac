use Rattle.train_disp.specs.TrainDisp.{setting_bits}
use Rattle.train_disp.proofs.setting_bits.Goals as goal

pub returns-then-x : goal.returns-then-x
unfolding setting_bits
returns-then-x c = rw c.if-x.true

pub returns : goal.returns
unfolding setting_bits
returns c = rw c.if-x.false c.bits_of.ensures
