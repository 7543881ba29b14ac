use Rattle.image.specs.Fields.{diverge_words}
use Rattle.train_disp.specs.TrainDisp.{with_ends}
use Rattle.train_disp.proofs.put_ends.Goals as goal

pub returns : goal.returns
unfolding with_ends diverge_words
returns c = cc
