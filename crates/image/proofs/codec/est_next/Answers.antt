use Rattle.image.specs.Image.{est_from}
use Rattle.image.proofs.codec.est_next.Goals as goal

pub returns : goal.returns
unfolding est_from
returns c = cc
