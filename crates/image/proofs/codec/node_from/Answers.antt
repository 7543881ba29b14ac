use Rattle.image.specs.Image.{node_from}
use Rattle.image.proofs.codec.node_from.Goals as goal

pub returns : goal.returns
unfolding node_from
returns c = cc
