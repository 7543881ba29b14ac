use Rattle.image.specs.Image.{node_from}
use Rattle.validate.proofs.path_node.Goals as goal

pub returns : goal.returns
unfolding node_from
returns c = cc
