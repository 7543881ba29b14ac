use Rattle.image.specs.Image.{clear_nodes}
use Rattle.image.proofs.codec.clear_nodes.Goals as goal

pub returns : goal.returns
unfolding clear_nodes
returns c = cc
