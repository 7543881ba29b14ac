use Rattle.image.specs.Image.{put_node}
use Rattle.image.proofs.codec.put_node_from.Goals as goal

pub returns : goal.returns
unfolding put_node
returns c = cc
