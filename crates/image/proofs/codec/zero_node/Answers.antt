use Rattle.link_rules.specs.Octets.{le_at}
use Rattle.image.specs.Image.{type_of, node_from}
use Rattle.image.proofs.codec.zero_node.Goals as goal

pub returns : goal.returns
unfolding node_from le_at type_of
returns c = cc
