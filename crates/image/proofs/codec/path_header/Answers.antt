use Rattle.image.specs.Image.{path_header}
use Rattle.image.proofs.codec.path_header.Goals as goal

pub returns : goal.returns
unfolding path_header
returns c = cc
