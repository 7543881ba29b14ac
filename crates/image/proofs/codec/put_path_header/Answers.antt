use Rattle.image.specs.Image.{put_path_header}
use Rattle.image.proofs.codec.put_path_header.Goals as goal

pub returns : goal.returns
unfolding put_path_header
returns c = cc
