use Rattle.splice.specs.Parts.{put_offset}
use Rattle.splice.proofs.path.put_offset.Goals as goal

pub returns : goal.returns
unfolding put_offset
returns c = cc
