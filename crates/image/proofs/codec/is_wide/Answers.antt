use Rattle.image.specs.Image.{is_wide}
use Rattle.image.proofs.codec.is_wide.Goals as goal

pub returns : goal.returns
unfolding is_wide
returns c = rw c.octet_at.ensures
