use Rattle.image.specs.Image.{node_from}
use Rattle.image_fault.proofs.pass.est_of.Goals as goal

pub returns : goal.returns
unfolding node_from
returns c = rw (← c.requires, ← c.node_place.ensures, ← c.u32_at.ensures)
