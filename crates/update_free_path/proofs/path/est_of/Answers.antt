use Rattle.image.specs.Image.{node_from}
use Rattle.update_free_path.proofs.path.est_of.Goals as goal

pub returns : goal.returns
unfolding node_from
returns c = rw (← c.requires, ← c.node_place-at.ensures, ← c.u32_at.ensures)
