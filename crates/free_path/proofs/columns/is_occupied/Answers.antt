use Rattle.link_rules.specs.LinkIdx.{occupied}
use Rattle.free_path.proofs.columns.is_occupied.Goals as goal

pub returns : goal.returns
unfolding occupied
returns c = rw (← c.u32_of.ensures)
