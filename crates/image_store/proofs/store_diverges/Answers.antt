use Rattle.image_store.specs.Stored.{stored_diverges}
use Rattle.image_store.proofs.store_diverges.Goals as goal

pub returns : goal.returns
unfolding stored_diverges
returns c = rw (c.put_path_header.ensures, c.clear_diverges.ensures, c.put_diverges.ensures)
