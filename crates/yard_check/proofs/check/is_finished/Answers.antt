use Rattle.yard_check.specs.Check.{is_finished}
use Rattle.yard_check.proofs.check.is_finished.Goals as goal

pub returns : goal.returns
unfolding is_finished
returns c = rw (c.free_of.ensures, c.path_count.ensures)
