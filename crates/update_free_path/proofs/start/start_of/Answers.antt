use mathlib.Core.Path.{ap}
use Rattle.link_rules.specs.LinkIdx.{no_train}
use Rattle.tally.specs.declared.Tally.{Tally}
use Rattle.image.specs.declared.codec.PathHeader.{PathHeader}
use Rattle.update_free_path.specs.declared.rounds.Between.{Between}
use Rattle.update_free_path.proofs.start.start_of.Goals as goal

-- `start_of` meets its contract. Assumes nothing.

abbrev first : PathHeader → Tally → Between
first h t = record { header = h; split = 1; div_split = 1; tally = t; met = no_train }

pub returns : goal.returns
returns c = ap (first c.args.h) c.started.ensures
