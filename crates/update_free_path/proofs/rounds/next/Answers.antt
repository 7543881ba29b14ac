use mathlib.Core.Path.{ap₂}
use Rattle.link_rules.specs.declared.link_idx.TrainIdx.{TrainIdx}
use Rattle.round.specs.declared.RoundEnd.{RoundEnd}
use Rattle.tally.specs.declared.Tally.{Tally}
use Rattle.update_free_path.specs.declared.rounds.Between.{Between}
use Rattle.update_free_path.proofs.rounds.next.Goals as goal

-- `next` meets its contract. Assumes nothing.

abbrev after : RoundEnd → Tally → TrainIdx → Between
after x t met = record { header = x.header; split = x.split; div_split = x.div_split; tally = t; met = met }

pub returns : goal.returns
returns c = ap₂ (after c.args.x) c.tallied.ensures c.kept_met.ensures
