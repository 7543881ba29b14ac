use mathlib.Core.Path.{◌∙◌}
use Rattle.link_index.proofs.CallLaws.{all_built}
use Rattle.link_index.proofs.slots.build_slots.Goals as goal

pub returns : goal.returns
returns c = let a = c.args in c.rebuild_slots.ensures ∙ all_built a.yard.now a.index.now
