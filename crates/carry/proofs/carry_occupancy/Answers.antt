use mathlib.Core.Path.{◌∙◌}
use Rattle.carry.proofs.LayoutLaws.{occupancy-first, occupancy-later}
use Rattle.carry.proofs.carry_occupancy.Goals as goal

pub returns-then-count-eq0 : goal.returns-then-count-eq0
returns-then-count-eq0 c = let a = c.args in
    c.widen.ensures (c.requires) ∙ occupancy-first a.count a.occupancy.now a.to.now c.if-count-eq0.true

pub returns-else-count-eq0 : goal.returns-else-count-eq0
returns-else-count-eq0 c = let a = c.args in occupancy-later a.count a.occupancy.now a.to.now c.if-count-eq0.false
