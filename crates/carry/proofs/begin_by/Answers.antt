use mathlib.Core.Path.{◌∙◌}
use Rattle.carry.proofs.LayoutLaws.{begun_first, begun-later}
use Rattle.carry.proofs.begin_by.Goals as goal

pub returns-then-count-eq0 : goal.returns-then-count-eq0
returns-then-count-eq0 c = let a = c.args in c.begin.ensures ∙ begun_first a.count a.yard.now a.wide.now c.if-count-eq0.true

pub returns-else-count-eq0 : goal.returns-else-count-eq0
returns-else-count-eq0 c = let a = c.args in begun-later a.count a.yard.now a.wide.now c.if-count-eq0.false
