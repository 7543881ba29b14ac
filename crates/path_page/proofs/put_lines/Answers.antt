use mathlib.Core.Path.{refl, ◌∙◌}
use Rattle.image.specs.Image.{node_at}
use Rattle.path_page.proofs.PageLaws.{lines_none, lines_turn}
use Rattle.path_page.proofs.put_lines.Goals as goal

pub loop-i-init : goal.loop-i-init
loop-i-init c = let a = c.args in (refl, lines_none a.ties (node_at a.image.now))

pub loop-i-preserved : goal.loop-i-preserved
loop-i-preserved c = let o = c.loop-i in
    let a = c.args in
    (c.put_node_line-count.auto.text ∙ o.invariant.0, lines_turn a.ties (node_at a.image.now) o.i o.invariant.1 c.put_node_line-count.ensures)
