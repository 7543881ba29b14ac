use mathlib.Core.Path.{sym, ◌∙◌}
use native.Mathlib.Omega.{arith}
use Rattle.image.proofs.RecordLaws.{whole-node, whole_node_past}
use Rattle.image.proofs.codec.whole_node.Goals as goal

pub returns-then-img-at : goal.returns-then-img-at
returns-then-img-at c = c.zero_node.ensures ∙ sym (whole_node_past c.args.img.now c.args.i (omega (arith, c.if-img-at.true, c.node_place-at.ensures, c.est_count.ensures)))

pub returns-else-img-at : goal.returns-else-img-at
returns-else-img-at c = rw (whole-node c.args.img.now c.args.i (omega (arith, c.if-img-at.false, c.node_place-at.ensures, c.est_count.ensures))) (cc)
