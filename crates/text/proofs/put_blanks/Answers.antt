use mathlib.Core.Path.{refl, ◌∙◌}
use Rattle.text.proofs.TextLaws.{nothing}
use Rattle.text.proofs.ColumnLaws.{blank_turn}
use Rattle.text.proofs.put_blanks.Goals as goal

pub loop-init : goal.loop-init
loop-init c = (refl, nothing)

pub loop-preserved : goal.loop-preserved
loop-preserved c = let inv = c.loop.invariant in
    (c.put_byte-n.auto.text ∙ inv.0, blank_turn c.loop.counter inv.1 c.put_byte-n.ensures)
