use mathlib.Core.Path.{refl, ◌∙◌}
use native.Mathlib.Omega.{arith}
use Rattle.text.proofs.TextLaws.{nothing, bytes-turn}
use Rattle.text.proofs.put_bytes.Goals as goal

pub loop-byte-init : goal.loop-byte-init
loop-byte-init c = (refl, nothing)

pub loop-byte-preserved : goal.loop-byte-preserved
loop-byte-preserved c = let inv = c.loop-byte.invariant in
    (c.put_byte-n.auto.text ∙ inv.0, bytes-turn c.args.bytes.now c.loop-byte.byte-index (omega arith) inv.1 c.put_byte-n.ensures)
