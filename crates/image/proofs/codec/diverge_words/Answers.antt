use native.Mathlib.Omega.{arith}
use Rattle.image.specs.Fields.{diverge_words}
use Rattle.image.proofs.codec.diverge_words.Goals as goal

pub returns-then-wide : goal.returns-then-wide
unfolding diverge_words
returns-then-wide c = rw c.if-wide.true (omega arith, omega arith)

pub returns-else-wide : goal.returns-else-wide
unfolding diverge_words
returns-else-wide c = rw c.if-wide.false (omega arith, omega arith)
