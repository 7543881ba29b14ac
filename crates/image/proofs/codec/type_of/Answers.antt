use borrow.Author.Tests.{ne_eqb}
use native.Mathlib.Omega.{arith}
use Rattle.image.specs.Image.{type_of}
use Rattle.image.proofs.codec.type_of.Goals as goal

pub returns-in-0 : goal.returns-in-0
unfolding type_of
returns-in-0 c = rw c.in-0.is

pub returns-in-1 : goal.returns-in-1
unfolding type_of
returns-in-1 c = rw c.in-1.is

pub returns-in_default : goal.returns-in_default
unfolding type_of
returns-in_default c = simp (ne_eqb c.args.n 0 (λ e. omega arith), ne_eqb c.args.n 1 (λ e. omega arith))
