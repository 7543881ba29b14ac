use native.Mathlib.Omega.{arith}
use borrow.Author.Tests.{lt-ltb, le-ltb, le-leb, lt-leb}
use Rattle.update_definition.specs.Join.{new_ends}
use borrow.Author.Rules.{rules}
use Rattle.splice.proofs.ends.new_ends.Goals as goal

pub returns-then-base-high : goal.returns-then-base-high
unfolding new_ends
returns-then-base-high c = let a = c.args in (rw (le-ltb a.high a.base (omega arith)), search rules)

pub returns-then-high-split : goal.returns-then-high-split
unfolding new_ends
returns-then-high-split c = let a = c.args in (rw (lt-ltb a.high a.base (omega arith), lt-leb a.split a.high (omega arith)), search rules)

pub returns : goal.returns
unfolding new_ends
returns c = let a = c.args in (rw (lt-ltb a.high a.base (omega arith), le-leb a.split a.high (omega arith)) c.move_ends.ensures.0, c.move_ends.ensures.1)
