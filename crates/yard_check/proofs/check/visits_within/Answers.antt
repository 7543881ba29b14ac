use Prim.Native.Nat.{ℕ}
use native.Mathlib.Omega.{arith}
use lib.ListN.{length, replicate, length-replicate}
use lib.Seq.{length-take-le}
use Rattle.yard_check.proofs.check.visits_within.Goals as goal

pub whole_as_front-visits_widened : goal.whole_as_front-visits_widened
whole_as_front-visits_widened g c = (c.requires.1, omega (arith, c.requires.2))

pub visits_widened-requires : goal.visits_widened-requires
visits_widened-requires g c = (c.requires.0, length-take-le (length c.args.occ.now) (replicate g.row.N 0) (omega (arith, c.requires.1, length-replicate {A = ℕ} g.row.N 0)))

pub returns : goal.returns
returns g c = c.visits_widened.ensures
