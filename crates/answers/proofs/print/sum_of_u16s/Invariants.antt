-- The sum stays below the prime.
use Rattle.std.proofs.Common.{◌<◌, ◌≤◌}
use Rattle.answers.proofs.print.sum_of_u16s.Given as goal

abbrev pub invariant-loop-i : goal.invariant-loop-i
invariant-loop-i l = (l.i ≤ l.n) × (l.sum < 4294967291)
