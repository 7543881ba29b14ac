use Rattle.std.proofs.Common.{◌≤◌}
use Rattle.est_times.proofs.none_into.Given as goal

abbrev pub invariant-loop-a : goal.invariant-loop-a
invariant-loop-a l = l.n ≤ l.a
