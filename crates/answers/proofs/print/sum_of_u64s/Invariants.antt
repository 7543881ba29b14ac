-- The sum stays below the prime.
use Rattle.std.proofs.Common.{◌<◌}
use Rattle.answers.proofs.print.sum_of_u64s.Given as goal

abbrev pub invariant-loop-n : goal.invariant-loop-n
invariant-loop-n l = l.sum < 4294967291
