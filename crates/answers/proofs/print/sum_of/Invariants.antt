-- The sum stays below the prime.
use Rattle.std.proofs.Common.{◌<◌}
use Rattle.answers.proofs.print.sum_of.Given as goal

abbrev pub invariant-loop-byte : goal.invariant-loop-byte
invariant-loop-byte l = l.sum < 4294967291
