-- The index stays within the column.
use Rattle.std.proofs.Common.{◌≤◌, length}
use Rattle.answers.proofs.case.u32s.Given as goal

abbrev pub invariant-loop-i : goal.invariant-loop-i
invariant-loop-i l = l.i ≤ length l.to
