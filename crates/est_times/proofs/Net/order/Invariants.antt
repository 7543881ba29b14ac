use Rattle.std.proofs.Common.{◌-◌, ◌≤◌}
use Rattle.est_times.proofs.Net.order.Given as goal

abbrev pub invariant-loop-head : goal.invariant-loop-head
invariant-loop-head l = l.n ≤ 512

abbrev pub decreases-loop-head : goal.decreases-loop-head
decreases-loop-head l = 512 - l.head
