use Rattle.est_times.proofs.Search.{Search}
use Rattle.std.proofs.Common.{◌-◌, ◌≤◌}
use Rattle.est_times.proofs.Net.comes_back.Given as goal

abbrev pub invariant-loop-head : goal.invariant-loop-head
invariant-loop-head l = (l.n ≤ l.self.e) × Search l.self.next.now l.self.alt.now l.self.e l.a l.seen l.queue l.n l.head

abbrev pub decreases-loop-head : goal.decreases-loop-head
decreases-loop-head l = 512 - l.head
