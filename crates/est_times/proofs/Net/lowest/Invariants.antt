use Rattle.est_times.specs.Cycles.{first_at, on_cycle, first_on_cycle}
use Rattle.std.proofs.Common.{◌≡◌, ◌-◌}
use Rattle.est_times.proofs.Net.lowest.Given as goal

abbrev pub invariant-loop-a : goal.invariant-loop-a
invariant-loop-a l = first_at (on_cycle l.self.next.now l.self.alt.now l.self.e) (l.self.e - l.a) l.a ≡ first_on_cycle l.self.next.now l.self.alt.now l.self.e
