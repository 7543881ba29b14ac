use Rattle.est_times.proofs.Ranked.{Rises}
use Rattle.std.proofs.Common.{get_or}
use Rattle.est_times.proofs.Net.rank_rises.Given as goal

abbrev pub invariant-loop-a : goal.invariant-loop-a
invariant-loop-a l = Rises l.self.next.now l.self.alt.now l.self.e (λ i. get_or l.rank i 0) l.a
