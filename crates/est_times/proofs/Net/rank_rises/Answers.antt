use Rattle.est_times.proofs.Ranked.{rises_none}
use Rattle.std.proofs.Common.{get_or, arith}
use Rattle.est_times.proofs.Net.rank_rises.Goals as goal

pub returns : goal.returns
returns c = λ z. rises_none c.args.self.next.now c.args.self.alt.now c.args.self.e (λ i. get_or c.args.rank.now i 0) (λ k l. c.loop-a.invariant k (omega arith))
