use Rattle.est_times.specs.Cycles.{on_cycle}
use Rattle.est_times.proofs.FirstAt.{scan_hit, scan_miss, scan-end}
use Rattle.std.proofs.Common.{arith}
use Rattle.est_times.proofs.Net.lowest.Goals as goal

pub returns-then-comes_back : goal.returns-then-comes_back
returns-then-comes_back c = scan_hit (on_cycle c.args.self.next.now c.args.self.alt.now c.args.self.e) c.args.self.e c.loop-a.a c.loop-a.invariant (omega arith) c.comes_back.ensures c.if-comes_back.true

pub loop-a-preserved : goal.loop-a-preserved
loop-a-preserved c = scan_miss (on_cycle c.args.self.next.now c.args.self.alt.now c.args.self.e) c.args.self.e c.loop-a.a c.loop-a.invariant (omega arith) c.comes_back.ensures c.if-comes_back.false

pub returns : goal.returns
returns c = scan-end (on_cycle c.args.self.next.now c.args.self.alt.now c.args.self.e) c.args.self.e c.loop-a.a c.loop-a.invariant (omega arith)
