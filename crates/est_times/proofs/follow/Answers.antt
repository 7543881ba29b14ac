use Rattle.std.proofs.Common.{sym, arith, rules}
use Rattle.est_times.proofs.WalkLaws.{follow-is, follow-none}
use Rattle.est_times.proofs.follow.Goals as goal

pub returns-then-t-e : goal.returns-then-t-e
returns-then-t-e c = (sym (follow-is c.args.e c.args.idxs.now c.args.a (omega arith)), search rules)

pub returns-else-t-e : goal.returns-else-t-e
returns-else-t-e c = (sym (follow-none c.args.e c.args.idxs.now c.args.a (omega arith)), search rules)
