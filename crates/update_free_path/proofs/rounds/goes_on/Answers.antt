use borrow.Author.Tests.{lt-ltb, le-ltb}
use Rattle.update_free_path.proofs.rounds.goes_on.Goals as goal

pub returns-then-w-limit : goal.returns-then-w-limit
returns-then-w-limit c = let a = c.args in rw (lt-ltb a.w.tally.rounds a.limit c.if-w-limit.true) c.is_due.ensures

pub returns-else-w-limit : goal.returns-else-w-limit
returns-else-w-limit c = let a = c.args in rw (le-ltb a.w.tally.rounds a.limit c.if-w-limit.false)
