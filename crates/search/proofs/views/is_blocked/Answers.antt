use mathlib.Core.Path.{◌∙◌}
use borrow.Author.Tests.{le-ltb}
use Rattle.search.proofs.ReadLaws.{blocked_out, blocked_in}
use Rattle.search.proofs.views.is_blocked.Goals as goal

pub returns-then-i-n : goal.returns-then-i-n
returns-then-i-n c = λ b.
    let a = c.args in
    blocked_in a.n b a.ends.now a.e c.if-i-n.true c.u32_of.result c.u32_of.ensures

pub returns-else-i-n : goal.returns-else-i-n
returns-else-i-n c = λ b.
    let a = c.args in
    le-ltb a.e.0 a.n c.if-i-n.false ∙ blocked_out a.n b a.ends.now a.e c.if-i-n.false
