use Rattle.search.proofs.StoredLaws.{before_zero, before_out, before_in}
use Rattle.search.proofs.look.node_before.Goals as goal
use Rattle.search.proofs.look.node_before.Goals.{then-i-eq0-via-then-i-eq0, then-i-eq0-via-else-i-eq0+then-m-i}

pub returns-then-i-eq0 : goal.returns-then-i-eq0
returns-then-i-eq0 c = λ t.
    let a = c.args in
    elim c.then-i-eq0.branch [
      | then-i-eq0-via-then-i-eq0 w ↦ before_zero a.m t a.dn.now a.i w.if-i-eq0.true
      | then-i-eq0-via-else-i-eq0+then-m-i w ↦ before_out a.m t a.dn.now a.i w.if-i-eq0.false w.if-m-i.true
    ]

pub returns : goal.returns
returns c = λ t.
    let a = c.args in
    before_in a.m t a.dn.now a.i c.if-i-eq0.false c.if-m-i.false c.u32_of.result c.u32_of.ensures
