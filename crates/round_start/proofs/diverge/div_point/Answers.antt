use Rattle.std.proofs.Common.{◌≤◌, arith}
use borrow.Author.Tests.{eq-eqb, ne_eqb}
use Rattle.round_start.proofs.DivideLaws.{none_above}
use Rattle.round_start.proofs.diverge.div_point.Goals as goal

pub returns-then-split-node : goal.returns-then-split-node
returns-then-split-node c = let a = c.args in
    λ ts. rw (eq-eqb a.split a.node c.if-split-node.true) (c.at_sentinel.ensures ts)

pub returns-in-Err : goal.returns-in-Err
returns-in-Err c = let a = c.args in
    let h : 4294967296 ≤ a.split = omega (arith, c.in-Err.ensures) in
    λ ts. rw (ne_eqb a.split a.node c.if-split-node.false) (none_above a.m ts a.dn.now a.split (λ j. omega (arith, c.type_inv.dn j)) a.div_split)
