use Rattle.std.proofs.Common.{◌∙◌, arith}
use Rattle.free_path.specs.Validate.{stray_link}
use Rattle.free_path.specs.Columns.{link_at, flagged}
use Rattle.free_path.proofs.ValidateLaws.{more_by, one_more}
use Rattle.free_path.proofs.ColumnLaws.{count_turn, count-end}
use Rattle.free_path.proofs.strays.strays.Goals as goal

pub overflow_add-k : goal.overflow_add-k
overflow_add-k c = let a = c.args in
    let p = stray_link a.occ.now (flagged a.known.now) in
    omega (arith, more_by p c.is_stray.result c.link_of.result (link_at a.col.now c.loop-i.i) c.from-k.ensures c.is_stray.ensures c.link_of.ensures, one_more (p (link_at a.col.now c.loop-i.i)))

pub loop-i-preserved : goal.loop-i-preserved
loop-i-preserved c = let a = c.args in
    let g = c.loop-i in
    let p = stray_link a.occ.now (flagged a.known.now) in
    let m = more_by p c.is_stray.result c.link_of.result (link_at a.col.now g.i) c.from-k.ensures c.is_stray.ensures c.link_of.ensures in
    (omega (arith, m, one_more (p (link_at a.col.now g.i))), rw m (count_turn p a.n (link_at a.col.now) g.i g.k (omega arith) ∙ g.invariant.1))

pub returns : goal.returns
returns c = let a = c.args in
    count-end (stray_link a.occ.now (flagged a.known.now)) a.n (link_at a.col.now) c.loop-i.i c.loop-i.k (omega arith) ∙ c.loop-i.invariant.1
