use Rattle.splice.proofs.DivLaws.{div_splice}
use Rattle.splice.proofs.diverge.splice_divs.Goals as goal

pub returns : goal.returns
returns c = let a = c.args in
    let p = c.requires in
    div_splice a.dt.now a.dn.now c.splice_column.new.col c.splice_column-2.new.col a.nt.now a.nn.now a.at a.c a.k a.m c.splice_column.ensures c.splice_column-2.ensures p.0 p.1
