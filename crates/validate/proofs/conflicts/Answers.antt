use Rattle.std.proofs.Common.{refl, ◌∙◌, arith}
use Rattle.image.specs.Image.{node_at}
use Rattle.free_path.specs.Validate.{in_conflict}
use Rattle.free_path.proofs.ValidateLaws.{more_by, one_more}
use Rattle.free_path.proofs.ColumnLaws.{count_turn, count-end}
use Rattle.validate.proofs.conflicts.Goals as goal

pub loop-i-preserved : goal.loop-i-preserved
loop-i-preserved c = let g = c.loop-i in
    let a = c.args in
    let p = in_conflict a.occ.now in
    let m = more_by p c.in_conflict.result (node_at a.img.now g.i) (node_at a.img.now g.i) c.from-k.ensures c.in_conflict.ensures refl in
    (omega (arith, m, one_more (p (node_at a.img.now g.i))), omega arith, rw m (count_turn p a.n (node_at a.img.now) g.i g.k (omega arith) ∙ g.invariant.2))

pub returns : goal.returns
returns c = let g = c.loop-i in
    let a = c.args in
    (count-end (in_conflict a.occ.now) a.n (node_at a.img.now) g.i g.k (omega arith) ∙ g.invariant.2, omega (arith, g.invariant.0, g.invariant.1))
