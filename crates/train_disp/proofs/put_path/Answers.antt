use mathlib.Core.Path.{refl, sym, ap, ◌∙◌}
use mathlib.Core.List.{List}
use Prim.Native.Nat.{◌<◌}
use native.Mathlib.Omega.{arith}
use native.Mathlib.Nat.{sub-zero, zero-add}
use lib.ListN.{length}
use Rattle.disp_structs.specs.declared.DispNode.{DispNode}
use Rattle.image.specs.Image.{node_place}
use Rattle.image.specs.Codec.{put_each}
use Rattle.train_disp.specs.TrainDisp.{put_nodes}
use Rattle.train_disp.proofs.LayOutLaws.{walk_end, kept, long, path_on, count_on, path-last, count-last}
use Rattle.train_disp.proofs.put_path.Goals as goal

pub loop-i-init : goal.loop-i-init
loop-i-init c = (c.requires.1, refl, rw sub-zero, rw (sub-zero, zero-add))

pub returns-then-x-eq0 : goal.returns-then-x-eq0
returns-then-x-eq0 c = let g = c.loop-i in
    let a = c.args in
    let r = c.est_in-x in
    let n = c.new_node in
    let p = c.put_node in
    let t = a.est.now in
    let lt : g.i < a.e = c.loop-i-test.true in
    let k = count-last a.sums t a.e g.i g.at g.o g.img p.new.img r.result n.result lt r.ensures n.ensures g.invariant.0 p.ensures c.if-x-eq0.true in
    (omega (arith, k, g.invariant.3), sym (path-last a.sums t a.e g.i g.at g.o g.img p.new.img r.result n.result lt r.ensures n.ensures g.invariant.0 p.ensures c.if-x-eq0.true) ∙ g.invariant.2)

pub loop-i-preserved : goal.loop-i-preserved
loop-i-preserved c = let g = c.loop-i in
    let a = c.args in
    let r = c.est_in-x in
    let n = c.new_node in
    let p = c.put_node in
    let t = a.est.now in
    let lt : g.i < a.e = c.loop-i-test.true in
    let z = c.if-x-eq0.false in
    let same = c.offset_behind-o.ensures in
    let k = count_on a.sums t a.e g.i g.at g.o g.img p.new.img r.result n.result lt r.ensures n.ensures g.invariant.0 p.ensures z in (
      kept a.sums t a.e g.i g.at g.o g.img p.new.img r.result n.result lt r.ensures n.ensures g.invariant.0 p.ensures,
      long a.sums t a.e g.i g.at g.o g.img p.new.img r.result n.result lt r.ensures n.ensures g.invariant.0 p.ensures ∙ g.invariant.1,
      rw same (sym (path_on a.sums t a.e g.i g.at g.o g.img p.new.img r.result n.result lt r.ensures n.ensures g.invariant.0 p.ensures z) ∙ g.invariant.2),
      rw same (omega (arith, k, g.invariant.3)),
    )

pub returns : goal.returns
unfolding put_each
returns c = let g = c.loop-i in
    let a = c.args in
    let e = walk_end a.sums a.est.now a.e g.i g.at g.o (omega arith) in
    (omega (arith, ap length e, g.invariant.3), sym (ap (λ (ns : List DispNode). put_nodes ns (node_place a.e g.i) g.img) e) ∙ g.invariant.2)
