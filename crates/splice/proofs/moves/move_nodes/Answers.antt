use mathlib.Core.Path.{◌≡◌, refl, sym, ap, ◌∙◌}
use mathlib.Core.Bool.{Bool, cond}
use Prim.Native.Nat.{◌+◌, ◌*◌}
use native.Mathlib.Omega.{arith}
use lib.Dec.{ltb}
use borrow.Author.Tests.{eq-eqb, ne_eqb}
use Rattle.splice.proofs.MoveLaws.{moved_stay, moved-is, moved-last, moved-next}
use Rattle.splice.proofs.moves.move_nodes.Goals as goal

pub returns-then-i-j : goal.returns-then-i-j
returns-then-i-j c = let a = c.args in
    let e : a.i ≡ a.j = omega arith in (
      moved-is a.s.now a.s.now (a.p + 32 * a.i) (a.p + 32 * a.j) (32 * a.k) 0 refl (omega arith) (omega arith) (moved_stay a.s.now (a.p + 32 * a.i) (a.p + 32 * a.j) 0 (32 * a.k) (omega arith)),
      ap (λ (t : Bool). cond t 0 a.k) (sym (eq-eqb a.i a.j e)),
    )

pub loop-moved-preserved : goal.loop-moved-preserved
loop-moved-preserved c = let a = c.args in
    let q = c.if-i-j.false in
    let l = c.loop-moved in
    let g = c.loop-moved-test.true in
    let n = c.next_moved-x in
    let v = c.move_node in
    let r = moved-next a.p a.i a.j a.k l.moved n.result q g l.s a.s.now v.new.s (ltb a.i a.j) refl n.ensures.0 l.invariant.1 (omega arith) (omega arith) l.invariant.2 v.ensures in
    (omega (arith, l.invariant.0), r.size, r)

pub returns : goal.returns
returns c = let a = c.args in
    let l = c.loop-moved in
    let e : l.moved ≡ a.k = omega arith in (
      moved-last l.s a.s.now (a.p + 32 * a.i) (a.p + 32 * a.j) a.k l.moved (ltb a.i a.j) e (omega arith) (omega arith) l.invariant.2,
      l.invariant.0 ∙ e ∙ ap (λ (t : Bool). cond t 0 a.k) (sym (ne_eqb a.i a.j c.if-i-j.false)),
    )
