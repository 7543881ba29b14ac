use mathlib.Core.Path.{◌≡◌, refl, ◌∙◌}
use Prim.Native.Nat.{◌+◌, ◌-◌}
use native.Mathlib.Omega.{arith}
use Rattle.search.proofs.StoredLaws.{walk_end, walk_stop, walk_turn}
use Rattle.search.proofs.look.stored_from.Goals as goal

pub returns-then-u32_of-join : goal.returns-then-u32_of-join
returns-then-u32_of-join c = let a = c.args in
    let l = c.loop-k in
    let e : l.k - 1 + 1 ≡ l.k = omega arith in
    rw e (walk_stop a.m a.dt.now a.dn.now a.join a.moved l.k l.met (omega arith) (omega arith) c.u32_of.result c.u32_of.ensures c.if-u32_of-join.true ∙ l.invariant.1, l.invariant.0)

pub loop-k-preserved : goal.loop-k-preserved
loop-k-preserved c = let a = c.args in
    let l = c.loop-k in
    (omega arith, walk_turn a.m a.dt.now a.dn.now a.join a.moved l.k l.met (omega arith) (omega arith) c.u32_of.result c.u32_of.ensures c.if-u32_of-join.false c.u32_of-in-loop-k.result c.u32_of-in-loop-k.ensures _ refl ∙ l.invariant.1)

pub returns : goal.returns
returns c = let a = c.args in
    let l = c.loop-k in
    (walk_end a.m a.dt.now a.dn.now a.join a.moved l.k l.met (omega arith) ∙ l.invariant.1, tt)
