use mathlib.Core.Path.{◌≡◌, sym, ap, ◌∙◌}
use mathlib.Core.Bool.{not}
use Prim.Native.Nat.{◌+◌, ◌-◌}
use native.Mathlib.Omega.{arith}
use borrow.Author.Tests.{eq-eqb}
use lib.ListN.{get_or}
use Rattle.free_path.specs.Columns.{div_at}
use Rattle.search.proofs.RewindLaws.{off, back_none, back_miss, divs-none, divs-below, divs-above}
use Rattle.search.proofs.rewind.rewind_divs.Goals as goal

pub returns-then-d-join : goal.returns-then-d-join
returns-then-d-join c = let a = c.args in
    let l = c.loop-k in
    let d = c.u32_of-d in
    let e : l.k - 1 + 1 ≡ l.k = omega arith in
    rw e ((λ nt. divs-below nt a.nn.now a.count a.join l.k (omega arith) l.invariant.0 d.result d.ensures (l.invariant.1 nt) c.if-d-join.true), l.invariant.0)

pub returns-then-join-d : goal.returns-then-join-d
returns-then-join-d c = let a = c.args in
    let l = c.loop-k in
    let d = c.u32_of-d in
    ((λ nt. divs-above nt a.nn.now a.count a.join l.k (omega arith) l.invariant.0 d.result d.ensures (l.invariant.1 nt) c.if-join-d.true), tt)

pub loop-k-preserved : goal.loop-k-preserved
loop-k-preserved c = let a = c.args in
    let l = c.loop-k in
    let d = c.u32_of-d in
    let e : d.result ≡ a.join = omega arith in
    (omega arith, λ nt. back_miss (off a.join) a.count (div_at nt a.nn.now) l.k (omega arith) l.invariant.0 (ap not (eq-eqb (get_or a.nn.now (l.k - 1) 0) a.join (sym d.ensures ∙ e))) ∙ l.invariant.1 nt)

pub returns : goal.returns
returns c = let a = c.args in
    let l = c.loop-k in
    ((λ nt. divs-none nt a.nn.now a.count a.join (back_none (off a.join) a.count (div_at nt a.nn.now) l.k (omega arith) ∙ l.invariant.1 nt)), tt)
