use mathlib.Core.Path.{◌≡◌, refl, ap, ◌∙◌}
use mathlib.Core.List.{List, ◌++◌, append-nil}
use native.Mathlib.Omega.{arith}
use native.Mathlib.Nat.{add-zero}
use Rattle.disp_structs.specs.declared.DivergeNode.{DivergeNode}
use Rattle.disp_structs.specs.Listed.{listed}
use Rattle.search.specs.Read.{divs_of}
use Rattle.search.proofs.DepositLaws.{divs-from, div_turn}
use borrow.Author.Rules.{rules}
use Rattle.search.proofs.moves.store_divs.Goals as goal

pub loop-j-init : goal.loop-j-init
unfolding listed
loop-j-init c = (omega arith, refl, refl, rw (add-zero, append-nil))

pub loop-j-preserved : goal.loop-j-preserved
loop-j-preserved c = let a = c.args in
    let l = c.loop-j in
    (omega arith, search rules, search rules, div_turn l.nt l.nn a.pool.now (divs_of a.count a.nt.now a.nn.now) a.node a.count a.b l.j (omega arith) (omega arith) l.invariant.3)

pub returns : goal.returns
returns c = let a = c.args in
    let l = c.loop-j in
    let e : l.j ≡ a.k = omega arith in
    rw (← e) (l.invariant.3 ∙ ap (λ (d : List DivergeNode). divs_of a.count a.nt.now a.nn.now ++ d) (divs-from a.node a.pool.now a.b l.j))
