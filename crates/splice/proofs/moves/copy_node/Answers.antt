use Rattle.std.proofs.Common.{◌≡◌, ℕ, ◌+◌, List, get_or, drop, set, ap, ◌∙◌, arith}
use lib.Seq.{paste, paste-zero}
use Rattle.splice.proofs.ListLaws.{copy_turn}
use Rattle.splice.proofs.moves.copy_node.Goals as goal

pub loop-j-init : goal.loop-j-init
loop-j-init c = let a = c.args in paste-zero a.to.now a.b (drop a.a a.from.now)

pub loop-j-preserved : goal.loop-j-preserved
loop-j-preserved c = let l = c.loop-j in
    let a = c.args in
    ap (λ (x : List ℕ). set x (a.b + l.j) (get_or a.from.now (a.a + l.j) 0)) l.invariant ∙ copy_turn a.to.now a.from.now a.b a.a l.j (omega arith) (omega arith)

pub returns : goal.returns
returns c = let l = c.loop-j in
    let a = c.args in
    let e : l.j ≡ 32 = omega arith in
    l.invariant ∙ ap (λ (n : ℕ). paste a.to.now a.b (drop a.a a.from.now) n) e
