use Rattle.std.proofs.Common.{◌≡◌, Err, tests, take, sym, ◌∙◌, arith, rules}
use Rattle.free_path.specs.Columns.{trains}
use Rattle.free_path.proofs.PoolLaws.{from_end, from_stop, from-turn}
use Rattle.free_path.proofs.train_idxs_view.add_from.Goals as goal

pub returns-in_err-n : goal.returns-in_err-n
returns-in_err-n c = let a = c.args in
    let r : c.from_residual.result ≡ Err c.in_err-n.field-0.0 = search (rules, tests) in
    let e = c.in_err-n.ensures in
    rw r (from_stop a.base a.end c.loop-i.i (take c.loop-i.n (trains c.loop-i.pool)) (omega arith) _ e.0 ∙ c.loop-i.invariant.3, tt, e.2)

pub loop-i-preserved : goal.loop-i-preserved
loop-i-preserved c = let a = c.args in
    let e = c.in_ok-n.ensures in
    (e.2, omega arith, e.1.1, from-turn a.base a.end c.loop-i.i (take c.loop-i.n (trains c.loop-i.pool)) (omega arith) _ e.0 ∙ c.loop-i.invariant.3)

pub returns : goal.returns
returns c = let a = c.args in
    (sym (from_end a.base a.end c.loop-i.i (take c.loop-i.n (trains c.loop-i.pool)) (omega arith)) ∙ c.loop-i.invariant.3, search rules, c.loop-i.invariant.0)
