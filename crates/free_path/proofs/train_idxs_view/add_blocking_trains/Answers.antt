use Rattle.std.proofs.Common.{◌≡◌, Err, ◌∙◌, rules, tests}
use Rattle.free_path.proofs.PoolLaws.{block_order, block_place, block_added, block_full, block_stop, block_go}
use Rattle.free_path.proofs.train_idxs_view.add_blocking_trains.Goals as goal

pub returns-then-base : goal.returns-then-base
returns-then-base c = let a = c.args in
    (block_order a.pool.now a.len a.base a.add c.requires.0 c.requires.1 c.if-base.true, tt, c.requires.0)

pub returns-then-len-base : goal.returns-then-len-base
returns-then-len-base c = let a = c.args in
    (block_place a.pool.now a.len a.base a.add c.requires.0 c.requires.1 c.if-base.false c.if-len-base.true, tt, c.requires.0)

pub returns-then-add : goal.returns-then-add
returns-then-add c = let a = c.args in
    (block_added a.pool.now a.len a.base a.add c.requires.0 c.requires.1 c.if-base.false c.if-len-base.false c.if-add.true, tt, c.requires.0)

pub returns-then-len-eq2048 : goal.returns-then-len-eq2048
returns-then-len-eq2048 c = let a = c.args in
    (block_full a.pool.now a.len a.base a.add c.requires.0 c.requires.1 c.if-base.false c.if-len-base.false c.if-add.false c.if-len-eq2048.true, tt, c.requires.0)

pub returns-in_err-n : goal.returns-in_err-n
returns-in_err-n c = let a = c.args in
    let r : c.from_residual.result ≡ Err c.in_err-n.field-0.0 = search (rules, tests) in
    let e = c.in_err-n.ensures in
    rw r (block_stop a.pool.now a.len a.base a.add c.requires.0 c.requires.1 c.if-base.false c.if-len-base.false c.if-add.false c.if-len-eq2048.false _ e.0, tt, e.2)

pub returns : goal.returns
returns c = let a = c.args in
    let e = c.close.ensures in
    (e.0 ∙ block_go a.pool.now a.len a.base a.add c.requires.0 c.requires.1 c.if-base.false c.if-len-base.false c.if-add.false c.if-len-eq2048.false _ c.in_ok-n.ensures.0, e.1, e.2)
