use Rattle.std.proofs.Common.{sym, ◌∙◌}
use Rattle.free_path.proofs.PoolLaws.{cat_left, cat_right, cat_by_end, cat_by_add, cat_large, cat_small}
use Rattle.free_path.proofs.train_idxs_view.concat_in.Goals as goal

pub returns-then-holds : goal.returns-then-holds
returns-then-holds c = let a = c.args in
    (cat_left a.pool.now a.len a.v a.w c.requires.0 c.requires.1 (sym c.holds.ensures ∙ c.if-holds.true), c.requires.1, c.requires.0)

pub returns-then-holds-2 : goal.returns-then-holds-2
returns-then-holds-2 c = let a = c.args in
    (cat_right a.pool.now a.len a.v a.w c.requires.0 c.requires.1 (sym c.holds.ensures ∙ c.if-holds.false) (sym c.holds-2.ensures ∙ c.if-holds-2.true), c.requires.1, c.requires.0)

pub returns-then-len-v : goal.returns-then-len-v
returns-then-len-v c = let a = c.args in
    let e = c.add_blocking_trains.ensures in
    (e.0 ∙ cat_by_end a.pool.now a.len a.v a.w c.requires.0 c.requires.1 (sym c.holds.ensures ∙ c.if-holds.false) (sym c.holds-2.ensures ∙ c.if-holds-2.false) c.if-len-v.true, e.1, e.2)

pub returns-then-len-w : goal.returns-then-len-w
returns-then-len-w c = let a = c.args in
    let e = c.add_blocking_trains-then-len-w.ensures in
    (e.0 ∙ cat_by_add a.pool.now a.len a.v a.w c.requires.0 c.requires.1 (sym c.holds.ensures ∙ c.if-holds.false) (sym c.holds-2.ensures ∙ c.if-holds-2.false) c.if-len-v.false c.if-len-w.true, e.1, e.2)

pub returns-then-extent : goal.returns-then-extent
returns-then-extent c = let a = c.args in
    let e = c.add_all_blocking_trains.ensures in
    let p = c.extent in
    let q = c.extent-2 in
    (e.0 ∙ cat_large a.pool.now a.len a.v a.w c.requires.0 c.requires.1 (sym c.holds.ensures ∙ c.if-holds.false) (sym c.holds-2.ensures ∙ c.if-holds-2.false) c.if-len-v.false c.if-len-w.false p.result q.result p.ensures q.ensures c.if-extent.true, e.1, e.2)

pub returns : goal.returns
returns c = let a = c.args in
    let e = c.add_all_blocking_trains-2.ensures in
    let p = c.extent in
    let q = c.extent-2 in
    (e.0 ∙ cat_small a.pool.now a.len a.v a.w c.requires.0 c.requires.1 (sym c.holds.ensures ∙ c.if-holds.false) (sym c.holds-2.ensures ∙ c.if-holds-2.false) c.if-len-v.false c.if-len-w.false p.result q.result p.ensures q.ensures c.if-extent.false, e.1, e.2)
