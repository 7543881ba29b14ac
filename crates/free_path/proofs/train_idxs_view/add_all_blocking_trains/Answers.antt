use Rattle.std.proofs.Common.{ℕ, ◌+◌, ◌-◌, List, take, ap, ◌∙◌, arith}
use Rattle.free_path.specs.Columns.{trains}
use Rattle.free_path.proofs.PoolLaws.{all_order, all_large, all_place, all_full, all_go, copied}
use Rattle.free_path.proofs.train_idxs_view.add_all_blocking_trains.Goals as goal

pub returns-then-small : goal.returns-then-small
returns-then-small c = let a = c.args in
    (all_order a.pool.now a.len a.large a.small c.requires.0 c.requires.1 c.if-small.true, tt, c.requires.0)

pub returns-then-large : goal.returns-then-large
returns-then-large c = let a = c.args in
    (all_large a.pool.now a.len a.large a.small c.requires.0 c.requires.1 c.if-small.false c.if-large.true, tt, c.requires.0)

pub returns-then-len-e : goal.returns-then-len-e
returns-then-len-e c = let a = c.args in
    (all_place a.pool.now a.len a.large a.small c.requires.0 c.requires.1 c.if-small.false c.if-large.false c.if-len-e.true, tt, c.requires.0)

pub returns-then-len-k-gt2048 : goal.returns-then-len-k-gt2048
returns-then-len-k-gt2048 c = let a = c.args in
    (all_full a.pool.now a.len a.large a.small c.requires.0 c.requires.1 c.if-small.false c.if-large.false c.if-len-e.false c.if-len-k-gt2048.true, tt, c.requires.0)

pub returns : goal.returns
returns c = let a = c.args in
    let e = c.add_blocking_trains.ensures in
    let p = ap (λ (r : List ℕ). take (a.len + (a.large.idx_end - a.large.idx_begin)) (trains r)) c.copy_within.ensures.after
    ∙ copied a.pool.now a.len a.large.idx_begin a.large.idx_end (omega arith) (omega arith) (omega arith) in
    (e.0 ∙ all_go a.pool.now a.len a.large a.small c.requires.0 c.requires.1 c.if-small.false c.if-large.false c.if-len-e.false c.if-len-k-gt2048.false _ p, e.1, e.2)
