use Rattle.std.proofs.Common.{◌≤◌, length, ◌∙◌, arith}
use Rattle.std.proofs.lemmas.Result.{IfOk-weaker}
use Rattle.free_path.proofs.PoolLaws.{lent-size, lent-count, lent-pool}
use Rattle.free_path.proofs.train_idxs_view.concat_train_idx_views.Goals as goal
use Rattle.free_path.proofs.train_idxs_view.concat_train_idx_views.Goals.{then-pool-ne2048-via-then-pool-ne2048, then-pool-ne2048-via-else-pool-ne2048+then-len-gt2048}

pub returns-then-pool-ne2048 : goal.returns-then-pool-ne2048
returns-then-pool-ne2048 c = let a = c.args in
    elim c.then-pool-ne2048.branch [
      | then-pool-ne2048-via-then-pool-ne2048 w ↦ (lent-size a.pool.now a.len a.v a.w w.if-pool-ne2048.true, tt)
      | then-pool-ne2048-via-else-pool-ne2048+then-len-gt2048 w ↦ (lent-count a.pool.now a.len a.v a.w w.if-pool-ne2048.false w.if-len-gt2048.true, tt)
    ]

pub returns : goal.returns
returns c = let a = c.args in
    let e = c.concat_in.ensures in
    (e.0 ∙ lent-pool a.pool.now a.len a.v a.w c.if-pool-ne2048.false c.if-len-gt2048.false, IfOk-weaker c.concat_in.result (λ u. u.len ≤ 2048) (λ u. u.len ≤ length c.concat_in.new.pool) (λ u h. omega arith) e.1)
