use Rattle.std.proofs.Common.{sym, ap₂, ◌∙◌, ◌≤◌, length}
use Rattle.std.proofs.lemmas.Result.{IfOk-weaker}
use native.Mathlib.Omega.{arith}
use lib.ListN.{take}
use Rattle.disp_structs.specs.declared.TrainIdxsView.{TrainIdxsView}
use Rattle.free_path.specs.Columns.{trains}
use Rattle.free_path.specs.TrainIdxsView.{concat_train_idx_views}
use Rattle.free_path.proofs.PoolLaws.{lent-pool}
use Rattle.search.specs.Read.{views_of}
use Rattle.search.proofs.RewindLaws.{view_both}
use Rattle.search.proofs.rewind.rewind_view.Goals as goal

pub returns : goal.returns
returns c = let a = c.args in
    let s = c.requires in
    let v = c.view_at-v in
    let w = c.view_at-w in
    let u = c.concat_train_idx_views in
    (u.ensures.0 ∙ sym (lent-pool a.pool.now a.len v.result w.result s.0 s.1) ∙ ap₂ (λ (x : TrainIdxsView) (y : TrainIdxsView). concat_train_idx_views (take a.len (trains a.pool.now)) x y) v.ensures w.ensures ∙ view_both a.est (views_of a.n a.begins.now a.ends.now) (take a.len (trains a.pool.now)) c.if-est-eq0.false, IfOk-weaker u.result _ _ (λ x (h : x.len ≤ length u.new.pool). omega (arith, u.auto.pool, s.0)) u.ensures.1)
