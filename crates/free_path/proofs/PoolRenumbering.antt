-- The unions of the pool go with a renumbering of the trains. Assumes nothing.
use Rattle.std.proofs.Common.{◌≡◌, ℕ, zero, suc, ◌+◌, ◌-◌, cond, eqb, ltb, leb, List, [], ◌∷◌, ◌++◌, map, length, set, sym, refl, ap, ◌∙◌, ap₂}
use lib.ListN.{length-map}
use Rattle.link_rules.specs.LinkIdx.{same_train, no_train}
use Rattle.link_rules.specs.Renumbering.{Renumbering, r_train}
use Rattle.link_rules.specs.declared.link_idx.TrainIdx.{TrainIdx}
use Rattle.link_rules.proofs.RenumberingLaws.{same_train_r}
use Rattle.disp_structs.specs.Values.{view}
use Rattle.disp_structs.specs.declared.TrainIdxsView.{TrainIdxsView}
use Rattle.free_path.specs.Base.{Res, ok, at, last, popped, part, slice, any}
use Rattle.free_path.specs.TrainIdxsView.{pool_room, Pooled, pool_push, add_one, add_from, closed, add_blocking_trains, add_all_blocking_trains, covers, size, concat_train_idx_views}
use Rattle.free_path.specs.Renumbered.{r_pooled}
use Rattle.free_path.proofs.MapLaws.{map_res, bind-map, need-map, room-map, cond_map, at_map, last-map, part-map, append-map, popped-map, set-map, slice-map, any-map}

module _ (top : ℕ) (q : ℕ → ℕ) (rq : Renumbering top q) where
  abbrev r : TrainIdx → TrainIdx
  r = r_train q

  no_train_r : r no_train ≡ no_train
  no_train_r = ap (λ n. record { 0 = n }) rq.zero_stays

  pool_push_r : (pool : List TrainIdx) (t : TrainIdx) → pool_push (map r pool) (r t) ≡ map_res (map r) (pool_push pool t)
  unfolding pool_push
  pool_push_r pool t = room-map (map r) (leb (length pool + 1) pool_room) _ _ _ (ap (λ n. leb (n + 1) pool_room) (length-map pool r)) (ap ok (append-map r pool (t ∷ [])))

  add_one_r : (base : TrainIdxsView) (i : ℕ) (pool : List TrainIdx) → add_one base i (map r pool) ≡ map_res (map r) (add_one base i pool)
  unfolding add_one
  add_one_r base i pool =
      bind-map r (map r) (at pool i) _ _ _ (at_map r pool i) λ t.
      cond_map (map_res (map r)) (any (same_train t) (part base.idx_begin base.idx_end pool)) _ _ _ _ _
      (ap (any (same_train (r t))) (part-map r base.idx_begin base.idx_end pool)
      ∙ any-map r (same_train t) (same_train (r t)) (same_train_r top q rq t) (part base.idx_begin base.idx_end pool))
      (ap ok (set-map r pool base.idx_end t))
      (ap (λ x. pool_push x (r t)) (set-map r pool base.idx_end t) ∙ pool_push_r (set pool base.idx_end t) t)

  add_from_r : (base : TrainIdxsView) (k i : ℕ) (pool : List TrainIdx) → add_from base k i (map r pool) ≡ map_res (map r) (add_from base k i pool)
  unfolding add_from
  add_from_r base zero i pool = refl
  add_from_r base (suc k) i pool = bind-map (map r) (map r) (add_one base i pool) _ _ _ (add_one_r base i pool) (λ x. add_from_r base k (i + 1) x)

  abbrev shut : TrainIdxsView → List TrainIdx → ℕ → Res Pooled
  shut base y n = ok (record { pool = y; made = view base.idx_begin n })

  closed_r : (base : TrainIdxsView) (pool : List TrainIdx) → closed base (map r pool) ≡ map_res (r_pooled q) (closed base pool)
  unfolding closed
  closed_r base pool =
      bind-map r (r_pooled q) (last pool) _ _ _ (last-map r pool) λ t.
      let x = cond (ltb base.idx_end (length (popped pool))) (set (popped pool) base.idx_end t) (popped pool) in
      ap (λ y. shut base y (length y))
      (cond_map (map r) (ltb base.idx_end (length (popped pool))) _ _ _ _ _ (ap (λ y. ltb base.idx_end (length y)) (popped-map r pool) ∙ ap (ltb base.idx_end) (length-map (popped pool) r))
      (ap (λ y. set y base.idx_end (r t)) (popped-map r pool) ∙ set-map r (popped pool) base.idx_end t)
      (popped-map r pool))
      ∙ ap (shut base (map r x)) (length-map x r)

  pub add_blocking_trains_r : (pool : List TrainIdx) (base add : TrainIdxsView) → add_blocking_trains (map r pool) base add ≡ map_res (r_pooled q) (add_blocking_trains pool base add)
  unfolding add_blocking_trains
  add_blocking_trains_r pool base add =
      need-map (r_pooled q) (leb base.idx_begin base.idx_end) _ _ _ refl
      (need-map (r_pooled q) (eqb (length pool) base.idx_end) _ _ _ (ap (λ n. eqb n base.idx_end) (length-map pool r))
      (need-map (r_pooled q) (leb add.idx_begin add.idx_end) _ _ _ refl
      (bind-map (map r) (r_pooled q) (pool_push pool no_train) _ _ _ (ap (pool_push (map r pool)) (sym (no_train_r)) ∙ pool_push_r pool no_train) λ x.
      bind-map (map r) (r_pooled q) (add_from base (add.idx_end - add.idx_begin) add.idx_begin x) _ _ _ (add_from_r base (add.idx_end - add.idx_begin) add.idx_begin x) λ y.
      closed_r base y)))

  pub add_all_blocking_trains_r : (pool : List TrainIdx) (large small : TrainIdxsView) → add_all_blocking_trains (map r pool) large small ≡ map_res (r_pooled q) (add_all_blocking_trains pool large small)
  unfolding add_all_blocking_trains
  add_all_blocking_trains_r pool large small =
      need-map (r_pooled q) (leb small.idx_begin small.idx_end) _ _ _ refl
      (bind-map (map r) (r_pooled q) (slice pool large.idx_begin large.idx_end) _ _ _ (slice-map r pool large.idx_begin large.idx_end) λ ts.
      room-map (r_pooled q) (leb (length pool + length ts) pool_room) _ _ _ (ap₂ (λ a b. leb (a + b) pool_room) (length-map pool r) (length-map ts r))
      (ap (λ x. add_blocking_trains x (view (length x - length (map r ts)) (length x)) small) (append-map r pool ts)
      ∙ ap₂ (λ a b. add_blocking_trains (map r (pool ++ ts)) (view (a - b) a) small) (length-map (pool ++ ts) r) (length-map ts r)
      ∙ add_blocking_trains_r (pool ++ ts) (view (length (pool ++ ts) - length ts) (length (pool ++ ts))) small))

  pub concat_train_idx_views_r : (pool : List TrainIdx) (v w : TrainIdxsView) → concat_train_idx_views (map r pool) v w ≡ map_res (r_pooled q) (concat_train_idx_views pool v w)
  unfolding concat_train_idx_views
  concat_train_idx_views_r pool v w =
      cond_map (map_res (r_pooled q)) (covers v w) _ _ _ _ _ refl refl
      (cond_map (map_res (r_pooled q)) (covers w v) _ _ _ _ _ refl refl
      (cond_map (map_res (r_pooled q)) (eqb (length pool) v.idx_end) _ _ _ _ _ (ap (λ n. eqb n v.idx_end) (length-map pool r)) (add_blocking_trains_r pool v w)
      (cond_map (map_res (r_pooled q)) (eqb (length pool) w.idx_end) _ _ _ _ _ (ap (λ n. eqb n w.idx_end) (length-map pool r)) (add_blocking_trains_r pool w v)
      (cond_map (map_res (r_pooled q)) (leb (size w) (size v)) _ _ _ _ _ refl (add_all_blocking_trains_r pool v w) (add_all_blocking_trains_r pool w v)))))
