-- An image can hold what an update leaves: floats and auth stay within their fields. Trains are among those that it met: P holds of those that it
-- leaves and of the holder of a blocked one where it holds of those of the diverge nodes and the occupancy. Assumes nothing.
use mathlib.Core.Path.{◌≡◌, refl, sym, ap, subst}
use mathlib.Core.Logic.{⊎_elim}
use mathlib.Core.Bool.{Bool, true, false, cond}
use mathlib.Core.List.{List, [], ◌∷◌, ◌++◌}
use Prim.Native.Nat.{ℕ, zero, suc, ◌+◌, ◌-◌, ◌≤◌}
use native.Mathlib.Omega.{arith}
use lib.Dec.{leb, ltb, eqb}
use lib.Ieee.{binary64}
use lib.Ieee.Fits.{add-fits, inf-fits}
use lib.ListN.{length, take, drop, set}
use Rattle.link_rules.specs.LinkIdx.{same_train, no_train}
use Rattle.link_rules.specs.declared.link_idx.TrainIdx.{TrainIdx}
use Rattle.disp_structs.specs.Values.{view, same_est, no_est}
use Rattle.disp_structs.specs.declared.DispNode.{DispNode}
use Rattle.disp_structs.specs.declared.DivergeNode.{DivergeNode}
use Rattle.disp_structs.specs.declared.TrainIdxsView.{TrainIdxsView}
use Rattle.free_path.specs.Base.{ok, at, last, popped, part, slice, any}
use Rattle.free_path.specs.TrainIdxsView.{pool_room, Pooled, pool_push, add_one, add_from, closed, add_blocking_trains, add_all_blocking_trains, concat_train_idx_views, covers, size}
use Rattle.update_definition.specs.State.{Round, Search, Turn, go_on, Ended, view_of, diverging}
use Rattle.update_definition.specs.Look.{Here, current}
use Rattle.update_definition.specs.Moves.{first_train, holder_of, alternate_node, saved_node, advance_node}
use Rattle.update_definition.specs.Update.{search_step, search_from}
use Rattle.update_definition.specs.Accepted.{Each, Accepted}
use Rattle.update_definition.specs.Fits.{NodeFits}
use Rattle.update_laws.specs.Turns.{Met, Stands, Looks, Rewound, Did, Turned, After}
use Rattle.update_laws.specs.Turns.Looks.{passes, blocks}
use Rattle.update_laws.specs.Turns.Did.{pops, shortens, gives_up, alternates, changes, saves, empties, advances, joins}
use Rattle.update_laws.specs.Good.{Good, stack}
use Rattle.update_laws.specs.AfterRound.{AtEnd}
use Rattle.update_laws.specs.FitsGood.{DivWith, RoundWith, SearchWith, EndsWith}
use Rattle.update_laws.proofs.Answers.{ok_same, bind_ok, need-ok, room-ok, cond_cases, before-ok, slice-ok}
use Rattle.update_laws.proofs.Lists.{at_last, at_map, at_set, each_append, each-one, each_take, each-drop}
use Rattle.update_laws.proofs.NewDivs.{cut_is}
use Rattle.update_laws.proofs.Turning.{step_ok}
use Rattle.update_laws.proofs.GoodTurns.{search-last, looked-good, looked-stands}
use Rattle.update_laws.proofs.Changing.{changed-to}
use Rattle.update_laws.proofs.Joins.{joined_to}

-- ---- the pool: a union brings no other trains

module _ (P : TrainIdx → Type 0) (none : P no_train) where
  set-each : (xs : List TrainIdx) (i : ℕ) (t : TrainIdx) → P t → Each P xs → Each P (set xs i t)
  set-each xs i t p a j x h = ⊎_elim (λ q. a j x q) (λ q. subst P (sym q) p) (at_set xs i t j h)

  push_each : (xs : List TrainIdx) (t : TrainIdx) {ys : List TrainIdx} → P t → Each P xs → pool_push xs t ≡ ok ys → Each P ys
  unfolding pool_push
  push_each xs t p a h = let o = room-ok (leb (length xs + 1) pool_room) h in subst (λ (y : List TrainIdx). Each P y) (ok_same o.1) (each_append P xs (t ∷ []) a (each-one P t p))

  slice-each : (xs : List TrainIdx) (b e : ℕ) {ys : List TrainIdx} → Each P xs → slice xs b e ≡ ok ys → Each P ys
  slice-each xs b e a h = let s = slice-ok xs b e h in subst (λ (y : List TrainIdx). Each P y) s.2 (each_take P (e - b) (drop b xs) (each-drop P b xs a))

  one_each : (base : TrainIdxsView) (i : ℕ) (xs : List TrainIdx) {ys : List TrainIdx} → Each P xs → add_one base i xs ≡ ok ys → Each P ys
  unfolding add_one
  one_each base i xs a h =
      let t = bind_ok (at xs i) h in
      let p = a i t.0 t.1 in
      let b = set-each xs base.idx_end t.0 p a in ⊎_elim
      (λ c. subst (λ (y : List TrainIdx). Each P y) (ok_same c.1) b)
      (λ c. push_each (set xs base.idx_end t.0) t.0 p b c.1)
      (cond_cases (any (same_train t.0) (part base.idx_begin base.idx_end xs)) t.2)

  from_each : (base : TrainIdxsView) (k i : ℕ) (xs ys : List TrainIdx) → Each P xs → add_from base k i xs ≡ ok ys → Each P ys
  unfolding add_from
  from_each base zero i xs ys a h = subst (λ (y : List TrainIdx). Each P y) (ok_same h) a
  from_each base (suc k) i xs ys a h = let q = bind_ok (add_one base i xs) h in from_each base k (i + 1) q.0 ys (one_each base i xs a q.1) q.2

  closed-each : (base : TrainIdxsView) (xs : List TrainIdx) {p : Pooled} → Each P xs → closed base xs ≡ ok p → Each P p.pool
  unfolding closed
  closed-each base xs {p} a h =
      let t = bind_ok (last xs) h in
      let b = each_take P (length xs - 1) xs a in
      let q = ap (λ (y : Pooled). y.pool) (ok_same t.2) in
      subst (λ (y : List TrainIdx). Each P y) q (go t.0 (a (length xs - 1) t.0 (at_last xs t.1)) b (ltb base.idx_end (length (popped xs))))
    where
      go : (t : TrainIdx) → P t → Each P (popped xs) → (c : Bool) → Each P (cond c (set (popped xs) base.idx_end t) (popped xs))
      go t p b true = set-each (popped xs) base.idx_end t p b
      go t p b false = b

  add-each : (xs : List TrainIdx) (base add : TrainIdxsView) {p : Pooled} → Each P xs → add_blocking_trains xs base add ≡ ok p → Each P p.pool
  unfolding add_blocking_trains
  add-each xs base add e h =
      let a = need-ok (leb base.idx_begin base.idx_end) h in
      let b = need-ok (eqb (length xs) base.idx_end) a.1 in
      let c = need-ok (leb add.idx_begin add.idx_end) b.1 in
      let q = bind_ok (pool_push xs no_train) c.1 in
      let r = bind_ok (add_from base (add.idx_end - add.idx_begin) add.idx_begin q.0) q.2 in
      closed-each base r.0 (from_each base (add.idx_end - add.idx_begin) add.idx_begin q.0 r.0 (push_each xs no_train none e q.1) r.1) r.2

  all_each : (xs : List TrainIdx) (large small : TrainIdxsView) {p : Pooled} → Each P xs → add_all_blocking_trains xs large small ≡ ok p → Each P p.pool
  unfolding add_all_blocking_trains
  all_each xs large small e h =
      let a = need-ok (leb small.idx_begin small.idx_end) h in
      let t = bind_ok (slice xs large.idx_begin large.idx_end) a.1 in
      let o = room-ok (leb (length xs + length t.0) pool_room) t.2 in
      add-each (xs ++ t.0) (view (length (xs ++ t.0) - length t.0) (length (xs ++ t.0))) small (each_append P xs t.0 e (slice-each xs large.idx_begin large.idx_end e t.1)) o.1

  pub concat_each : (xs : List TrainIdx) (v w : TrainIdxsView) {p : Pooled} → Each P xs → concat_train_idx_views xs v w ≡ ok p → Each P p.pool
  unfolding concat_train_idx_views
  concat_each xs v w {p} e h = ⊎_elim
      (λ a. subst (λ (y : Pooled). Each P y.pool) (ok_same a.1) e)
      (λ a. ⊎_elim
      (λ b. subst (λ (y : Pooled). Each P y.pool) (ok_same b.1) e)
      (λ b. ⊎_elim
      (λ c. add-each xs v w e c.1)
      (λ c. ⊎_elim
      (λ d. add-each xs w v e d.1)
      (λ d. ⊎_elim (λ f. all_each xs v w e f.1) (λ f. all_each xs w v e f.1) (cond_cases (leb (size w) (size v)) d.1))
      (cond_cases (eqb (length xs) w.idx_end) c.1))
      (cond_cases (eqb (length xs) v.idx_end) b.1))
      (cond_cases (covers w v) a.1))
      (cond_cases (covers v w) h)

  pub rewind-each : (r : Round) (h : Here) (s : Search) (w : Rewound r h s) → Each P s.train_idxs_blocking → Each P w.pooled.pool
  rewind-each r h s w e = ⊎_elim
      (λ c. subst (λ (y : Pooled). Each P y.pool) (ok_same c.1) e)
      (λ c. concat_each s.train_idxs_blocking (view_of s.views h.est_curr.idx_next) (view_of s.views h.est_curr.idx_next_alt) e c.1)
      (cond_cases (same_est h.est_curr.idx_next_alt no_est) w.pooled-is)

  first-each : (ts : List TrainIdx) → Each P ts → P (first_train ts)
  unfolding at
  first-each [] e = none
  first-each (t ∷ ts) e = e 0 t refl

  pub holder-each : (p : Pooled) → Each P p.pool → P (holder_of p)
  holder-each p e =
      let v = p.made in
      first-each (part v.idx_begin v.idx_end p.pool) (each_take P (v.idx_end - v.idx_begin) (drop v.idx_begin p.pool) (each-drop P v.idx_begin p.pool e))

diverging_fit : (P : TrainIdx → Type 0) (node : ℕ) (ts : List TrainIdx) → Each P ts → Each (DivWith P) (diverging node ts)
unfolding diverging
diverging_fit P node ts e i d h =
    let x = at_map {B = DivergeNode} (λ (t : TrainIdx). record { train_idx = t; disp_node_idx = node }) ts i h in
    subst (λ (y : DivergeNode). DivWith P y) x.2 (e i x.0 x.1)

-- ---- a turn

module _ (P : TrainIdx → Type 0) (none : P no_train) (r : Round) (g : RoundWith P r) where
  -- a train that a look meets
  met-fits : (t : TrainIdx) → Met r t → P t
  met-fits t m = ⊎_elim
      (λ w. subst (λ (y : TrainIdx). P y) w.3 (g.train.divs w.0 w.1 w.2))
      (λ w. subst (λ (y : TrainIdx). P y) w.1 (g.held w.0.0))
      m.from

  pub looks_fit : (h : Here) {s u : Search} → Looks r h s u → SearchWith P s → SearchWith P u
  looks_fit h (passes d a b) k = record { pool = k.pool; nodes = k.nodes; divs = k.divs }
  looks_fit h {s} (blocks d ts a b c t f some) k = record { pool = each_append P s.train_idxs_blocking ts k.pool (λ i x p. met-fits x (t i x p)); nodes = k.nodes; divs = k.divs }

  module _ (s : Search) (k : SearchWith P s) (h : Here) (st : Stands r s h) where
    curr-fits : NodeFits h.disp_node_curr
    curr-fits = go s.disp_path_new k.nodes st.curr
      where
        go : (new : List DispNode) → Each NodeFits new → current r.train.disp_path new s.idx_split ≡ ok h.disp_node_curr → NodeFits h.disp_node_curr
        go [] e q = g.train.nodes (s.idx_split - 1) h.disp_node_curr (before-ok r.train.disp_path s.idx_split q).1
        go (a ∷ new) e q = e (length (a ∷ new) - 1) h.disp_node_curr (at_last (a ∷ new) q)

    pushed : (b : DispNode) → NodeFits b → Each NodeFits (s.disp_path_new ++ (b ∷ []))
    pushed b f = each_append NodeFits s.disp_path_new (b ∷ []) k.nodes (each-one NodeFits b f)

    cut_fits : (w : Rewound r h s) → Each (DivWith P) w.divs
    cut_fits w = let q = cut_is h.idx_join_new s.div_nodes_new w.divs-is in subst (λ (y : List DivergeNode). Each (DivWith P) y) (sym q.1) (each_take (DivWith P) q.0 s.div_nodes_new k.divs)

    pub did_fit : {t : Turn} → Did r h s t → After (SearchWith P) t
    did_fit (pops w n ns q) = record { pool = rewind-each P none r h s w k.pool; nodes = each_take NodeFits (length s.disp_path_new - 1) s.disp_path_new k.nodes; divs = cut_fits w }
    did_fit (shortens w q l) = record { pool = rewind-each P none r h s w k.pool; nodes = k.nodes; divs = cut_fits w }
    did_fit (gives_up w q) = tt
    did_fit (alternates ts p b n f c w off) =
        let y = view_of s.views h.est_curr.idx_next in
        record {
          pool = k.pool;
          nodes = pushed (alternate_node h.disp_node_curr h.est_curr.idx_next_alt) (record { offset-fits = curr-fits.offset-fits; time-fits = curr-fits.time-fits; auth = omega arith });
          divs = each_append (DivWith P) s.div_nodes_new (diverging h.idx_join_new ts) k.divs (diverging_fit P h.idx_join_new ts (slice-each P none s.train_idxs_blocking y.idx_begin y.idx_end k.pool p));
        }
    did_fit (changes d b q) = tt
    did_fit (saves n m f l a w z) =
        let x = g.train.nodes s.idx_save n a in
        record { pool = k.pool; nodes = pushed (saved_node n h.est_curr.idx_next) (record { offset-fits = x.offset-fits; time-fits = x.time-fits; auth = x.auth }); divs = k.divs }
    did_fit (empties f l) = record { pool = k.pool; nodes = k.nodes; divs = k.divs }
    did_fit (advances f w) = record {
      pool = k.pool;
      nodes = pushed (advance_node h) (record { offset-fits = add-fits binary64 h.disp_node_curr.offset.0 h.est_curr.dist_to_next.0; time-fits = inf-fits binary64 false; auth = omega arith });
      divs = k.divs;
    }
    did_fit (joins d b q) = tt

    -- how it ends
    module _ (links : ℕ) (acc : Accepted links r.train) (low : 1 ≤ s.div_idx_split) where
      pub ends_fit : {t : Turn} → Did r h s t → AtEnd (EndsWith P) t
      ends_fit (pops w n ns q) = tt
      ends_fit (shortens w q l) = tt
      ends_fit (gives_up w q) = (
        record { ests = g.train.ests; nodes = g.train.nodes; divs = g.train.divs; train = g.train.train; search = g.train.search; fixed_max = g.train.fixed_max },
        holder-each P none w.pooled (rewind-each P none r h s w k.pool),
      )
      ends_fit (alternates ts p b n f c w off) = tt
      ends_fit (changes d b q) =
          let c = changed-to r h s q in
          let y = view_of s.views h.est_curr.idx_next in
          subst (λ (x : Ended). EndsWith P x) c.is (record {
            ests = g.train.ests;
            nodes = g.train.nodes;
            divs = each_append (DivWith P) (take s.div_idx_split r.train.div_nodes ++ diverging s.idx_split c.trains) (drop c.from r.train.div_nodes)
                (each_append (DivWith P) (take s.div_idx_split r.train.div_nodes) (diverging s.idx_split c.trains) (each_take (DivWith P) s.div_idx_split r.train.div_nodes g.train.divs)
                (diverging_fit P s.idx_split c.trains (slice-each P none s.train_idxs_blocking y.idx_begin y.idx_end k.pool c.trains_are)))
                (each-drop (DivWith P) c.from r.train.div_nodes g.train.divs);
            train = g.train.train;
            search = g.train.search;
            fixed_max = g.train.fixed_max;
          })
      ends_fit (saves n m f l a w z) = tt
      ends_fit (empties f l) = tt
      ends_fit (advances f w) = tt
      ends_fit (joins d b q) =
          let j = joined_to links r acc s low h q in
          let rest-fit : Each (DivWith P) j.updated.rest = λ i x p. let u = j.updated.from i x p in subst (λ (y : TrainIdx). P y) (sym u.3) (g.train.divs u.0 u.1 u.2) in
          subst (λ (x : Ended). EndsWith P x) j.is (record {
            ests = g.train.ests;
            nodes = each_append NodeFits (stack r s) j.helpers.rest (each_append NodeFits (take s.idx_split r.train.disp_path) s.disp_path_new (each_take NodeFits s.idx_split r.train.disp_path g.train.nodes) k.nodes)
                (j.helpers.moved.fit (each-drop NodeFits j.base r.train.disp_path g.train.nodes));
            divs = subst (λ (y : List DivergeNode). Each (DivWith P) y) (sym j.updated.divs-is)
                (each_append (DivWith P) (take s.div_idx_split r.train.div_nodes ++ drop 1 s.div_nodes_new) j.updated.rest
                (each_append (DivWith P) (take s.div_idx_split r.train.div_nodes) (drop 1 s.div_nodes_new) (each_take (DivWith P) s.div_idx_split r.train.div_nodes g.train.divs) (each-drop (DivWith P) 1 s.div_nodes_new k.divs))
                rest-fit);
            train = g.train.train;
            search = g.train.search;
            fixed_max = g.train.fixed_max;
          })

  -- ---- a search

  module _ (links : ℕ) (acc : Accepted links r.train) where
    looked_fit : (s : Search) {t : Turn} (w : Turned r s t) → SearchWith P s → SearchWith P w.looked
    looked_fit s w k = looks_fit w.here w.occupied (looks_fit w.here w.stored k)

    pub step_fits : (s u : Search) → Good links r s → SearchWith P s → search_step r s ≡ ok (go_on u) → SearchWith P u
    step_fits s u a k p = let w = step_ok r s acc.divs p in did_fit w.looked (looked_fit s w k) w.here (looked-stands links r acc s a w) w.did

    pub search-fits : (n : ℕ) (s : Search) (e : Ended) → Good links r s → SearchWith P s → search_from n r s ≡ ok e → EndsWith P e
    search-fits n s e a k q =
        let l = search-last links r acc (SearchWith P) step_fits n s e a k q in
        let w = step_ok r l.0 acc.divs l.3 in
        ends_fit w.looked (looked_fit l.0 w l.2) w.here (looked-stands links r acc l.0 l.1 w) links acc (looked-good links r acc l.0 l.1 w).div_split-good.low w.did
