-- A turn up to its move goes with a renumbering. Assumes nothing.
use mathlib.Core.Path.{◌≡◌, refl, ap, ap₂, ◌∙◌}
use mathlib.Core.Bool.{cond, not, ◌&&◌, ◌||◌}
use mathlib.Core.List.{List, [], ◌∷◌, map}
use Prim.Native.Nat.{ℕ, zero, suc, ◌+◌, ◌-◌}
use lib.Dec.{ltb, leb, eqb}
use lib.ListN.{length, length-map}
use Rattle.link_rules.specs.LinkIdx.{entry_at}
use Rattle.link_rules.specs.Renumbering.{Renumbering, r_train}
use Rattle.link_rules.specs.Matching.{OccupanciesMatch}
use Rattle.link_rules.specs.declared.link_idx.LinkIdx.{LinkIdx}
use Rattle.link_rules.specs.declared.link_idx.TrainIdx.{TrainIdx}
use Rattle.link_rules.proofs.RenumberingLaws.{same_train_r, entry_r, occupied_r}
use Rattle.disp_structs.specs.Values.{same_est, no_est, is_arrive}
use Rattle.disp_structs.specs.Renumbered.{r_event, r_est, r_node, r_div}
use Rattle.disp_structs.specs.declared.LinkEvent.{LinkEvent}
use Rattle.disp_structs.specs.declared.EstTime.{EstTime}
use Rattle.disp_structs.specs.declared.DispNode.{DispNode}
use Rattle.disp_structs.specs.declared.DivergeNode.{DivergeNode}
use Rattle.disp_structs.specs.declared.TrainIdxsView.{TrainIdxsView}
use Rattle.free_path.specs.Base.{Res, ok, at, before, is_empty, slice}
use Rattle.free_path.proofs.MapLaws.{map_res, map-id, bind-map, bind_same, need-map, cond_map, at_map, before-map, last-map, is_empty-map, slice-map}
use Rattle.free_path.specs.Validate.{on_path}
use Rattle.update_definition.specs.State.{Round, Search, set_div_split, blocked}
use Rattle.update_definition.specs.Look.{Here, current, look_from, look_here, block_by, Stored, stored_from, block_stored, take_stored, stored_trains, meets_train, occupied_next, saved_matches, move_of}
use Rattle.update_laws.proofs.StateRenumbering.{r_round, r_search, r_here, same_event_r, on_path_r, block_by_r}

-- ---- where the search stands

current_r : (p : ℕ → ℕ) (path new : List DispNode) (split : ℕ) → current (map (r_node p) path) (map (r_node p) new) split ≡ map_res (r_node p) (current path new split)
current_r p path new split = cond_map (map_res (r_node p)) (is_empty new) _ _ _ _ _ (is_empty-map (r_node p) new) (before-map (r_node p) path split) (last-map (r_node p) new)

look_from_r : (p q : ℕ → ℕ) (x : Res DispNode) (join : ℕ) (est : List EstTime) (views : List TrainIdxsView) (divs : List DivergeNode) (d : ℕ)
    → look_from (map_res (r_node p) x) join (map (r_est p) est) views (map (r_div q) divs) d ≡ map_res (r_here p) (look_from x join est views divs d)
unfolding look_from
look_from_r p q x join est views divs d =
    bind-map (r_node p) (r_here p) x _ _ _ refl λ n.
    bind-map (r_est p) (r_here p) (at est n.est_idx.0) _ _ _ (at_map (r_est p) est n.est_idx.0) λ e.
    need-map (r_here p) (not (blocked views n.est_idx)) _ _ _ refl
    (need-map (r_here p) (not (same_est e.idx_next no_est)) _ _ _ refl
    (bind-map (r_est p) (r_here p) (at est e.idx_next.0) _ _ _ (at_map (r_est p) est e.idx_next.0) λ y.
    bind-map (r_div q) (r_here p) (before divs d) _ _ _ (before-map (r_div q) divs d) λ a.
    bind-map (r_div q) (r_here p) (at divs d) _ _ _ (at_map (r_div q) divs d) λ b.
    need-map (r_here p) (ltb a.disp_node_idx b.disp_node_idx) _ _ _ refl refl))

pub look_here_r : (p q : ℕ → ℕ) (occ' : List ℕ) (r : Round) (s : Search) → look_here (r_round p q occ' r) (r_search p q s) ≡ map_res (r_here p) (look_here r s)
look_here_r p q occ' r s =
    ap₂ (λ x n. look_from x (s.idx_split + n) (map (r_est p) r.train.est_times) s.views (map (r_div q) r.train.div_nodes) s.div_idx_split)
    (current_r p r.train.disp_path s.disp_path_new s.idx_split) (length-map s.disp_path_new (r_node p))
    ∙ look_from_r p q (current r.train.disp_path s.disp_path_new s.idx_split) (s.idx_split + length s.disp_path_new) r.train.est_times s.views r.train.div_nodes s.div_idx_split

-- ---- stored trains

trains_r : (q : ℕ → ℕ) (ds : List DivergeNode) → map (λ (d : DivergeNode). d.train_idx) (map (r_div q) ds) ≡ map (r_train q) (map (λ (d : DivergeNode). d.train_idx) ds)
trains_r q [] = refl
trains_r q (d ∷ ds) = ap (λ ts. r_train q d.train_idx ∷ ts) (trains_r q ds)

module _ (top : ℕ) (q : ℕ → ℕ) (rq : Renumbering top q) where
  stored_from_r : (ds : List DivergeNode) (join : ℕ) (m : TrainIdx) (k : ℕ) → stored_from (map (r_div q) ds) join (r_train q m) k ≡ map_res (λ x. x) (stored_from ds join m k)
  unfolding stored_from
  stored_from_r ds join m zero = refl
  stored_from_r ds join m (suc k) =
      bind-map (r_div q) (λ x. x) (at ds k) _ _ _ (at_map (r_div q) ds k) λ d.
      cond_map (map_res (λ x. x)) (eqb d.disp_node_idx join) _ _ _ _ _ refl
      (bind_same (λ x. x) (stored_from ds join m k) _ _ _ (map-id _ _ (stored_from_r ds join m k)) λ x.
      ap (λ t. ok (record { div_idx_split = x.div_idx_split; met = x.met || t })) (same_train_r top q rq d.train_idx m))
      refl

  module _ (p : ℕ → ℕ) (occ' : List ℕ) (r : Round) (h : Here) where
    abbrev S : Search → Search
    S = r_search p q

    block_stored_r : (s : Search) (x : Stored) → block_stored (r_round p q occ' r) (r_here p h) (S s) x ≡ map_res S (block_stored r h s x)
    unfolding block_stored
    block_stored_r s x =
        need-map S (blocked s.views h.est_curr.idx_next_alt) _ _ _ refl
        (bind-map (map (r_div q)) S (slice r.train.div_nodes x.div_idx_split s.div_idx_split) _ _ _ (slice-map (r_div q) r.train.div_nodes x.div_idx_split s.div_idx_split) λ ds.
        ap (block_by (S (set_div_split s x.div_idx_split)) h.est_curr.idx_next) (trains_r q ds)
        ∙ block_by_r p q (set_div_split s x.div_idx_split) h.est_curr.idx_next (map (λ d. d.train_idx) ds))

    take_stored_r : (s : Search) → take_stored (r_round p q occ' r) (r_here p h) (S s) ≡ map_res S (take_stored r h s)
    unfolding take_stored
    take_stored_r s =
        need-map S (not (same_est h.est_curr.idx_next_alt no_est)) _ _ _ refl
        (need-map S (on_path r.train.disp_path h.est_curr.idx_next_alt) _ _ _ (on_path_r p r.train.disp_path h.est_curr.idx_next_alt)
        (need-map S (not (blocked s.views h.est_curr.idx_next)) _ _ _ refl
        (bind_same S (stored_from r.train.div_nodes h.idx_join_new r.train_idx_moved s.div_idx_split) _ _ _
        (map-id _ _ (stored_from_r r.train.div_nodes h.idx_join_new r.train_idx_moved s.div_idx_split)) λ x.
        cond_map (map_res S) x.met _ _ _ _ _ refl refl (block_stored_r s x))))

    pub stored_trains_r : (s : Search) → stored_trains (r_round p q occ' r) (r_here p h) (S s) ≡ map_res S (stored_trains r h s)
    unfolding stored_trains
    stored_trains_r s =
        bind-map (r_div q) S (before r.train.div_nodes s.div_idx_split) _ _ _ (before-map (r_div q) r.train.div_nodes s.div_idx_split) λ d.
        bind-map S S (cond (eqb d.disp_node_idx h.idx_join_new) (take_stored r h s) (ok s)) _ _ _
        (cond_map (map_res S) (eqb d.disp_node_idx h.idx_join_new) _ (take_stored r h s) (ok s) _ _ refl (take_stored_r s) refl) λ t.
        bind-map (r_div q) S (before r.train.div_nodes t.div_idx_split) _ _ _ (before-map (r_div q) r.train.div_nodes t.div_idx_split) λ b.
        need-map S (ltb b.disp_node_idx h.idx_join_new) _ _ _ refl refl

-- ---- the next est is occupied

pub occupied_next_r : (p q : ℕ → ℕ) (top : ℕ) (rq : Renumbering top q) (occ' : List ℕ) (r : Round) → Renumbering (length r.links_blocked - 1) p → OccupanciesMatch p q r.links_blocked occ'
    → (h : Here) (s : Search) → occupied_next (r_round p q occ' r) (r_here p h) (r_search p q s) ≡ map_res (r_search p q) (occupied_next r h s)
unfolding occupied_next
occupied_next_r p q top rq occ' r rp m h s =
    let l : LinkIdx = h.est_next.link_event.link_idx in
    cond_map (map_res (r_search p q)) (meets_train r.links_blocked h s) _ _ _ _ _
    (ap (λ t. not (blocked s.views h.est_curr.idx_next) && (leb s.disp_node_idx_free h.idx_join_new && (is_arrive h.est_next.link_event.est_type && t))) (occupied_r p q top rq r.links_blocked occ' rp m l))
    (ap (λ t. block_by (r_search p q s) h.est_curr.idx_next (t ∷ [])) (entry_r p q top rq r.links_blocked occ' rp m l)
    ∙ block_by_r p q s h.est_curr.idx_next (entry_at r.links_blocked l ∷ []))
    refl

-- ---- which move

module _ (top : ℕ) (p : ℕ → ℕ) (rp : Renumbering top p) where
  saved_matches_r : (path : List DispNode) (save : ℕ) (e : LinkEvent) → saved_matches (map (r_node p) path) save (r_event p e) ≡ saved_matches path save e
  saved_matches_r path save e = map-id _ _ (bind-map (r_node p) (λ x. x) (at path save) _ _ _ (at_map (r_node p) path save) λ n. ap ok (same_event_r top p rp e n.link_event))

  pub move_of_r : (q : ℕ → ℕ) (occ' : List ℕ) (r : Round) (h : Here) (s : Search) → move_of (r_round p q occ' r) (r_here p h) (r_search p q s) ≡ move_of r h s
  unfolding move_of
  move_of_r q occ' r h s =
      rw (on_path_r p r.train.disp_path h.est_curr.idx_next_alt, on_path_r p r.train.disp_path h.est_curr.idx_next, saved_matches_r r.train.disp_path s.idx_save h.est_next.link_event)
