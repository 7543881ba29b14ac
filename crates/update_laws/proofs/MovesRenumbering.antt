-- The moves of the search, all but the join, go with a renumbering. Assumes nothing.
use mathlib.Core.Path.{◌≡◌, refl, sym, ap, ap₂, ◌∙◌}
use mathlib.Core.Bool.{cond, not, ◌&&◌}
use mathlib.Core.List.{List, [], ◌∷◌, ◌++◌, map}
use Prim.Native.Nat.{ℕ, ◌+◌, ◌-◌}
use lib.Dec.{ltb, leb, eqb}
use lib.Ieee.{lt}
use lib.ListN.{length, take, drop, length-map}
use Rattle.link_rules.specs.LinkIdx.{no_link}
use Rattle.link_rules.specs.Renumbering.{Renumbering, r_train}
use Rattle.link_rules.specs.declared.link_idx.LinkIdx.{LinkIdx}
use Rattle.link_rules.specs.declared.link_idx.TrainIdx.{TrainIdx}
use Rattle.disp_structs.specs.Values.{same_est, no_est, same_event, plus, near}
use Rattle.disp_structs.specs.Renumbered.{r_event, r_est, r_node, r_div}
use Rattle.disp_structs.specs.declared.EstType.TheVariants.{Fake}
use Rattle.disp_structs.specs.declared.LinkEvent.{LinkEvent}
use Rattle.disp_structs.specs.declared.EstTime.{EstTime}
use Rattle.disp_structs.specs.declared.DispNode.{DispNode}
use Rattle.disp_structs.specs.declared.DivergeNode.{DivergeNode}
use Rattle.disp_structs.specs.declared.TrainIdxsView.{TrainIdxsView}
use Rattle.free_path.specs.Base.{ok, at, is_empty, walk_from, walk_back}
use Rattle.free_path.specs.TrainIdxsView.{Pooled}
use Rattle.free_path.specs.Renumbered.{r_pooled}
use Rattle.free_path.proofs.PathRenumbering.{no_link_r}
use Rattle.free_path.proofs.PoolRenumbering.{concat_train_idx_views_r}
use Rattle.free_path.proofs.MapLaws.{map_res, map-id, bind-map, bind_same, need-map, room-map, cond_map, at_map, take-map, drop-map, append-map, popped-map, is_empty-map, slice-map, walk_from-map, walk_back-map}
use Rattle.update_definition.specs.State.{Round, Search, Turn, go_on, ends, again, set_save, set_new, set_divs_new, set_pool, set_view, view_of, push_node, push_divs, diverging, with_free, with_div_nodes}
use Rattle.update_definition.specs.Look.{Here}
use Rattle.update_definition.specs.Moves.{not_fake, trains_of, shift_save, shifts, rewind_view, first_train, holder_of, rewind_divs, give_up, one_back, rewind, alternate, change_diverge, saved_node, push_saved, block_empty, advance_node, advance}
use Rattle.update_laws.proofs.StateRenumbering.{r_round, r_search, r_here, r_turn, same_event_r, no_train_r, push_node_r, push_divs_r, diverging_r}

-- three parts of a list
pub parts_map : {A B : Type 0} (f : A → B) (xs ys zs : List A) (xs' ys' zs' : List B) → xs' ≡ map f xs → ys' ≡ map f ys → zs' ≡ map f zs → xs' ++ ys' ++ zs' ≡ map f (xs ++ ys ++ zs)
parts_map f xs ys zs xs' ys' zs' a b c = rw (a, b, c) (ap (λ l. l ++ map f zs) (append-map f xs ys) ∙ append-map f (xs ++ ys) zs)

trains_of_r : (q : ℕ → ℕ) (pool : List TrainIdx) (v : TrainIdxsView) → trains_of (map (r_train q) pool) v ≡ map_res (map (r_train q)) (trains_of pool v)
trains_of_r q pool v = slice-map (r_train q) pool v.idx_begin v.idx_end

rewind_divs_r : (q : ℕ → ℕ) (join : ℕ) (divs : List DivergeNode) → rewind_divs join (map (r_div q) divs) ≡ map_res (map (r_div q)) (rewind_divs join divs)
unfolding rewind_divs
rewind_divs_r q join divs =
    bind_same (map (r_div q)) (walk_back (λ d. not (eqb d.disp_node_idx join)) divs (length divs)) _ _ _
    (ap (walk_back (λ d. not (eqb d.disp_node_idx join)) (map (r_div q) divs)) (length-map divs (r_div q))
    ∙ walk_back-map (r_div q) (λ d. not (eqb d.disp_node_idx join)) (λ d. not (eqb d.disp_node_idx join)) (λ d. refl) divs (length divs)) λ k.
    bind-map (r_div q) (map (r_div q)) (at divs k) _ _ _ (at_map (r_div q) divs k) λ d.
    need-map (map (r_div q)) (ltb d.disp_node_idx join) _ _ _ refl
    (ap ok (take-map (r_div q) (k + 1) divs))

module _ (top : ℕ) (p : ℕ → ℕ) (rp : Renumbering top p) where
  shift_save_r : (path : List DispNode) (fixed : ℕ) (e : LinkEvent) (save : ℕ) → shift_save (map (r_node p) path) fixed (r_event p e) save ≡ map_res (λ x. x) (shift_save path fixed e save)
  unfolding shift_save
  shift_save_r path fixed e save =
      bind_same (λ x. x) (walk_back not_fake path save) _ _ _ (walk_back-map (r_node p) not_fake not_fake (λ n. refl) path save) λ k.
      need-map (λ x. x) (ltb k fixed) _ _ _ refl
      (bind-map (r_node p) (λ x. x) (at path k) _ _ _ (at_map (r_node p) path k) λ n.
      need-map (λ x. x) (same_event e n.link_event) _ _ _ (same_event_r top p rp e n.link_event) refl)

  module _ (top_t : ℕ) (q : ℕ → ℕ) (rq : Renumbering top_t q) (occ' : List ℕ) (r : Round) (h : Here) where
    abbrev R : Round
    R = r_round p q occ' r

    abbrev H : Here
    H = r_here p h

    abbrev S : Search → Search
    S = r_search p q

    abbrev T : Turn → Turn
    T = r_turn p q

    abbrev N : DispNode → DispNode
    N = r_node p

    abbrev D : DivergeNode → DivergeNode
    D = r_div q

    -- ---- Rewind

    rewind_view_r : (e : EstTime) (views : List TrainIdxsView) (pool : List TrainIdx) → rewind_view (r_est p e) views (map (r_train q) pool) ≡ map_res (r_pooled q) (rewind_view e views pool)
    rewind_view_r e views pool =
        cond_map (map_res (r_pooled q)) (same_est e.idx_next_alt no_est) _ _ _ _ _ refl refl
        (concat_train_idx_views_r top_t q rq pool (view_of views e.idx_next) (view_of views e.idx_next_alt))

    first_train_r : (ts : List TrainIdx) → first_train (map (r_train q) ts) ≡ r_train q (first_train ts)
    first_train_r [] = sym (no_train_r top_t q rq)
    first_train_r (t ∷ ts) = refl

    holder_of_r : (x : Pooled) → holder_of (r_pooled q x) ≡ r_train q (holder_of x)
    holder_of_r x =
        let b = x.made.idx_begin in
        let k = x.made.idx_end - b in
        ap (λ ts. first_train (take k ts)) (drop-map (r_train q) b x.pool) ∙ ap first_train (take-map (r_train q) k (drop b x.pool)) ∙ first_train_r (take k (drop b x.pool))

    give_up_r : (b : TrainIdx) (s : Search) → give_up R H (r_train q b) (S s) ≡ map_res T (give_up r h b s)
    give_up_r b s =
        need-map T (eqb (length s.div_nodes_new) 1) _ _ _ (ap (λ n. eqb n 1) (length-map s.div_nodes_new D))
        (need-map T (eqb h.idx_join_new s.idx_split) _ _ _ refl refl)

    one_back_r : (b : TrainIdx) (s : Search) → one_back R H (r_train q b) (S s) ≡ map_res T (one_back r h b s)
    unfolding one_back
    one_back_r b s =
        cond_map (map_res T) (not (is_empty s.disp_path_new)) _ _ _ _ _ (ap not (is_empty-map N s.disp_path_new))
        (ap (λ x. ok (go_on (set_new (S s) x))) (popped-map N s.disp_path_new))
        (cond_map (map_res T) (lt r.offset_cancel.0 h.disp_node_curr.offset.0 && ltb 1 s.idx_split) _ _ _ _ _ refl refl (give_up_r b s))

    pub rewind_r : (s : Search) → rewind R H (S s) ≡ map_res T (rewind r h s)
    unfolding rewind
    rewind_r s =
        bind_same T (cond (shifts h s) (shift_save r.train.disp_path r.train.disp_node_idx_fixed h.disp_node_curr.link_event s.idx_save) (ok s.idx_save)) _ _ _
        (ap (λ x. cond (shifts h s) x (ok s.idx_save)) (map-id _ _ (shift_save_r r.train.disp_path r.train.disp_node_idx_fixed h.disp_node_curr.link_event s.idx_save))) λ save.
        bind-map (r_pooled q) T (rewind_view h.est_curr s.views s.train_idxs_blocking) _ _ _ (rewind_view_r h.est_curr s.views s.train_idxs_blocking) λ x.
        bind-map (map D) T (rewind_divs h.idx_join_new s.div_nodes_new) _ _ _ (rewind_divs_r q h.idx_join_new s.div_nodes_new) λ divs.
        let u = set_divs_new (set_view (set_pool (set_save s save) x.pool) h.disp_node_curr.est_idx x.made) divs in
        ap (λ b. one_back R H b (S u)) (holder_of_r x) ∙ one_back_r (holder_of x) u

    -- ---- Alternate

    abbrev fake_at : LinkIdx → DispNode
    fake_at l =
        record {
          offset = h.disp_node_curr.offset;
          time_pass = h.disp_node_curr.time_pass;
          link_event = record { link_idx = l; est_type = Fake };
          est_idx = h.est_curr.idx_next_alt;
          disp_auth_idx_entry = 0;
        }

    pub alternate_r : (s : Search) → alternate R H (S s) ≡ map_res T (alternate r h s)
    unfolding alternate
    alternate_r s =
        bind-map (map (r_train q)) T (trains_of s.train_idxs_blocking (view_of s.views h.est_curr.idx_next)) _ _ _
        (trains_of_r q s.train_idxs_blocking (view_of s.views h.est_curr.idx_next)) λ ts.
        bind-map (map D) T (push_divs r.train.diverge_room s.div_nodes_new (diverging h.idx_join_new ts)) _ _ _
        (ap (push_divs r.train.diverge_room (map D s.div_nodes_new)) (diverging_r q h.idx_join_new ts) ∙ push_divs_r q r.train.diverge_room s.div_nodes_new (diverging h.idx_join_new ts)) λ divs.
        bind-map (map N) T (push_node s.disp_path_new (fake_at no_link)) _ _ _
        (ap (λ l. push_node (map N s.disp_path_new) (fake_at l)) (sym (no_link_r top p rp)) ∙ push_node_r p s.disp_path_new (fake_at no_link)) λ new.
        refl

    -- ---- ChangeDiverge

    pub change_diverge_r : (s : Search) → change_diverge R H (S s) ≡ map_res T (change_diverge r h s)
    unfolding change_diverge
    change_diverge_r s =
        need-map T (is_empty s.disp_path_new) _ _ _ (is_empty-map N s.disp_path_new)
        (need-map T (eqb (length s.div_nodes_new) 1) _ _ _ (ap (λ n. eqb n 1) (length-map s.div_nodes_new D))
        (need-map T (eqb h.idx_join_new s.idx_split) _ _ _ refl
        (bind-map N T (at r.train.disp_path s.idx_split) _ _ _ (at_map N r.train.disp_path s.idx_split) λ n.
        need-map T (same_est h.est_curr.idx_next_alt n.est_idx) _ _ _ refl
        (bind-map D T (at r.train.div_nodes s.div_idx_split) _ _ _ (at_map D r.train.div_nodes s.div_idx_split) λ d.
        need-map T (eqb s.idx_split d.disp_node_idx) _ _ _ refl
        (bind_same T (walk_from (λ x. not (eqb x.disp_node_idx s.idx_split)) r.train.div_nodes (s.div_idx_split + 1)) _ _ _
        (walk_from-map D (λ x. not (eqb x.disp_node_idx s.idx_split)) (λ x. not (eqb x.disp_node_idx s.idx_split)) (λ x. refl) r.train.div_nodes (s.div_idx_split + 1)) λ k.
        bind-map (map (r_train q)) T (trains_of s.train_idxs_blocking (view_of s.views h.est_curr.idx_next)) _ _ _
        (trains_of_r q s.train_idxs_blocking (view_of s.views h.est_curr.idx_next)) λ ts.
        let ds = take s.div_idx_split r.train.div_nodes ++ diverging s.idx_split ts ++ drop k r.train.div_nodes in
        let e =
        parts_map D (take s.div_idx_split r.train.div_nodes) (diverging s.idx_split ts) (drop k r.train.div_nodes) _ _ _
        (take-map D s.div_idx_split r.train.div_nodes) (diverging_r q s.idx_split ts) (drop-map D k r.train.div_nodes) in
        room-map T (leb (length ds) r.train.diverge_room) _ _ _ (ap (λ x. leb (length x) r.train.diverge_room) e ∙ ap (λ n. leb n r.train.diverge_room) (length-map ds D))
        (ap₂ (λ x n. ok (ends (again (with_free (with_div_nodes R.train x) r.train.disp_node_idx_fixed) s.idx_split (s.div_idx_split + n)))) e (length-map ts (r_train q))))))))

    -- ---- PushSaved, BlockEmpty, Advance

    pub push_saved_r : (s : Search) → push_saved R H (S s) ≡ map_res T (push_saved r h s)
    unfolding push_saved
    push_saved_r s =
        bind-map N T (at r.train.disp_path s.idx_save) _ _ _ (at_map N r.train.disp_path s.idx_save) λ n.
        need-map T (near n.offset (plus h.disp_node_curr.offset h.est_curr.dist_to_next)) _ _ _ refl
        (bind-map (map N) T (push_node s.disp_path_new (saved_node n h.est_curr.idx_next)) _ _ _ (push_node_r p s.disp_path_new (saved_node n h.est_curr.idx_next)) λ new.
        bind_same T (walk_from not_fake r.train.disp_path (s.idx_save + 1)) _ _ _ (walk_from-map N not_fake not_fake (λ x. refl) r.train.disp_path (s.idx_save + 1)) λ k.
        refl)

    pub block_empty_r : (s : Search) → block_empty R H (S s) ≡ T (block_empty r h s)
    unfolding block_empty
    block_empty_r s = refl

    pub advance_r : (s : Search) → advance H (S s) ≡ map_res T (advance h s)
    unfolding advance
    advance_r s = bind-map (map N) T (push_node s.disp_path_new (advance_node h)) _ _ _ (push_node_r p s.disp_path_new (advance_node h)) (λ new. refl)
