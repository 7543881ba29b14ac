-- The search and a round of a plain class go with a renumbering. Assumes nothing.
use mathlib.Core.Path.{◌≡◌, refl, sym, ap, ap₂, ◌∙◌}
use mathlib.Core.Bool.{Bool, cond, not}
use mathlib.Core.List.{List, [], ◌∷◌, map}
use Prim.Native.Nat.{ℕ, zero, suc, ◌+◌, ◌*◌, ◌-◌}
use lib.Dec.{ltb, leb, eqb}
use lib.ListN.{length, replicate, length-map}
use Rattle.link_rules.specs.Renumbering.{Renumbering, r_link, r_train}
use Rattle.link_rules.specs.Matching.{OccupanciesMatch}
use Rattle.link_rules.specs.declared.link_idx.LinkIdx.{LinkIdx}
use Rattle.link_rules.specs.declared.link_idx.TrainIdx.{TrainIdx}
use Rattle.disp_structs.specs.Values.{view}
use Rattle.disp_structs.specs.Train.{Train}
use Rattle.disp_structs.specs.Renumbered.{r_est, r_node, r_div, r_train_disp}
use Rattle.disp_structs.specs.declared.Metres.{Metres}
use Rattle.disp_structs.specs.declared.DispNode.{DispNode}
use Rattle.disp_structs.specs.declared.DivergeNode.{DivergeNode}
use Rattle.free_path.specs.Base.{Res, ok, no, ◌>>=◌, need, at, before}
use Rattle.free_path.specs.LinkOptType.{links_on_path, contains, link_idx_path, Sentinels, calc_idx_sentinels, plainly, train_met}
use Rattle.free_path.specs.declared.link_opt_type.LinkOptType.{LinkOptType}
use Rattle.free_path.specs.declared.link_opt_type.LinkOptType.TheVariants.{None, Single, Range, Check}
use Rattle.free_path.specs.Renumbered.{r_class}
use Rattle.free_path.proofs.PathRenumbering.{contains_r, links_on_path_r, link_idx_path_r, find_train_intersect_r, train_met_r, calc_idx_sentinels_r}
use Rattle.free_path.proofs.MapLaws.{map_res, map-id, id-map, bind-map, bind_same, need-map, cond_map, at_map, before-map, walk_from-map}
use Rattle.update_definition.specs.State.{Round, Search, Turn, go_on, ends, Ended}
use Rattle.update_definition.specs.Look.{Here, look_here, stored_trains, occupied_next, move_of}
use Rattle.update_definition.specs.Moves.{not_fake}
use Rattle.update_definition.specs.Update.{do_move, search_step, search_from, steps_after, steps_from, turn_limit, Given, apart, search_begin, meeting, split_point, met_before, round_met, at_sentinel, div_point, save_point, search_at, round_at, Entry, path_ends, searches, begin_at, begin_of, end_from, round_of, steps_in, round_steps}
use Rattle.update_definition.specs.declared.Move.{Move}
use Rattle.update_definition.specs.declared.Move.TheVariants.{Rewind, Alternate, ChangeDiverge, PushSaved, BlockEmpty, Advance, Join}
use Rattle.update_laws.proofs.StateRenumbering.{r_round, r_search, r_here, r_ended, r_turn, no_train_r}
use Rattle.update_laws.proofs.LookRenumbering.{look_here_r, stored_trains_r, occupied_next_r, move_of_r}
use Rattle.update_laws.proofs.MovesRenumbering.{rewind_r, alternate_r, change_diverge_r, push_saved_r, block_empty_r, advance_r}
use Rattle.update_laws.proofs.JoinRenumbering.{join_r}

-- ---- the search

module _ (p q : ℕ → ℕ) (top_t : ℕ) (rq : Renumbering top_t q) (occ' : List ℕ) (r : Round) (rp : Renumbering (length r.links_blocked - 1) p) (m : OccupanciesMatch p q r.links_blocked occ') where
  abbrev top : ℕ
  top = length r.links_blocked - 1

  abbrev R : Round
  R = r_round p q occ' r

  do_move_r : (k : Move) (h : Here) (s : Search) → do_move k R (r_here p h) (r_search p q s) ≡ map_res (r_turn p q) (do_move k r h s)
  do_move_r Rewind h s = rewind_r top p rp top_t q rq occ' r h s
  do_move_r Alternate h s = alternate_r top p rp top_t q rq occ' r h s
  do_move_r ChangeDiverge h s = change_diverge_r top p rp top_t q rq occ' r h s
  do_move_r PushSaved h s = push_saved_r top p rp top_t q rq occ' r h s
  do_move_r BlockEmpty h s = ap ok (block_empty_r top p rp top_t q rq occ' r h s)
  do_move_r Advance h s = advance_r top p rp top_t q rq occ' r h s
  do_move_r Join h s = join_r top p rp q occ' r h s

  pub search_step_r : (s : Search) → search_step R (r_search p q s) ≡ map_res (r_turn p q) (search_step r s)
  unfolding search_step
  search_step_r s =
      bind-map (r_here p) (r_turn p q) (look_here r s) _ _ _ (look_here_r p q occ' r s) λ h.
      bind-map (r_search p q) (r_turn p q) (stored_trains r h s) _ _ _ (stored_trains_r top_t q rq p occ' r h s) λ t.
      bind-map (r_search p q) (r_turn p q) (occupied_next r h t) _ _ _ (occupied_next_r p q top_t rq occ' r rp m h t) λ u.
      bind_same (r_turn p q) (move_of r h u) _ _ _ (move_of_r top p rp q occ' r h u) λ k.
      do_move_r k h u

  pub search_from_r : (k : ℕ) (s : Search) → search_from k R (r_search p q s) ≡ map_res (r_ended p q) (search_from k r s)
  unfolding search_from
  search_from_r zero s = refl
  search_from_r (suc k) s = bind-map (r_turn p q) (r_ended p q) (search_step r s) _ _ _ (search_step_r s) (λ t. go t (search_from_r k))
    where
      go : (t : Turn) → ((u : Search) → search_from k R (r_search p q u) ≡ map_res (r_ended p q) (search_from k r u))
          → (elim (r_turn p q t) [ go_on u ↦ search_from k R u | ends e ↦ ok e ]) ≡ map_res (r_ended p q) (elim t [ go_on u ↦ search_from k r u | ends e ↦ ok e ])
      go (go_on u) ih = ih u
      go (ends e) ih = refl

  -- and it is entered as often
  steps_from_r : (k : ℕ) (s : Search) → steps_from k R (r_search p q s) ≡ steps_from k r s
  unfolding steps_from
  steps_from_r zero s = refl
  steps_from_r (suc k) s = ap (λ (x : Res Turn). suc (steps_after (λ u. steps_from k R u) x)) (search_step_r s) ∙ ap suc (go (search_step r s) (steps_from_r k))
    where
      go : (x : Res Turn) → ((u : Search) → steps_from k R (r_search p q u) ≡ steps_from k r u) → steps_after (λ u. steps_from k R u) (map_res (r_turn p q) x) ≡ steps_after (λ u. steps_from k r u) x
      go (no n) ih = refl
      go (ok (go_on u)) ih = ih u
      go (ok (ends e)) ih = refl

-- ---- the points where a search begins

div_point_r : (q : ℕ → ℕ) (ds : List DivergeNode) (split k : ℕ) (z : Sentinels) → div_point (map (r_div q) ds) split k z ≡ div_point ds split k z
div_point_r q ds split k z = rw (sentinel, walk_from-map (r_div q) (λ d. ltb split d.disp_node_idx) (λ d. ltb split d.disp_node_idx) (λ d. refl) ds k)
  where
    sentinel : at_sentinel (map (r_div q) ds) split z.divs ≡ at_sentinel ds split z.divs
    sentinel = map-id _ _ (bind-map (r_div q) (λ x. x) (before ds z.divs) _ _ _ (before-map (r_div q) ds z.divs) λ d. id-map (need (eqb d.disp_node_idx split) >>= λ _. ok z.divs) _ refl)

save_point_r : (p : ℕ → ℕ) (path : List DispNode) (fixed split : ℕ) → save_point (map (r_node p) path) fixed split ≡ save_point path fixed split
save_point_r p path fixed split = rw (walk_from-map (r_node p) not_fake not_fake (λ n. refl) path split)

search_at_r : (p q : ℕ → ℕ) (top : ℕ) → Renumbering top q → (t : Train) (split div_split_of save : ℕ) → search_at (r_train_disp p q t) split div_split_of save ≡ r_search p q (search_at t split div_split_of save)
search_at_r p q top rq t split div_split_of save = ap₂ clean (length-map t.est_times (r_est p)) (sym (no_train_r top q rq))
  where
    clean : ℕ → TrainIdx → Search
    clean n x =
        record {
          idx_split = split;
          div_idx_split = div_split_of;
          idx_save = save;
          disp_node_idx_free = t.disp_node_idx_free;
          disp_path_new = [];
          div_nodes_new = record { train_idx = x; disp_node_idx = 0 } ∷ [];
          train_idxs_blocking = x ∷ [];
          views = replicate n (view 0 0);
        }

apart_r : (p : ℕ → ℕ) (c : LinkOptType) (on on' : LinkIdx → Bool) → ((l : LinkIdx) → on' (r_link p l) ≡ on l) → apart (r_class p c) on' ≡ apart c on
apart_r p None on on' h = refl
apart_r p (Single l) on on' h = ap not (h l)
apart_r p (Range a b) on on' h = refl
apart_r p Check on on' h = refl

pub on_path_links_r : (top : ℕ) (p : ℕ → ℕ) → Renumbering top p → (path : List DispNode) (l : LinkIdx) → contains (links_on_path (map (r_node p) path)) (r_link p l) ≡ contains (links_on_path path) l
on_path_links_r top p rp path l = ap (λ ls. contains ls (r_link p l)) (links_on_path_r top p rp path) ∙ contains_r top p rp (links_on_path path) l

-- ---- a round

-- the node at idx_split is renumbered
abbrev pub r_entry : (ℕ → ℕ) → Entry → Entry
r_entry p path_ends = path_ends
r_entry p (searches b) = searches (record { node = r_node p b.node; idx_split = b.idx_split; div_idx_split = b.div_idx_split; idx_save = b.idx_save })

-- what an update is given, with any class
abbrev pub given : LinkOptType → List ℕ → List LinkIdx → List LinkIdx → TrainIdx → Bool → Metres → Given
given c occ blocking on_start moved local lowest =
    record {
      links_blocked = occ;
      train_idx_moved = moved;
      is_local = local;
      link_opt_type = c;
      offset_lowest = lowest;
      link_idxs_blocking = blocking;
      links_at_start = on_start;
    }

module _ (p q : ℕ → ℕ) (top_t : ℕ) (rq : Renumbering top_t q) (occ occ' : List ℕ) (rp : Renumbering (length occ - 1) p) (m : OccupanciesMatch p q occ occ')
    (bs bs' ls ls' : List LinkIdx) (moved : TrainIdx) (local : Bool) (lowest : Metres) (c : LinkOptType) where
  abbrev g : Given
  g = given (plainly c) occ bs ls moved local lowest

  abbrev g' : Given
  g' = given (r_class p (plainly c)) occ' bs' ls' (r_train q moved) local lowest

  abbrev E : Ended → Ended
  E = r_ended p q

  module _ (t : Train) where
    abbrev path : List DispNode
    path = t.disp_path

    abbrev free : ℕ
    free = t.disp_node_idx_free

    meeting_r : (split sentinel : ℕ) → meeting (r_class p (plainly c)) occ' (link_idx_path (map (r_node p) path)) free split sentinel ≡ meeting (plainly c) occ (link_idx_path path) free split sentinel
    unfolding meeting
    meeting_r split sentinel =
        rw (
          link_idx_path_r (length occ - 1) p rp path,
          length-map (link_idx_path path) (r_link p),
          find_train_intersect_r p q top_t rq occ occ' rp m (search_begin split free sentinel) sentinel c (link_idx_path path),
        )

    split_point_r : (split sentinel : ℕ) → split_point g' (r_train_disp p q t) split sentinel ≡ split_point g t split sentinel
    unfolding split_point
    split_point_r split sentinel =
        ap₂ (λ v x. cond v (ok sentinel) x)
        (apart_r p (plainly c) (contains (links_on_path path)) (contains (links_on_path (map (r_node p) path))) (on_path_links_r (length occ - 1) p rp path))
        (meeting_r split sentinel)

    met_before_r : (split : ℕ) (x : Res Sentinels) → met_before g' (r_train_disp p q t) split x ≡ r_train q (met_before g t split x)
    met_before_r split (no n) = sym (no_train_r top_t q rq)
    met_before_r split (ok z) =
        ap₂ (λ ls x. train_met z.node ls occ' x) (link_idx_path_r (length occ - 1) p rp path) (split_point_r split z.node)
        ∙ train_met_r p q top_t rq occ occ' rp m z.node (link_idx_path path) (split_point g t split z.node)

    -- the train met is renumbered
    pub round_met_r : (split div_split_of : ℕ) → round_met g' (r_train_disp p q t) split div_split_of ≡ r_train q (round_met g t split div_split_of)
    unfolding round_met
    round_met_r split div_split_of = ap (met_before g' (r_train_disp p q t) split) (calc_idx_sentinels_r top_t q rq div_split_of moved t.div_nodes) ∙ met_before_r split (calc_idx_sentinels div_split_of moved t.div_nodes)

    begin_at_r : (split div_split_of : ℕ) (z : Sentinels) → begin_at (r_train_disp p q t) split div_split_of z ≡ map_res (r_entry p) (begin_at t split div_split_of z)
    unfolding begin_at
    begin_at_r split div_split_of z =
        bind-map (r_node p) (r_entry p) (at path split) _ _ _ (at_map (r_node p) path split) λ n.
        bind_same (r_entry p) (div_point t.div_nodes split div_split_of z) _ _ _ (div_point_r q t.div_nodes split div_split_of z) λ d.
        bind-map (r_div q) (r_entry p) (before t.div_nodes d) _ _ _ (before-map (r_div q) t.div_nodes d) λ a.
        need-map (r_entry p) (leb a.disp_node_idx split) _ _ _ refl
        (bind-map (r_div q) (r_entry p) (at t.div_nodes d) _ _ _ (at_map (r_div q) t.div_nodes d) λ b.
        need-map (r_entry p) (ltb split b.disp_node_idx) _ _ _ refl
        (bind_same (r_entry p) (save_point path t.disp_node_idx_fixed split) _ _ _ (save_point_r p path t.disp_node_idx_fixed split) λ save. refl))

    begin_of_r : (split div_split_of : ℕ) → begin_of g' (r_train_disp p q t) split div_split_of ≡ map_res (r_entry p) (begin_of g t split div_split_of)
    unfolding begin_of
    begin_of_r split div_split_of =
        bind_same (r_entry p) (calc_idx_sentinels div_split_of moved t.div_nodes) _ _ _ (calc_idx_sentinels_r top_t q rq div_split_of moved t.div_nodes) λ z.
        bind_same (r_entry p) (split_point g t split z.node) _ _ _ (split_point_r split z.node) λ i.
        cond_map (map_res (r_entry p)) (leb (length path) i) _ (ok path_ends) (begin_at t i div_split_of z) _ _ (ap (λ n. leb n i) (length-map path (r_node p))) refl (begin_at_r i div_split_of z)

    end_from_r : (x : Entry) → end_from g' (r_train_disp p q t) (r_entry p x) ≡ map_res E (end_from g t x)
    end_from_r path_ends = refl
    end_from_r (searches b) =
        let r = round_at g t b.node b.idx_split in
        ap₂ (λ k s. search_from (3 * k + 1) (r_round p q occ' r) s) (length-map t.est_times (r_est p)) (search_at_r p q top_t rq t b.idx_split b.div_idx_split b.idx_save)
        ∙ search_from_r p q top_t rq occ' r rp m (turn_limit t) (search_at t b.idx_split b.div_idx_split b.idx_save)

    steps_in_r : (x : Res Entry) → steps_in g' (r_train_disp p q t) (map_res (r_entry p) x) ≡ steps_in g t x
    steps_in_r (no n) = refl
    steps_in_r (ok path_ends) = refl
    steps_in_r (ok (searches b)) =
        let r = round_at g t b.node b.idx_split in
        ap₂ (λ k s. steps_from (3 * k + 1) (r_round p q occ' r) s) (length-map t.est_times (r_est p)) (search_at_r p q top_t rq t b.idx_split b.div_idx_split b.idx_save)
        ∙ steps_from_r p q top_t rq occ' r rp m (turn_limit t) (search_at t b.idx_split b.div_idx_split b.idx_save)

    pub round_steps_r : (split div_split_of : ℕ) → round_steps g' (r_train_disp p q t) split div_split_of ≡ round_steps g t split div_split_of
    unfolding round_steps
    round_steps_r split div_split_of = ap (steps_in g' (r_train_disp p q t)) (begin_of_r split div_split_of) ∙ steps_in_r (begin_of g t split div_split_of)

    pub round_of_r : (split div_split_of : ℕ) → round_of g' (r_train_disp p q t) split div_split_of ≡ map_res E (round_of g t split div_split_of)
    unfolding round_of
    round_of_r split div_split_of = bind-map (r_entry p) E (begin_of g t split div_split_of) _ _ _ (begin_of_r split div_split_of) end_from_r
