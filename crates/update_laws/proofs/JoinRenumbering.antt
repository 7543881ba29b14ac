-- The join goes with a renumbering. Assumes nothing.
use mathlib.Core.Path.{◌≡◌, refl, ap, ap₂, ◌∙◌}
use mathlib.Core.Bool.{cond, not, ◌||◌}
use mathlib.Core.List.{List, [], ◌∷◌, ◌++◌, map}
use Prim.Native.Nat.{ℕ, ◌+◌, ◌-◌}
use lib.Dec.{ltb, leb, eqb}
use lib.ListN.{length, take, drop, length-map}
use Rattle.link_rules.specs.LinkIdx.{same_link}
use Rattle.link_rules.specs.Renumbering.{Renumbering, r_link}
use Rattle.link_rules.specs.declared.link_idx.LinkIdx.{LinkIdx}
use Rattle.link_rules.proofs.RenumberingLaws.{same_link_r}
use Rattle.disp_structs.specs.Values.{same_est, same_event, plus, zero_metres, is_zero, is_never, within, near}
use Rattle.disp_structs.specs.Train.{Train}
use Rattle.disp_structs.specs.Renumbered.{r_event, r_node, r_div, r_train_disp}
use Rattle.disp_structs.specs.declared.Metres.{Metres}
use Rattle.disp_structs.specs.declared.DispNode.{DispNode}
use Rattle.disp_structs.specs.declared.DivergeNode.{DivergeNode}
use Rattle.free_path.specs.Base.{ok, need, room, at, before, slice, walk_from}
use Rattle.free_path.specs.LinkOptType.{links_on_path, contains}
use Rattle.free_path.proofs.PathRenumbering.{contains_r, links_on_path_r}
use Rattle.free_path.proofs.MapLaws.{map_res, map-id, id-map, bind-map, bind_same, then_map, need-map, room-map, cond_map, at_map, before-map, take-map, drop-map, append-map, slice-map, walk_from-map}
use Rattle.update_definition.specs.State.{Round, Search, Turn, ends, again, with_div_nodes, with_path, with_fixed}
use Rattle.update_definition.specs.Look.{Here}
use Rattle.update_definition.specs.Join.{without, remove_links, insert_links, shift_offsets, match_at, move_ends, new_ends, move_front_back, update_free_path_helpers, Divs, shift_divs, update_div_nodes, free_is_correct, offset_change, splice_at, join}
use Rattle.update_laws.proofs.StateRenumbering.{r_round, r_search, r_here, r_turn, same_event_r}
use Rattle.update_laws.proofs.MovesRenumbering.{parts_map}

-- ---- offsets, diverge nodes and free see no number

shift_offsets_r : (p : ℕ → ℕ) (d : Metres) (ns : List DispNode) → shift_offsets d (map (r_node p) ns) ≡ map_res (map (r_node p)) (shift_offsets d ns)
unfolding shift_offsets
shift_offsets_r p d [] = refl
shift_offsets_r p d (n ∷ ns) =
    bind_same (map (r_node p)) (room (within (plus n.offset d))) _ _ _ refl (λ _. bind-map (map (r_node p)) (map (r_node p)) (shift_offsets d ns) _ _ _ (shift_offsets_r p d ns) (λ ms. refl))

free_is_correct_r : (p : ℕ → ℕ) (path : List DispNode) (free : ℕ) → free_is_correct (map (r_node p) path) free ≡ free_is_correct path free
unfolding free_is_correct
free_is_correct_r p path free =
    map-id _ _
    (bind-map (r_node p) (λ x. x) (at path free) _ _ _ (at_map (r_node p) path free) λ n.
    need-map (λ x. x) (is_never n.time_pass) _ _ _ refl
    (cond_map (map_res (λ x. x)) (eqb free 0) _ _ _ _ _ refl refl
    (bind-map (r_node p) (λ x. x) (before path free) _ _ _ (before-map (r_node p) path free) λ m. id-map (need (is_zero m.offset || not (is_never m.time_pass))) _ refl)))

module _ (q : ℕ → ℕ) where
  abbrev pub r_divs : Divs → Divs
  r_divs x = record { div_nodes = map (r_div q) x.div_nodes; div_idx_split = x.div_idx_split }

  shift_divs_r : (join base : ℕ) (ds : List DivergeNode) → shift_divs join base (map (r_div q) ds) ≡ map_res (map (r_div q)) (shift_divs join base ds)
  unfolding shift_divs
  shift_divs_r join base [] = refl
  shift_divs_r join base (d ∷ ds) =
      bind_same (map (r_div q)) (need (leb base (d.disp_node_idx + join))) _ _ _ refl (λ _. bind-map (map (r_div q)) (map (r_div q)) (shift_divs join base ds) _ _ _ (shift_divs_r join base ds) (λ es. refl))

  update_div_nodes_r : (k : ℕ) (ds new : List DivergeNode) (split base join : ℕ)
      → update_div_nodes k (map (r_div q) ds) (map (r_div q) new) split base join ≡ map_res r_divs (update_div_nodes k ds new split base join)
  unfolding update_div_nodes
  update_div_nodes_r k ds new split base join =
      bind_same r_divs (walk_from (λ d. ltb base d.disp_node_idx) ds split) _ _ _
      (walk_from-map (r_div q) (λ d. ltb base d.disp_node_idx) (λ d. ltb base d.disp_node_idx) (λ d. refl) ds split) λ i.
      bind-map (map (r_div q)) r_divs (cond (eqb base join) (ok (drop i ds)) (shift_divs join base (drop i ds))) _ _ _
      (cond_map (map_res (map (r_div q))) (eqb base join) _ (ok (drop i ds)) (shift_divs join base (drop i ds)) _ _ refl
      (ap ok (drop-map (r_div q) i ds))
      (ap (shift_divs join base) (drop-map (r_div q) i ds) ∙ shift_divs_r join base (drop i ds))) λ rest.
      let xs = take split ds ++ drop 1 new ++ rest in
      let e = parts_map (r_div q) (take split ds) (drop 1 new) rest _ _ _ (take-map (r_div q) split ds) (drop-map (r_div q) 1 new) refl in
      need-map r_divs (leb 1 (length new)) _ _ _ (ap (leb 1) (length-map new (r_div q)))
      (room-map r_divs (leb (length xs) k) _ _ _ (ap (λ x. leb (length x) k) e ∙ ap (λ n. leb n k) (length-map xs (r_div q)))
      (ap₂ (λ x n. ok (record { div_nodes = x; div_idx_split = split + n - 1 })) e (length-map new (r_div q))))

module _ (top : ℕ) (p : ℕ → ℕ) (rp : Renumbering top p) where
  abbrev L : LinkIdx → LinkIdx
  L = r_link p

  abbrev N : DispNode → DispNode
  N = r_node p

  -- ---- links_on_path

  without_r : (ls : List LinkIdx) (l : LinkIdx) → without (map L ls) (L l) ≡ map L (without ls l)
  unfolding without
  without_r [] l = refl
  without_r (x ∷ xs) l = cond_map (map L) (same_link l x) _ (without xs l) (x ∷ without xs l) _ _ (same_link_r top p rp l x) (without_r xs l) (ap (λ ls. L x ∷ ls) (without_r xs l))

  remove_links_r : (ls on : List LinkIdx) → remove_links (map L ls) (map L on) ≡ map_res (map L) (remove_links ls on)
  unfolding remove_links
  remove_links_r [] on = refl
  remove_links_r (l ∷ ls) on = bind_same (map L) (need (contains on l)) _ _ _ (ap need (contains_r top p rp on l)) (λ _. ap (remove_links (map L ls)) (without_r on l) ∙ remove_links_r ls (without on l))

  insert_links_r : (ls on : List LinkIdx) → insert_links (map L ls) (map L on) ≡ map_res (map L) (insert_links ls on)
  unfolding insert_links
  insert_links_r [] on = refl
  insert_links_r (l ∷ ls) on = bind_same (map L) (need (not (contains on l))) _ _ _ (ap (λ b. need (not b)) (contains_r top p rp on l)) (λ _. insert_links_r ls (l ∷ on))

  -- ---- front and back

  match_at_r : (path new : List DispNode) (from i : ℕ) → match_at (map N path) (map N new) from i ≡ match_at path new from i
  match_at_r path new from i =
      map-id _ _
      (bind-map N (λ x. x) (at path i) _ _ _ (at_map N path i) λ n.
      id-map _ _ (walk_from-map N (λ x. same_event x.link_event n.link_event) (λ x. same_event x.link_event (r_event p n.link_event)) (λ x. same_event_r top p rp x.link_event n.link_event) new from))

  move_ends_r : (path new : List DispNode) (split low high : ℕ) → move_ends (map N path) (map N new) split low high ≡ move_ends path new split low high
  unfolding move_ends
  move_ends_r path new split low high =
      map-id _ _
      (bind_same (λ x. x) (cond (leb split low) (match_at path new 0 low) (ok 0)) _ _ _ (ap (λ x. cond (leb split low) x (ok 0)) (match_at_r path new 0 low)) λ i.
      bind_same (λ x. x) (match_at path new i high) _ _ _ (match_at_r path new i high) λ j.
      refl)

  new_ends_r : (path new : List DispNode) (split base low high : ℕ) → new_ends (map N path) (map N new) split base low high ≡ new_ends path new split base low high
  unfolding new_ends
  new_ends_r path new split base low high = rw (move_ends_r path new split low high)

  module _ (q : ℕ → ℕ) where
    abbrev W : Train → Train
    W = r_train_disp p q

    move_front_back_r : (t : Train) (new : List DispNode) (split base : ℕ) → move_front_back (W t) (map N new) split base ≡ map_res W (move_front_back t new split base)
    move_front_back_r t new split base =
        cond_map (map_res W) (ltb t.disp_node_idx_back t.disp_node_idx_front) _ _ _ _ _ refl
        (bind_same W (new_ends t.disp_path new split base t.disp_node_idx_back t.disp_node_idx_front) _ _ _ (new_ends_r t.disp_path new split base t.disp_node_idx_back t.disp_node_idx_front) (λ x. refl))
        (bind_same W (new_ends t.disp_path new split base t.disp_node_idx_front t.disp_node_idx_back) _ _ _ (new_ends_r t.disp_path new split base t.disp_node_idx_front t.disp_node_idx_back) (λ x. refl))

    update_free_path_helpers_r : (t : Train) (new : List DispNode) (split base : ℕ) (change : Metres) → update_free_path_helpers (W t) (map N new) split base change ≡ map_res W (update_free_path_helpers t new split base change)
    unfolding update_free_path_helpers
    update_free_path_helpers_r t new split base change =
        let path : List DispNode = t.disp_path in
        bind-map (map N) W (slice path split base) _ _ _ (slice-map N path split base) λ old.
        bind-map (map L) W (remove_links (links_on_path old) (links_on_path path)) _ _ _ (ap₂ remove_links (links_on_path_r top p rp old) (links_on_path_r top p rp path) ∙ remove_links_r (links_on_path old) (links_on_path path)) λ on.
        bind-map (map L) W (insert_links (links_on_path new) on) _ _ _ (ap (λ x. insert_links x (map L on)) (links_on_path_r top p rp new) ∙ insert_links_r (links_on_path new) on) λ _.
        bind-map (map N) W (cond (near change zero_metres) (ok (drop base path)) (shift_offsets change (drop base path))) _ _ _
        (cond_map (map_res (map N)) (near change zero_metres) _ (ok (drop base path)) (shift_offsets change (drop base path)) _ _ refl
        (ap ok (drop-map N base path))
        (ap (shift_offsets change) (drop-map N base path) ∙ shift_offsets_r p change (drop base path))) λ rest.
        ap (λ x. move_front_back (with_path (W t) x) (map N new) split base) (ap (λ y. y ++ map N rest) (take-map N base path) ∙ append-map N (take base path) rest)
        ∙ move_front_back_r (with_path t (take base path ++ rest)) new split base

    -- ---- the join

    module _ (occ' : List ℕ) (r : Round) (h : Here) (s : Search) where
      abbrev T : Turn → Turn
      T = r_turn p q

      splice_at_r : (base : ℕ) → splice_at (r_round p q occ' r) (r_here p h) (r_search p q s) base ≡ map_res T (splice_at r h s base)
      unfolding splice_at
      splice_at_r base =
          bind-map N T (at r.train.disp_path base) _ _ _ (at_map N r.train.disp_path base) λ n.
          bind-map W T (update_free_path_helpers r.train s.disp_path_new s.idx_split base (offset_change h n)) _ _ _
          (update_free_path_helpers_r r.train s.disp_path_new s.idx_split base (offset_change h n)) λ t.
          bind-map (r_divs q) T (update_div_nodes t.diverge_room t.div_nodes s.div_nodes_new s.div_idx_split base h.idx_join_new) _ _ _
          (update_div_nodes_r q t.diverge_room t.div_nodes s.div_nodes_new s.div_idx_split base h.idx_join_new) λ d.
          let path = take s.idx_split t.disp_path ++ s.disp_path_new ++ drop base t.disp_path in
          let e = parts_map N (take s.idx_split t.disp_path) s.disp_path_new (drop base t.disp_path) _ _ _ (take-map N s.idx_split t.disp_path) refl (drop-map N base t.disp_path) in
          then_map T (free_is_correct path s.disp_node_idx_free) _ _ _ (ap (λ x. free_is_correct x s.disp_node_idx_free) e ∙ free_is_correct_r p path s.disp_node_idx_free)
          (ap (λ x. ok (ends (again (with_fixed (with_path (with_div_nodes (W t) (map (r_div q) d.div_nodes)) x) s.disp_node_idx_free) h.idx_join_new d.div_idx_split))) e)

      pub join_r : join (r_round p q occ' r) (r_here p h) (r_search p q s) ≡ map_res T (join r h s)
      unfolding join
      join_r =
          bind_same T (walk_from (λ n. same_est h.est_curr.idx_next n.est_idx) r.train.disp_path r.idx_split_save) _ _ _
          (walk_from-map N (λ n. same_est h.est_curr.idx_next n.est_idx) (λ n. same_est h.est_curr.idx_next n.est_idx) (λ n. refl) r.train.disp_path r.idx_split_save) λ base.
          splice_at_r base
