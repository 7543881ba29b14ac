-- The class, the sentinels, the intersection, strays and errors go with a renumbering: p for links, q for trains. Assumes nothing.
use Rattle.std.proofs.Common.{◌≡◌, ℕ, ◌+◌, ◌-◌, ◌≤◌, Bool, true, false, cond, not, ◌&&◌, eqb, ltb, leb, List, [], ◌∷◌, map, length, get_or, drop, sym, refl, ap, ◌∙◌, subst, ap₂}
use lib.ListN.{length-map, get_or-map}
use Rattle.link_rules.specs.LinkIdx.{no_link, no_train, same_link, same_train, entry_at, occupied}
use Rattle.link_rules.specs.Renumbering.{Renumbering, r_link, r_train}
use Rattle.link_rules.specs.Matching.{OccupanciesMatch}
use Rattle.link_rules.specs.declared.link_idx.LinkIdx.{LinkIdx}
use Rattle.link_rules.specs.declared.link_idx.TrainIdx.{TrainIdx}
use Rattle.link_rules.proofs.RenumberingLaws.{same_link_r, same_train_r, entry_r, occupied_r}
use Rattle.disp_structs.specs.Values.{is_arrive, arriving}
use Rattle.disp_structs.specs.Renumbered.{r_est, r_node, r_div}
use Rattle.disp_structs.specs.declared.EstTime.{EstTime}
use Rattle.disp_structs.specs.declared.DispNode.{DispNode}
use Rattle.disp_structs.specs.declared.DivergeNode.{DivergeNode}
use Rattle.free_path.specs.Base.{Res, ok, no, at, last, part, passes, walk_from, count}
use Rattle.free_path.specs.LinkOptType.{links_on_path, contains, link_idx_path, class_more, class_walk, class_end, link_opt_type_of, after_sentinel, calc_idx_sentinels, stops, is_none, intersect, find_train_intersect, train_met, plainly}
use Rattle.free_path.specs.Validate.{known, is_stray, strays, bad_step, bad_steps, bad_path, in_conflict, steps_next, steps_alt, validate_free_path}
use Rattle.free_path.specs.AnyOrder.{Perm}
use Rattle.free_path.specs.Renumbered.{r_class}
use Rattle.free_path.specs.declared.link_opt_type.LinkOptType.{LinkOptType}
use Rattle.free_path.specs.declared.link_opt_type.LinkOptType.TheVariants.{None, Single, Range, Check}
use Rattle.free_path.proofs.MapLaws.{map_res, map-id, bind-map, bind_same, need-map, cond_map, at_map, last-map, drop-map, part-map, walk_from-map, passes-map, count_map, any-map}
use Rattle.free_path.proofs.ListLaws.{All}
use Rattle.free_path.proofs.PlainLaws.{Link32, same_index}
use Rattle.free_path.proofs.OrderLaws.{class_perm, known_perm}

-- ---- links

module _ (top : ℕ) (p : ℕ → ℕ) (rp : Renumbering top p) where
  pub no_link_r : r_link p no_link ≡ no_link
  no_link_r = ap (λ n. record { 0 = n }) rp.zero_stays

  pub arriving_r : (n : DispNode) → arriving (r_node p n) ≡ r_link p (arriving n)
  unfolding arriving
  arriving_r n = cond_map (r_link p) (is_arrive n.link_event.est_type) _ _ _ _ _ refl refl (sym no_link_r)

  pub link_idx_path_r : (path : List DispNode) → link_idx_path (map (r_node p) path) ≡ map (r_link p) (link_idx_path path)
  link_idx_path_r [] = refl
  link_idx_path_r (n ∷ ns) = ap₂ (λ x xs. x ∷ xs) (arriving_r n) (link_idx_path_r ns)

  pub links_on_path_r : (path : List DispNode) → links_on_path (map (r_node p) path) ≡ map (r_link p) (links_on_path path)
  unfolding links_on_path
  links_on_path_r [] = refl
  links_on_path_r (n ∷ ns) =
      cond_map (map (r_link p)) (is_arrive n.link_event.est_type) _ (n.link_event.link_idx ∷ links_on_path ns) (links_on_path ns) _ _ refl (ap (λ x. r_link p n.link_event.link_idx ∷ x) (links_on_path_r ns)) (links_on_path_r ns)

  pub contains_r : (ls : List LinkIdx) (l : LinkIdx) → contains (map (r_link p) ls) (r_link p l) ≡ contains ls l
  unfolding contains
  contains_r ls l = any-map (r_link p) (same_link l) (same_link (r_link p l)) (λ m. same_link_r top p rp l m) ls

  -- ---- the class: two that are alike before their end, whatever the bounds of a Range

  abbrev Alike : LinkOptType → LinkOptType → Type 0
  Alike None d = d ≡ None
  Alike (Single a) d = d ≡ Single (r_link p a)
  Alike (Range a b) d = (x : ℕ) × (y : ℕ) × (d ≡ Range x y)
  Alike Check d = d ≡ Check

  more_alike : (t : Bool) (c d : LinkOptType) (l : LinkIdx) → Alike c d → Alike (cond t (class_more c l) c) (cond t (class_more d (r_link p l)) d)
  more_alike false c d l h = h
  more_alike true None d l h = rw h refl
  more_alike true (Single a) d l h = rw h (_, _, refl)
  more_alike true (Range a b) d l h = rw h.2 (_, _, refl)
  more_alike true Check d l h = rw h refl

  module _ (on on' : LinkIdx → Bool) (o : (l : LinkIdx) → on' (r_link p l) ≡ on l) where
    walk_alike : (bs : List LinkIdx) (c d : LinkOptType) → Alike c d → Alike (class_walk bs on c) (class_walk (map (r_link p) bs) on' d)
    unfolding class_walk
    walk_alike [] c d h = h
    walk_alike (b ∷ bs) c d h =
        walk_alike bs (cond (on b) (class_more c b) c) (cond (on' (r_link p b)) (class_more d (r_link p b)) d)
        (subst (λ (t : Bool). Alike (cond (on b) (class_more c b) c) (cond t (class_more d (r_link p b)) d)) (sym (o b)) (more_alike (on b) c d b h))

    end_alike : (c d : LinkOptType) → Alike c d → plainly (class_end d) ≡ r_class p (plainly (class_end c))
    end_alike None d h = rw h
    end_alike (Single a) d h = rw h
    end_alike (Range a b) d h = rw h.2 (go (leb (h.1 - h.0) 16) (leb (b - a) 16))
      where
        go : (t u : Bool) → plainly (cond t (Range h.0 (h.1 - h.0)) Check) ≡ r_class p (plainly (cond u (Range a (b - a)) Check))
        go true true = refl
        go true false = refl
        go false true = refl
        go false false = refl
    end_alike Check d h = rw h

    same_class : (bs : List LinkIdx) → plainly (link_opt_type_of (map (r_link p) bs) on') ≡ r_class p (plainly (link_opt_type_of bs on))
    unfolding link_opt_type_of
    same_class bs = end_alike (class_walk bs on None) (class_walk (map (r_link p) bs) on' None) (walk_alike bs None None refl)

    -- the renumbered blocking list in any order, repeats kept
    pub class_r : (bs bs' : List LinkIdx) → Perm LinkIdx (map (r_link p) bs) bs' → plainly (link_opt_type_of bs' on') ≡ r_class p (plainly (link_opt_type_of bs on))
    class_r bs bs' h = sym (class_perm on' h) ∙ same_class bs

    pub known_r : (bs bs' : List LinkIdx) → Perm LinkIdx (map (r_link p) bs) bs' → (l : LinkIdx) → known bs' on' (r_link p l) ≡ known bs on l
    known_r bs bs' h l = ap (λ f. f (r_link p l)) (sym (known_perm on' h)) ∙ ap₂ (λ x y. x && y) (contains_r bs l) (o l)

-- ---- the errors of steps

module _ (p : ℕ → ℕ) where
  bad_steps_r : (est : List EstTime) (a : DispNode) (ns : List DispNode) → bad_steps (map (r_est p) est) (r_node p a) (map (r_node p) ns) ≡ map_res (λ x. x) (bad_steps est a ns)
  unfolding bad_steps bad_step steps_next steps_alt
  bad_steps_r est a [] = refl
  bad_steps_r est a (b ∷ ns) =
      bind-map (r_est p) (λ x. x) (at est a.est_idx.0) _ _ _ (at_map (r_est p) est a.est_idx.0) λ x.
      bind-map (r_est p) (λ x. x) (at est b.est_idx.0) _ _ _ (at_map (r_est p) est b.est_idx.0) λ y.
      bind_same (λ x. x) (bad_steps est b ns) _ _ _ (map-id _ _ (bad_steps_r est b ns)) (λ n. refl)

  bad_path_r : (est : List EstTime) (ns : List DispNode) → bad_path (map (r_est p) est) (map (r_node p) ns) ≡ bad_path est ns
  bad_path_r est [] = refl
  bad_path_r est (n ∷ ns) = map-id _ _ (bad_steps_r est n ns)

-- ---- over occupancies that match

module _ (p q : ℕ → ℕ) (top : ℕ) (rq : Renumbering top q) (occ occ' : List ℕ) (rp : Renumbering (length occ - 1) p) (m : OccupanciesMatch p q occ occ') where
  held_r : (l : LinkIdx) → occupied occ' (r_link p l) ≡ occupied occ l
  held_r l = occupied_r p q top rq occ occ' rp m l

  pub stops_r : (c : LinkOptType) (l : LinkIdx) → stops (r_class p (plainly c)) occ' (r_link p l) ≡ stops (plainly c) occ l
  stops_r None l = refl
  stops_r (Single a) l = same_link_r (length occ - 1) p rp l a
  stops_r (Range a b) l = held_r l
  stops_r Check l = held_r l

  pub intersect_r : (split sentinel : ℕ) (c : LinkOptType) (ls : List LinkIdx) → intersect split sentinel (r_class p (plainly c)) (map (r_link p) ls) occ' ≡ intersect split sentinel (plainly c) ls occ
  intersect_r split sentinel c ls =
      ap (λ x. split + passes (stops (r_class p (plainly c)) occ') x) (part-map (r_link p) split sentinel ls)
      ∙ ap (λ k. split + k) (passes-map (r_link p) (stops (plainly c) occ) (stops (r_class p (plainly c)) occ') (stops_r c) (part split sentinel ls))

  none_r : (c : LinkOptType) → is_none (r_class p (plainly c)) ≡ is_none (plainly c)
  none_r None = refl
  none_r (Single l) = refl
  none_r (Range a b) = refl
  none_r Check = refl

  pub find_train_intersect_r : (split sentinel : ℕ) (c : LinkOptType) (ls : List LinkIdx) → find_train_intersect split sentinel (r_class p (plainly c)) (map (r_link p) ls) occ' ≡ find_train_intersect split sentinel (plainly c) ls occ
  unfolding find_train_intersect
  find_train_intersect_r split sentinel c ls = rw (length-map ls (r_link p), none_r c, intersect_r split sentinel c ls)

  -- at the same index the renumbered train is met
  pub train_met_r : (sentinel : ℕ) (ls : List LinkIdx) (x : Res ℕ) → train_met sentinel (map (r_link p) ls) occ' x ≡ r_train q (train_met sentinel ls occ x)
  train_met_r sentinel ls (no n) = ap (λ (k : ℕ). record { 0 = k }) (sym rq.zero_stays)
  train_met_r sentinel ls (ok i) = cond_map (r_train q) (ltb i sentinel) _ (entry_at occ (get_or ls i no_link)) no_train _ _ refl there (ap (λ (k : ℕ). record { 0 = k }) (sym rq.zero_stays))
    where
      there : entry_at occ' (get_or (map (r_link p) ls) i no_link) ≡ r_train q (entry_at occ (get_or ls i no_link))
      there =
          ap (λ (l : LinkIdx). entry_at occ' (get_or (map (r_link p) ls) i l)) (sym (no_link_r (length occ - 1) p rp))
          ∙ ap (entry_at occ') (get_or-map (r_link p) ls i no_link)
          ∙ entry_r p q top rq occ occ' rp m (get_or ls i no_link)

  -- ---- strays and conflicts

  module _ (known known' : LinkIdx → Bool) (k : (l : LinkIdx) → known' (r_link p l) ≡ known l) where
    is_stray_r : (n : DispNode) → is_stray occ' known' (r_node p n) ≡ is_stray occ known n
    unfolding is_stray
    is_stray_r n = rw (held_r n.link_event.link_idx, k n.link_event.link_idx)

    pub strays_r : (free : ℕ) (path : List DispNode) → strays occ' known' free (map (r_node p) path) ≡ strays occ known free path
    unfolding strays
    strays_r free path = ap (count (is_stray occ' known')) (drop-map (r_node p) free path) ∙ count_map (r_node p) (is_stray occ known) (is_stray occ' known') is_stray_r (drop free path)

  in_conflict_r : (n : DispNode) → in_conflict occ' (r_node p n) ≡ in_conflict occ n
  unfolding in_conflict
  in_conflict_r n = rw (held_r n.link_event.link_idx)

  pub validate_free_path_r : (est : List EstTime) (free : ℕ) (path : List DispNode) → validate_free_path occ' (map (r_est p) est) free (map (r_node p) path) ≡ validate_free_path occ est free path
  unfolding validate_free_path
  validate_free_path_r est free path =
      map-id _ _
      (bind_same (λ x. x) (bad_path est path) _ _ _ (bad_path_r p est path) λ n.
      need-map (λ x. x) (leb free (length path)) _ _ _ (ap (leb free) (length-map path (r_node p)))
      (ap (λ k. ok (n + k)) (ap (count (in_conflict occ')) (drop-map (r_node p) free path) ∙ count_map (r_node p) (in_conflict occ) (in_conflict occ') in_conflict_r (drop free path))))

  -- ---- the first intersection does not see the numbering, where entry 0 is empty and there is no stray

  module _ (z : occupied occ no_link ≡ false) (bs bs' : List LinkIdx) (b : All Link32 bs) (b' : All Link32 bs') (h : Perm LinkIdx (map (r_link p) bs) bs')
      (on on' : LinkIdx → Bool) (o : (l : LinkIdx) → on' (r_link p l) ≡ on l) (free : ℕ) (path : List DispNode) (s : strays occ (known bs on) free path ≡ 0) where
    pub no-strays : strays occ' (known bs' on') free (map (r_node p) path) ≡ 0
    no-strays = strays_r (known bs on) (known bs' on') (known_r (length occ - 1) p rp on on' o bs bs' h) free path ∙ s

    pub empty_r : occupied occ' no_link ≡ false
    empty_r = ap (occupied occ') (sym (no_link_r (length occ - 1) p rp)) ∙ held_r no_link ∙ z

    pub numbering : (split sentinel : ℕ) → free ≤ split
        → intersect split sentinel (link_opt_type_of bs' on') (link_idx_path (map (r_node p) path)) occ' ≡ intersect split sentinel (link_opt_type_of bs on) (link_idx_path path) occ
    numbering split sentinel f =
        same_index bs' on' b' occ' empty_r free (map (r_node p) path) no-strays split sentinel f
        ∙ ap₂ (λ c ls. intersect split sentinel c ls occ') (class_r (length occ - 1) p rp on on' o bs bs' h) (link_idx_path_r (length occ - 1) p rp path)
        ∙ intersect_r split sentinel (link_opt_type_of bs on) (link_idx_path path)
        ∙ sym (same_index bs on b occ z free path s split sentinel f)

-- ---- the sentinels

module _ (top : ℕ) (q : ℕ → ℕ) (rq : Renumbering top q) where
  after_sentinel_r : (ds : List DivergeNode) (j n : ℕ) → after_sentinel (map (r_div q) ds) j n ≡ map_res (λ x. x) (after_sentinel ds j n)
  after_sentinel_r ds j n =
      cond_map (map_res (λ x. x)) (ltb j (length ds)) _ _ _ _ _ (ap (ltb j) (length-map ds (r_div q)))
      (bind_same (λ x. x) (walk_from (λ d. not (eqb d.disp_node_idx n)) ds j) _ _ _ (walk_from-map (r_div q) (λ d. not (eqb d.disp_node_idx n)) (λ d. not (eqb d.disp_node_idx n)) (λ d. refl) ds j) (λ k. refl))
      refl

  pub calc_idx_sentinels_r : (i : ℕ) (moved : TrainIdx) (ds : List DivergeNode) → calc_idx_sentinels i (r_train q moved) (map (r_div q) ds) ≡ calc_idx_sentinels i moved ds
  unfolding calc_idx_sentinels
  calc_idx_sentinels_r i moved ds =
      map-id _ _
      (need-map (λ x. x) (ltb i (length ds)) _ _ _ (ap (ltb i) (length-map ds (r_div q)))
      (bind-map (r_div q) (λ x. x) (last ds) _ _ _ (last-map (r_div q) ds) λ z.
      need-map (λ x. x) (same_train z.train_idx moved) _ _ _ (same_train_r top q rq z.train_idx moved)
      (bind_same (λ x. x) (walk_from (λ d. same_train d.train_idx moved) ds i) _ _ _
      (walk_from-map (r_div q) (λ d. same_train d.train_idx moved) (λ d. same_train d.train_idx (r_train q moved)) (λ d. same_train_r top q rq d.train_idx moved) ds i) λ j.
      bind-map (r_div q) (λ x. x) (at ds j) _ _ _ (at_map (r_div q) ds j) λ d.
      after_sentinel_r ds (j + 1) d.disp_node_idx)))
