-- Demand 3's part for mark and release: over tables and occupancies that match, mark_of matches, refused calls included. Assumes nothing.
use Rattle.std.proofs.Common.{◌≡◌, ℕ, zero, suc, ◌+◌, ◌-◌, ◌<◌, ◌≤◌, Bool, true, false, cond, not, eqb, ltb, leb, List, [], ◌∷◌, map, length, get_or, set, sym, refl, ap, ◌∙◌, subst, arith, length-set, get_or-set_other, get_or-set_same, ltb-true, eqb-true, leb-true}
use lib.ListN.{length-map}
use borrow.Author.Tests.{eqb-false}
use Rattle.link_rules.specs.LinkIdx.{no_train, same_train, entry_at, occupied, hold}
use Rattle.link_rules.specs.Network.{Link, link_count, lockout_count, flip_at, start_at, count_at, lockout_at, lockouts, link_at, all_below, header_fits, record_fits, lockout_fits, table_fits}
use Rattle.link_rules.specs.AdvanceRewind.{hold_all, refilled, reset_link_train_idx, reset_all, update_links_blocked, is_link, mark_refusal, marked_by, mark_of}
use Rattle.link_rules.specs.Renumbering.{Renumbering, r_link, r_train}
use Rattle.link_rules.specs.Matching.{TablesMatch, OccupanciesMatch, MarksMatch}
use Rattle.link_rules.specs.declared.link_idx.LinkIdx.{LinkIdx}
use Rattle.link_rules.specs.declared.link_idx.TrainIdx.{TrainIdx}
use Rattle.link_rules.proofs.MarkLaws.{number_by, by_tests}
use Rattle.link_rules.proofs.TableLaws.{and_left, and_right, all-at}
use Rattle.link_rules.proofs.RenumberingLaws.{eqb_renumbered, eqb_renumbered_0, ltb_renumbered, below, entry_r, occupied_r}

-- ---- a table that passes 1 names only links below L

abbrev AllBelow : ℕ → List LinkIdx → Type 0
AllBelow n [] = Unit {0}
AllBelow n (l ∷ ls) = (l.0 < n) × AllBelow n ls

module _ (tbl : List ℕ) (fits : table_fits tbl ≡ true) where
  records : all_below (link_count tbl) (record_fits tbl) ≡ true
  unfolding table_fits
  records = and_left (all_below (link_count tbl) (record_fits tbl)) (all_below (lockout_count tbl) (lockout_fits tbl)) (and_right (header_fits tbl) _ fits)

  locks : all_below (lockout_count tbl) (lockout_fits tbl) ≡ true
  unfolding table_fits
  locks = and_right (all_below (link_count tbl) (record_fits tbl)) (all_below (lockout_count tbl) (lockout_fits tbl)) (and_right (header_fits tbl) _ fits)

  flip_below : (l : ℕ) → l < link_count tbl → flip_at tbl l < link_count tbl
  unfolding record_fits
  flip_below l h = ltb-true (flip_at tbl l) (link_count tbl) (and_left _ (leb (start_at tbl l + count_at tbl l) (lockout_count tbl)) (all-at (record_fits tbl) (link_count tbl) l records h))

  range_below : (l : ℕ) → l < link_count tbl → start_at tbl l + count_at tbl l ≤ lockout_count tbl
  unfolding record_fits
  range_below l h = leb-true (start_at tbl l + count_at tbl l) (lockout_count tbl) (and_right (ltb (flip_at tbl l) (link_count tbl)) _ (all-at (record_fits tbl) (link_count tbl) l records h))

  lockouts-below : (n j : ℕ) → j + n ≤ lockout_count tbl → AllBelow (link_count tbl) (lockouts tbl n j)
  unfolding lockouts lockout_fits
  lockouts-below zero j h = tt
  lockouts-below (suc n) j h =
      (ltb-true (lockout_at tbl j) (link_count tbl) (all-at (lockout_fits tbl) (lockout_count tbl) j locks (omega arith)), lockouts-below n (j + 1) (omega arith))

-- ---- stores and walks

-- what stands in a list after a store
get_set : (xs : List ℕ) (i j x : ℕ) → i < length xs → get_or (set xs i x) j 0 ≡ cond (eqb j i) x (get_or xs j 0)
get_set xs i j x h = go (eqb j i) refl
  where
    go : (v : Bool) → eqb j i ≡ v → get_or (set xs i x) j 0 ≡ cond v x (get_or xs j 0)
    go true e = ap (λ k. get_or (set xs i x) k 0) (eqb-true j i e) ∙ get_or-set_same xs i x 0 h
    go false e = get_or-set_other xs i j x 0 (eqb-false j i e)

cond_r : (q : ℕ → ℕ) (t t' : Bool) (x y x' y' : ℕ) → t' ≡ t → x' ≡ q x → y' ≡ q y → cond t' x' y' ≡ q (cond t x y)
cond_r q true t' x y x' y' e h k = ap (λ b. cond b x' y') e ∙ h
cond_r q false t' x y x' y' e h k = ap (λ b. cond b x' y') e ∙ k

module _ (n : ℕ) (p : ℕ → ℕ) (rp : Renumbering (n - 1) p) (top : ℕ) (q : ℕ → ℕ) (rq : Renumbering top q) where
  -- occupancies of length n that match
  pub record Twin (occ occ' : List ℕ) : Type 0 where
    pub long : length occ ≡ n
    pub alike : OccupanciesMatch p q occ occ'

  twin_entry : (occ occ' : List ℕ) → Twin occ occ' → (l : LinkIdx) → entry_at occ' (r_link p l) ≡ r_train q (entry_at occ l)
  twin_entry occ occ' w l = entry_r p q top rq occ occ' (subst (λ (k : ℕ). Renumbering (k - 1) p) (sym w.long) rp) w.alike l

  twin_occupied : (occ occ' : List ℕ) → Twin occ occ' → (l : LinkIdx) → occupied occ' (r_link p l) ≡ occupied occ l
  twin_occupied occ occ' w l = occupied_r p q top rq occ occ' (subst (λ (k : ℕ). Renumbering (k - 1) p) (sym w.long) rp) w.alike l

  hold_r : (occ occ' : List ℕ) (l : LinkIdx) (t : TrainIdx) → l.0 < n → Twin occ occ' → Twin (hold occ l t) (hold occ' (r_link p l) (r_train q t))
  hold_r occ occ' l t b w =
      record {
        long = length-set occ l.0 t.0 ∙ w.long;
        alike =
            record {
              long = length-set occ' (p l.0) (q t.0) ∙ w.alike.long ∙ sym (length-set occ l.0 t.0);
              entry = λ k h.
                  ap (λ (x : ℕ). record { 0 = x })
                  (get_set occ' (p l.0) (p k.0) (q t.0) (omega (arith, below n p rp l.0 b, w.alike.long, w.long))
                  ∙ cond_r q (eqb k.0 l.0) _ t.0 (get_or occ k.0 0) _ _ (eqb_renumbered (n - 1) p rp k.0 l.0) refl (ap (λ (x : TrainIdx). x.0) (twin_entry occ occ' w k))
                  ∙ ap q (sym (get_set occ l.0 k.0 t.0 (omega (arith, b, w.long)))));
            };
      }

  hold_all_r : (occ occ' : List ℕ) (ls : List LinkIdx) (t : TrainIdx) → AllBelow n ls → Twin occ occ' → Twin (hold_all occ ls t) (hold_all occ' (map (r_link p) ls) (r_train q t))
  unfolding hold_all
  hold_all_r occ occ' [] t b w = w
  hold_all_r occ occ' (l ∷ ls) t b w = hold_all_r (hold occ l t) (hold occ' (r_link p l) (r_train q t)) ls t b.1 (hold_r occ occ' l t b.0 w)

  twin_cond : (v v' : Bool) (x y x' y' : List ℕ) → v' ≡ v → Twin x x' → Twin y y' → Twin (cond v x y) (cond v' x' y')
  twin_cond true v' x y x' y' e a b = subst (λ (u : Bool). Twin x (cond u x' y')) (sym e) a
  twin_cond false v' x y x' y' e a b = subst (λ (u : Bool). Twin y (cond u x' y')) (sym e) b

  refilled_r : (occ occ' : List ℕ) (l : LinkIdx) (ls : List LinkIdx) → l.0 < n → Twin occ occ' → Twin (refilled occ l ls) (refilled occ' (r_link p l) (map (r_link p) ls))
  unfolding refilled
  refilled_r occ occ' l [] b w = w
  refilled_r occ occ' l (a ∷ ls) b w =
      twin_cond (occupied occ a) (occupied occ' (r_link p a)) _ _ _ _ (twin_occupied occ occ' w a)
      (subst (λ (t : TrainIdx). Twin (hold occ l (entry_at occ a)) (hold occ' (r_link p l) t)) (sym (twin_entry occ occ' w a)) (hold_r occ occ' l (entry_at occ a) b w))
      (refilled_r occ occ' l ls b w)

-- ---- over tables that match

module _ (tbl tbl' : List ℕ) (fits : table_fits tbl ≡ true) (p : ℕ → ℕ) (rp : Renumbering (link_count tbl - 1) p) (m : TablesMatch p tbl tbl')
    (top : ℕ) (q : ℕ → ℕ) (rq : Renumbering top q) where
  abbrev T : List ℕ → List ℕ → Type 0
  T occ occ' = Twin (link_count tbl) p rp top q rq occ occ'

  abbrev lockouts_of : List ℕ → LinkIdx → List LinkIdx
  lockouts_of t l = (link_at t l).link_idxs_lockout

  own_below : (l : LinkIdx) → l.0 < link_count tbl → AllBelow (link_count tbl) (lockouts_of tbl l)
  own_below l b = lockouts-below tbl fits (count_at tbl l.0) (start_at tbl l.0) (range_below tbl fits l.0 b)

  locks_r : (l : LinkIdx) → l.0 < link_count tbl → lockouts_of tbl' (r_link p l) ≡ map (r_link p) (lockouts_of tbl l)
  locks_r l b = ap (λ (k : Link). k.link_idxs_lockout) (m.each l b)

  reset_r : (occ occ' : List ℕ) (l : LinkIdx) → l.0 < link_count tbl → T occ occ' → T (reset_link_train_idx tbl occ l) (reset_link_train_idx tbl' occ' (r_link p l))
  unfolding reset_link_train_idx
  reset_r occ occ' l b w =
      twin_cond (link_count tbl) p rp top q rq (ltb 1 (length (lockouts_of tbl l))) (ltb 1 (length (lockouts_of tbl' (r_link p l)))) _ _ _ _
      (ap (λ x. ltb 1 (length x)) (locks_r l b) ∙ ap (ltb 1) (length-map (lockouts_of tbl l) (r_link p)))
      (subst (λ (x : List LinkIdx). T (refilled occ l (lockouts_of tbl l)) (refilled occ' (r_link p l) x)) (sym (locks_r l b))
      (refilled_r (link_count tbl) p rp top q rq occ occ' l (lockouts_of tbl l) b w))
      w

  reset_all_r : (occ occ' : List ℕ) (ls : List LinkIdx) → AllBelow (link_count tbl) ls → T occ occ' → T (reset_all tbl occ ls) (reset_all tbl' occ' (map (r_link p) ls))
  unfolding reset_all
  reset_all_r occ occ' [] b w = w
  reset_all_r occ occ' (l ∷ ls) b w = reset_all_r (reset_link_train_idx tbl occ l) (reset_link_train_idx tbl' occ' (r_link p l)) ls b.1 (reset_r occ occ' l b.0 w)

  abbrev touched : List ℕ → LinkIdx → List LinkIdx
  touched t l = (link_at t l).idx_flip ∷ lockouts_of t l

  abbrev after : List ℕ → List ℕ → List LinkIdx → TrainIdx → List ℕ
  after t occ ls train = cond (same_train train no_train) (reset_all t (hold_all occ ls train) ls) (hold_all occ ls train)

  update_r : (occ occ' : List ℕ) (l : LinkIdx) (t : TrainIdx) → l.0 < link_count tbl → T occ occ'
      → T (update_links_blocked tbl occ l t) (update_links_blocked tbl' occ' (r_link p l) (r_train q t))
  unfolding update_links_blocked
  update_r occ occ' l t b w =
      let inside : AllBelow (link_count tbl) (touched tbl l) = (flip_below tbl fits l.0 b, own_below l b) in
      let held = hold_all_r (link_count tbl) p rp top q rq occ occ' (touched tbl l) t inside w in
      subst (λ (ls : List LinkIdx). T (after tbl occ (touched tbl l) t) (after tbl' occ' ls (r_train q t)))
      (sym (ap (λ (k : Link). k.idx_flip ∷ k.link_idxs_lockout) (m.each l b)))
      (twin_cond (link_count tbl) p rp top q rq (same_train t no_train) (same_train (r_train q t) no_train) _ _ _ _ (eqb_renumbered_0 top q rq t.0)
      (reset_all_r (hold_all occ (touched tbl l) t) (hold_all occ' (map (r_link p) (touched tbl l)) (r_train q t)) (touched tbl l) inside held)
      held)

  -- ---- the call, with its refusals

  module _ (fits' : table_fits tbl' ≡ true) where
    link_r : (l : LinkIdx) → is_link tbl' (r_link p l) ≡ is_link tbl l
    unfolding is_link
    link_r l = rw (m.count, eqb_renumbered_0 (link_count tbl - 1) p rp l.0, ltb_renumbered (link_count tbl) p rp l.0)

    refusal_r : (n : ℕ) (l : LinkIdx) → mark_refusal tbl' n (r_link p l) ≡ mark_refusal tbl n l
    refusal_r n l =
        by_tests tbl' n (r_link p l) true (eqb n (link_count tbl)) (is_link tbl l) fits' (rw m.count) (link_r l)
        ∙ sym (by_tests tbl n l true (eqb n (link_count tbl)) (is_link tbl l) fits refl refl)

    -- what a call that is not refused says of its arguments
    pub record Taken (n : ℕ) (l : LinkIdx) : Type 0 where
      pub long : n ≡ link_count tbl
      pub inside : l.0 < link_count tbl

    link-inside : (l : LinkIdx) → is_link tbl l ≡ true → l.0 < link_count tbl
    unfolding is_link
    link-inside l h = ltb-true l.0 (link_count tbl) (and_right (not (eqb l.0 0)) _ h)

    taken : (n : ℕ) (l : LinkIdx) → mark_refusal tbl n l ≡ 0 → Taken n l
    taken n l h =
        go (eqb n (link_count tbl)) refl (is_link tbl l) refl (sym (by_tests tbl n l true (eqb n (link_count tbl)) (is_link tbl l) fits refl refl) ∙ h)
      where
        go : (u : Bool) → eqb n (link_count tbl) ≡ u → (v : Bool) → is_link tbl l ≡ v → ◌≡◌ {A = ℕ} (number_by true u v) 0 → Taken n l
        go true e true k z = record { long = eqb-true n (link_count tbl) e; inside = link-inside l k }
        go true e false k z = absurd (omega (arith, z))
        go false e v k z = absurd (omega (arith, z))

    abbrev matched : ℕ → ℕ → (occ occ' left left' : List ℕ) → Type 0
    matched n n' occ occ' left left' = MarksMatch p q (marked_by n occ left) (marked_by n' occ' left')

    mark_by : (n : ℕ) (occ occ' left left' : List ℕ) → OccupanciesMatch p q occ occ' → (n ≡ 0 → OccupanciesMatch p q left left') → matched n n occ occ' left left'
    mark_by zero occ occ' left left' o h = record { answer = refl; occupancies = h refl }
    mark_by (suc n) occ occ' left left' o h = record { answer = refl; occupancies = o }

    -- the same answer, and occupancies that match, for every link and train
    pub mark_of_r : (occ occ' : List ℕ) (l : LinkIdx) (t : TrainIdx) → OccupanciesMatch p q occ occ' → MarksMatch p q (mark_of tbl occ l t) (mark_of tbl' occ' (r_link p l) (r_train q t))
    unfolding mark_of
    mark_of_r occ occ' l t o =
        let left = update_links_blocked tbl occ l t in
        let left' = update_links_blocked tbl' occ' (r_link p l) (r_train q t) in
        let n = mark_refusal tbl (length occ) l in
        let same : mark_refusal tbl' (length occ') (r_link p l) ≡ n = refusal_r (length occ') l ∙ ap (λ (k : ℕ). mark_refusal tbl k l) o.long in
        subst (λ (k : ℕ). matched n k occ occ' left left') (sym same)
        (mark_by n occ occ' left left' o (λ z.
        let a = taken (length occ) l z in
        (update_r occ occ' l t a.inside (record { long = a.long; alike = o })).alike))
