-- Demand 3's part for mark and release over u32 entries: under renumberings of trains 1 to 999,999 they match, refused calls included. Assumes nothing.
use mathlib.Core.Path.{◌≡◌, refl, sym, ap, ◌∙◌, subst}
use mathlib.Core.Bool.{Bool, true, false}
use mathlib.Core.List.{List}
use Prim.Native.Nat.{ℕ, zero, suc, max, ◌-◌, ◌≤◌}
use native.Mathlib.Omega.{arith}
use lib.Dec.{leb, eqb}
use lib.ListN.{length, get_or}
use borrow.Author.Tests.{eqb-true, eq-eqb, leb-true, leb-false, le-leb}
use Rattle.link_rules.specs.Network.{link_count, table_fits}
use Rattle.link_rules.specs.AdvanceRewind.{is_link, update_links_blocked, marked_by}
use Rattle.link_rules.specs.Renumbering.{Renumbering, r_link, r_train}
use Rattle.link_rules.specs.Matching.{TablesMatch, OccupanciesMatch, MarksMatch}
use Rattle.link_rules.specs.declared.link_idx.LinkIdx.{LinkIdx}
use Rattle.link_rules.specs.declared.link_idx.TrainIdx.{TrainIdx}
use Rattle.link_rules.proofs.RenumberingLaws.{eqb_renumbered_0, ltb_renumbered, within, entry_r}
use Rattle.link_rules.proofs.MarkRenumbering.{mark_of_r}
use Rattle.wide_occupancy.specs.WideOccupancy.{largest, six_digits, mark_wide_refusal, mark_wide_of}
use Rattle.wide_occupancy.proofs.TrainLaws.{UpTo, largest_bounds, bounded_largest}
use Rattle.wide_occupancy.proofs.WideMarkLaws.{wide_number_by, high-number, wide_by_tests, as_narrow}
use Rattle.wide_occupancy.proofs.Onto.{onto}

-- ---- a number is up to the largest train exactly if its renumbered one is

module _ (top : ℕ) (q : ℕ → ℕ) (rq : Renumbering top q) where
  without : (x : ℕ) → q x ≤ top → x ≤ top
  without x h = go (leb x top) refl
    where
      go : (u : Bool) → leb x top ≡ u → x ≤ top
      go true e = leb-true x top e
      go false e = absurd (omega (arith, leb-false x top e, rq.above_stays x (leb-false x top e)))

  module _ (p : ℕ → ℕ) (occ occ' : List ℕ) (rp : Renumbering (length occ - 1) p) (m : OccupanciesMatch p q occ occ') where
    entry : (i : ℕ) → get_or occ' (p i) 0 ≡ q (get_or occ i 0)
    entry i = ap (λ (t : TrainIdx). t.0) (entry_r p q top rq occ occ' rp m (record { 0 = i }))

    upto_r : UpTo top occ → UpTo top occ'
    upto_r b j =
        let found = onto (length occ - 1) p rp j in
        rw (← found.1) (omega (arith, entry found.0, within top q rq (get_or occ found.0 0) (b found.0)))

    upto_back : UpTo top occ' → UpTo top occ
    upto_back b i = without (get_or occ i 0) (omega (arith, entry i, b (p i)))

    -- the test of 22 does not see a renumbering
    pub low_r : (t : TrainIdx) → leb (max (q t.0) (largest occ')) top ≡ leb (max t.0 (largest occ)) top
    low_r t = go (leb (max t.0 (largest occ)) top) refl
      where
        go : (u : Bool) → leb (max t.0 (largest occ)) top ≡ u → leb (max (q t.0) (largest occ')) top ≡ u
        go true e =
            let low : max t.0 (largest occ) ≤ top = leb-true (max t.0 (largest occ)) top e in
            let entries : largest occ' ≤ top = bounded_largest top occ' (upto_r (largest_bounds top occ (omega (arith, low)))) in
            le-leb (max (q t.0) (largest occ')) top (omega (arith, entries, within top q rq t.0 (omega (arith, low))))
        go false e = other (leb (max (q t.0) (largest occ')) top) refl
          where
            other : (v : Bool) → leb (max (q t.0) (largest occ')) top ≡ v → leb (max (q t.0) (largest occ')) top ≡ false
            other false f = f
            other true f =
                let low : max (q t.0) (largest occ') ≤ top = leb-true (max (q t.0) (largest occ')) top f in
                let entries : largest occ ≤ top = bounded_largest top occ (upto_back (largest_bounds top occ' (omega (arith, low)))) in
                absurd (omega (arith, leb-false (max t.0 (largest occ)) top e, entries, without t.0 (omega (arith, low))))

-- ---- the call

module _ (tbl tbl' : List ℕ) (fits : table_fits tbl ≡ true) (fits' : table_fits tbl' ≡ true) (p : ℕ → ℕ) (rp : Renumbering (link_count tbl - 1) p) (m : TablesMatch p tbl tbl')
    (q : ℕ → ℕ) (rq : Renumbering six_digits q) where
  link_r : (l : LinkIdx) → is_link tbl' (r_link p l) ≡ is_link tbl l
  unfolding is_link
  link_r l = rw (m.count, eqb_renumbered_0 (link_count tbl - 1) p rp l.0, ltb_renumbered (link_count tbl) p rp l.0)

  module _ (occ occ' : List ℕ) (l : LinkIdx) (t : TrainIdx) (o : OccupanciesMatch p q occ occ') where
    abbrev Matched : Type 0
    Matched = MarksMatch p q (mark_wide_of tbl occ l t) (mark_wide_of tbl' occ' (r_link p l) (r_train q t))

    -- refused in both by the same number
    both_refused : mark_wide_refusal tbl' occ' (r_link p l) (r_train q t) ≡ mark_wide_refusal tbl occ l t → (mark_wide_refusal tbl occ l t ≡ 0 → ⊥) → Matched
    unfolding mark_wide_of
    both_refused same h = go (mark_wide_refusal tbl occ l t) (mark_wide_refusal tbl' occ' (r_link p l) (r_train q t)) same h
      where
        go : (n n' : ℕ) → n' ≡ n → (n ≡ 0 → ⊥) → MarksMatch p q (marked_by n occ (update_links_blocked tbl occ l t)) (marked_by n' occ' (update_links_blocked tbl' occ' (r_link p l) (r_train q t)))
        go zero n' e h = absurd (h refl)
        go (suc n) n' e h = rw e (record { answer = refl; occupancies = o })

    long-r : eqb (length occ') (link_count tbl') ≡ eqb (length occ) (link_count tbl)
    long-r = rw (o.long, m.count)

    -- the same answer, and occupancies that match, for every link and train
    pub mark-wide_r : Matched
    mark-wide_r = go (eqb (length occ) (link_count tbl)) refl
      where
        by : (long low : Bool) → eqb (length occ) (link_count tbl) ≡ long → leb (max t.0 (largest occ)) six_digits ≡ low → mark_wide_refusal tbl occ l t ≡ wide_number_by true long (is_link tbl l) low
        by long low e f = wide_by_tests tbl occ l t true long (is_link tbl l) low fits e refl f

        by' : (long low : Bool) → eqb (length occ) (link_count tbl) ≡ long → leb (max (q t.0) (largest occ')) six_digits ≡ low → mark_wide_refusal tbl' occ' (r_link p l) (r_train q t) ≡ wide_number_by true long (is_link tbl l) low
        by' long low e f = wide_by_tests tbl' occ' (r_link p l) (r_train q t) true long (is_link tbl l) low fits' (long-r ∙ e) (link_r l) f

        inside : length occ ≡ link_count tbl → (u : Bool) → leb (max t.0 (largest occ)) six_digits ≡ u → leb (max (q t.0) (largest occ')) six_digits ≡ u → Matched
        inside e true f g =
            let low : max t.0 (largest occ) ≤ six_digits = leb-true (max t.0 (largest occ)) six_digits f in
            let low' : max (q t.0) (largest occ') ≤ six_digits = leb-true (max (q t.0) (largest occ')) six_digits g in
            rw (as_narrow tbl occ l t (omega (arith, low)) (omega (arith, low)), as_narrow tbl' occ' (r_link p l) (r_train q t) (omega (arith, low')) (omega (arith, low')))
            (mark_of_r tbl tbl' fits p rp m six_digits q rq fits' occ occ' l t o)
        inside e false f g =
            let long = eq-eqb (length occ) (link_count tbl) e in
            both_refused (by' true false long g ∙ sym (by true false long f)) (λ z. high-number true true (is_link tbl l) (sym (by true false long f) ∙ z))

        go : (u : Bool) → eqb (length occ) (link_count tbl) ≡ u → Matched
        go false e =
            both_refused
            (by' false (leb (max (q t.0) (largest occ')) six_digits) e refl ∙ sym (by false (leb (max t.0 (largest occ)) six_digits) e refl))
            (λ z. let two : ◌≡◌ {A = ℕ} 2 0 = sym (by false (leb (max t.0 (largest occ)) six_digits) e refl) ∙ z in omega (arith, two))
        go true e =
            let long : length occ ≡ link_count tbl = eqb-true (length occ) (link_count tbl) e in
            inside long (leb (max t.0 (largest occ)) six_digits) refl
            (low_r six_digits q rq p occ occ' (subst (λ (k : ℕ). Renumbering (k - 1) p) (sym long) rp) o t)
