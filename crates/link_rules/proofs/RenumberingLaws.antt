-- What a renumbering gives. Every renumbering law of the project rests on these. Assumes nothing.
use Rattle.std.proofs.Common.{◌≡◌, ℕ, zero, suc, ◌-◌, ◌<◌, ◌≤◌, Bool, true, false, not, eqb, ltb, leb, List, length, sym, refl, ap, ◌∙◌, arith, ltb-false, ltb-true, le-ltb, lt-ltb, eq-eqb, ne_eqb, eqb-true, leb-false, leb-true}
use lib.ListN.{get_or-eq_default}
use borrow.Author.Tests.{eqb-false}
use Rattle.link_rules.specs.LinkIdx.{entry_at, occupied, same_link, same_train}
use Rattle.link_rules.specs.Renumbering.{Renumbering, r_link, r_train}
use Rattle.link_rules.specs.Matching.{OccupanciesMatch}
use Rattle.link_rules.specs.declared.link_idx.LinkIdx.{LinkIdx}
use Rattle.link_rules.specs.declared.link_idx.TrainIdx.{TrainIdx}

module _ (top : ℕ) (p : ℕ → ℕ) (r : Renumbering top p) where
  -- a test of equality does not see a renumbering
  pub eqb_renumbered : (a b : ℕ) → eqb (p a) (p b) ≡ eqb a b
  eqb_renumbered a b = go (eqb a b) refl
    where
      go : (t : Bool) → eqb a b ≡ t → eqb (p a) (p b) ≡ t
      go true e = eq-eqb (p a) (p b) (ap p (eqb-true a b e))
      go false e = ne_eqb (p a) (p b) (λ h. eqb-false a b e (r.one-to-one a b h))

  -- nor does a test for 0
  pub eqb_renumbered_0 : (a : ℕ) → eqb (p a) 0 ≡ eqb a 0
  eqb_renumbered_0 a = ap (eqb (p a)) (sym r.zero_stays) ∙ eqb_renumbered a 0

  -- 0 to top goes to 0 to top
  pub within : (a : ℕ) → a ≤ top → p a ≤ top
  within a h = go (leb (p a) top) refl
    where
      go : (t : Bool) → leb (p a) top ≡ t → p a ≤ top
      go true e = leb-true (p a) top e
      go false e = absurd (omega (arith, leb-false (p a) top e, r.one-to-one (p a) a (r.above_stays (p a) (leb-false (p a) top e))))

-- a renumbering of the links below n keeps them below n, and no others
pub ltb_renumbered : (n : ℕ) (p : ℕ → ℕ) → Renumbering (n - 1) p → (a : ℕ) → ltb (p a) n ≡ ltb a n
ltb_renumbered zero p r a = le-ltb (p a) 0 (omega arith) ∙ sym (le-ltb a 0 (omega arith))
ltb_renumbered (suc n) p r a = go (ltb a (suc n)) refl
  where
    go : (t : Bool) → ltb a (suc n) ≡ t → ltb (p a) (suc n) ≡ t
    go true e = lt-ltb (p a) (suc n) (omega (arith, within (suc n - 1) p r a (omega (arith, ltb-true a (suc n) e))))
    go false e = le-ltb (p a) (suc n) (omega (arith, ltb-false a (suc n) e, r.above_stays a (omega (arith, ltb-false a (suc n) e))))

-- an accepted link number is kept below L
pub below : (n : ℕ) (p : ℕ → ℕ) → Renumbering (n - 1) p → (a : ℕ) → a < n → p a < n
below n p r a h = ltb-true (p a) n (ltb_renumbered n p r a ∙ lt-ltb a n h)

pub same_link_r : (top : ℕ) (p : ℕ → ℕ) → Renumbering top p → (a b : LinkIdx) → same_link (r_link p a) (r_link p b) ≡ same_link a b
same_link_r top p r a b = eqb_renumbered top p r a.0 b.0

pub same_train_r : (top : ℕ) (q : ℕ → ℕ) → Renumbering top q → (a b : TrainIdx) → same_train (r_train q a) (r_train q b) ≡ same_train a b
same_train_r top q r a b = eqb_renumbered top q r a.0 b.0

-- ---- occupancies that match

module _ (p q : ℕ → ℕ) (top : ℕ) (rq : Renumbering top q) (occ occ' : List ℕ) (rp : Renumbering (length occ - 1) p) (m : OccupanciesMatch p q occ occ') where
  -- at every link number: past the end both are empty
  pub entry_r : (l : LinkIdx) → entry_at occ' (r_link p l) ≡ r_train q (entry_at occ l)
  entry_r l = go (ltb l.0 (length occ)) refl
    where
      go : (t : Bool) → ltb l.0 (length occ) ≡ t → entry_at occ' (r_link p l) ≡ r_train q (entry_at occ l)
      go true e = m.entry l (ltb-true l.0 (length occ) e)
      go false e =
          let h : length occ ≤ l.0 = ltb-false l.0 (length occ) e in
          let k : length occ' ≤ p l.0 = omega (arith, m.long, ltb-false (p l.0) (length occ) (ltb_renumbered (length occ) p rp l.0 ∙ e)) in
          ap (λ (x : ℕ). record { 0 = x }) (get_or-eq_default occ' 0 k ∙ sym rq.zero_stays ∙ ap q (sym (get_or-eq_default occ 0 h)))

  pub occupied_r : (l : LinkIdx) → occupied occ' (r_link p l) ≡ occupied occ l
  unfolding occupied
  occupied_r l = ap (λ (t : TrainIdx). not (eqb t.0 0)) (entry_r l) ∙ ap not (eqb_renumbered_0 top q rq (entry_at occ l).0)
