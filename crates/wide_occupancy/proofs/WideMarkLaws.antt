-- Laws of mark and release over u32 entries: where no train is above 999,999 they are those of mark_of, the mark over u16 entries, and elsewhere they are refused. Assumes nothing.
use mathlib.Core.Path.{◌≡◌, refl, sym, ap, ◌∙◌, subst}
use mathlib.Core.Bool.{Bool, true, false, cond}
use mathlib.Core.List.{List, [], ◌∷◌}
use Prim.Native.Nat.{ℕ, zero, suc, max, ◌≤◌, ◌<◌}
use native.Mathlib.Omega.{arith}
use lib.Dec.{ltb, leb, eqb}
use lib.ListN.{length, get_or, set}
use lib.Seq.{get_or-set_same, get_or-set_other, set_out}
use borrow.Author.Tests.{ltb-true, ltb-false, eqb-true, eqb-false, leb-true, leb-false, le-leb, lt-leb}
use Rattle.link_rules.specs.LinkIdx.{no_train, same_train, entry_at, hold, occupied}
use Rattle.link_rules.specs.Network.{link_count, link_at, table_fits}
use Rattle.link_rules.specs.Refusals.{or_else, refused_unless, Done, Refused, raised}
use Rattle.link_rules.specs.AdvanceRewind.{hold_all, refilled, reset_link_train_idx, reset_all, update_links_blocked, is_link, table_fault, entries_fault, link_fault, fault_judged, mark_refusal, Marked, marked, marked_by, mark_of}
use Rattle.link_rules.specs.declared.link_idx.LinkIdx.{LinkIdx}
use Rattle.link_rules.specs.declared.link_idx.TrainIdx.{TrainIdx}
use Rattle.link_rules.specs.declared.refusal.Refusal.{Refusal}
use Rattle.link_rules.proofs.MarkLaws.{number_by, by_tests, refused_by, refused_marked, refused-leaves, length_marked}
use Rattle.link_rules.proofs.RefusalLaws.{or_else_third, unless_place, chain_place}
use Rattle.wide_occupancy.specs.WideOccupancy.{largest, six_digits, large_train_fault, mark_wide_fault, mark_wide_refusal, mark_wide_of}
use Rattle.wide_occupancy.proofs.TrainLaws.{UpTo, largest_bounds, bounded_largest}

-- ---- the refusals, by their tests: the table, the length, the link, the trains

abbrev pub wide_number_by : Bool → Bool → Bool → Bool → ℕ
wide_number_by fits long inside low = (or_else (refused_unless fits 1) (or_else (refused_unless long 2) (or_else (refused_unless inside 3) (refused_unless low 22)))).number

-- with trains that pass 22 they are 1, 2 and 3
low-number : (a b c : Bool) → wide_number_by a b c true ≡ number_by a b c
low-number true true true = refl
low-number true true false = refl
low-number true false c = refl
low-number false b c = refl

pub high-number : (a b c : Bool) → wide_number_by a b c false ≡ 0 → ⊥
high-number true true true e = omega (arith, e)
high-number true true false e = omega (arith, e)
high-number true false c e = omega (arith, e)
high-number false b c e = omega (arith, e)

module _ (tbl occ : List ℕ) (l : LinkIdx) (t : TrainIdx) where
  pub wide_by_tests : (a b c d : Bool) → table_fits tbl ≡ a → eqb (length occ) (link_count tbl) ≡ b → is_link tbl l ≡ c → leb (max t.0 (largest occ)) six_digits ≡ d
      → mark_wide_refusal tbl occ l t ≡ wide_number_by a b c d
  unfolding mark_wide_refusal
  wide_by_tests a b c d e f g h =
      ap (λ (x : Bool). wide_number_by x (eqb (length occ) (link_count tbl)) (is_link tbl l) (leb (max t.0 (largest occ)) six_digits)) e
      ∙ ap (λ (x : Bool). wide_number_by a x (is_link tbl l) (leb (max t.0 (largest occ)) six_digits)) f
      ∙ ap (λ (x : Bool). wide_number_by a b x (leb (max t.0 (largest occ)) six_digits)) g
      ∙ ap (λ (x : Bool). wide_number_by a b c x) h

  by : (d : Bool) → leb (max t.0 (largest occ)) six_digits ≡ d → mark_wide_refusal tbl occ l t ≡ wide_number_by (table_fits tbl) (eqb (length occ) (link_count tbl)) (is_link tbl l) d
  by d = wide_by_tests (table_fits tbl) (eqb (length occ) (link_count tbl)) (is_link tbl l) d refl refl refl

  -- the mark over u16 entries, whose trains are numbers here as there
  pub as_narrow : t.0 ≤ six_digits → largest occ ≤ six_digits → mark_wide_of tbl occ l t ≡ mark_of tbl occ l t
  unfolding mark_wide_of mark_of
  as_narrow h k =
      ap (λ (n : ℕ). marked_by n occ (update_links_blocked tbl occ l t))
      (by true (le-leb (max t.0 (largest occ)) six_digits (omega arith))
      ∙ low-number (table_fits tbl) (eqb (length occ) (link_count tbl)) (is_link tbl l)
      ∙ sym (by_tests tbl (length occ) l (table_fits tbl) (eqb (length occ) (link_count tbl)) (is_link tbl l) refl refl refl))

  -- a larger train: refused, by 22 or by what comes before it
  pub high-refused : six_digits < max t.0 (largest occ) → mark_wide_of tbl occ l t ≡ marked (Refused (record { number = mark_wide_refusal tbl occ l t; place = 0 })) occ
  unfolding mark_wide_of
  high-refused h =
      refused_by (mark_wide_refusal tbl occ l t) occ (update_links_blocked tbl occ l t)
      (λ z. high-number (table_fits tbl) (eqb (length occ) (link_count tbl)) (is_link tbl l) (sym (by false (lt-leb (max t.0 (largest occ)) six_digits h)) ∙ z))

  -- 1, 2 and 3 over a judged table, then 22
  pub then_large : (fits : Bool) → fits ≡ table_fits tbl → raised (or_else (fault_judged fits tbl (length occ) l) (large_train_fault six_digits occ t)) ≡ raised (mark_wide_fault tbl occ l t)
  then_large fits e =
      ap (λ (b : Bool). raised (or_else (fault_judged b tbl (length occ) l) (large_train_fault six_digits occ t))) e
      ∙ ap raised
      (or_else_third (table_fault tbl) (or_else (entries_fault tbl (length occ)) (link_fault tbl l)) (large_train_fault six_digits occ t)
      ∙ ap (or_else (table_fault tbl)) (or_else_third (entries_fault tbl (length occ)) (link_fault tbl l) (large_train_fault six_digits occ t)))

  -- a mark whose first refusal is f
  pub refused_wide : (f : Refusal) (left : List ℕ) → raised (mark_wide_fault tbl occ l t) ≡ Refused f → marked (Refused f) occ ≡ marked_by (mark_wide_refusal tbl occ l t) occ left
  unfolding mark_wide_refusal
  refused_wide f left e =
      refused_marked (mark_wide_fault tbl occ l t) f occ left
      (chain_place (table_fits tbl) 1 (or_else (entries_fault tbl (length occ)) (or_else (link_fault tbl l) (large_train_fault six_digits occ t)))
      (chain_place (eqb (length occ) (link_count tbl)) 2 (or_else (link_fault tbl l) (large_train_fault six_digits occ t))
      (chain_place (is_link tbl l) 3 (large_train_fault six_digits occ t) (unless_place (leb (max t.0 (largest occ)) six_digits) 22))))
      e

  -- what holds of mark_of, and of a refused call that leaves the occupancy, holds of it
  either : (P : Marked → Type 0) → (t.0 ≤ six_digits → largest occ ≤ six_digits → P (mark_of tbl occ l t)) → ((r : Refusal) → P (marked (Refused r) occ)) → P (mark_wide_of tbl occ l t)
  either P f g = go (leb (max t.0 (largest occ)) six_digits) refl
    where
      go : (d : Bool) → leb (max t.0 (largest occ)) six_digits ≡ d → P (mark_wide_of tbl occ l t)
      go true e =
          let low : max t.0 (largest occ) ≤ six_digits = leb-true (max t.0 (largest occ)) six_digits e in
          subst P (sym (as_narrow (omega arith) (omega arith))) (f (omega arith) (omega arith))
      go false e = subst P (sym (high-refused (leb-false (max t.0 (largest occ)) six_digits e))) (g (record { number = mark_wide_refusal tbl occ l t; place = 0 }))

  -- a mark or a release keeps the length of the occupancy, refused or not
  pub length-marked-wide : length (mark_wide_of tbl occ l t).occupancy ≡ length occ
  length-marked-wide = either (λ (m : Marked). length m.occupancy ≡ length occ) (λ h k. length_marked tbl occ l t) (λ r. refl)

  -- a refused call leaves the occupancy
  pub refused-leaves-wide : (r : Refusal) → (mark_wide_of tbl occ l t).answer ≡ Refused r → (mark_wide_of tbl occ l t).occupancy ≡ occ
  refused-leaves-wide r = either (λ (m : Marked). m.answer ≡ Refused r → m.occupancy ≡ occ) (λ h k. refused-leaves tbl occ l t r) (λ s e. refl)

-- ---- trains up to a largest one stay so

module _ (top : ℕ) where
  upto_set : (occ : List ℕ) (k x : ℕ) → x ≤ top → UpTo top occ → UpTo top (set occ k x)
  upto_set occ k x h b i = inside (ltb k (length occ)) refl (eqb i k) refl
    where
      inside : (u : Bool) → ltb k (length occ) ≡ u → (v : Bool) → eqb i k ≡ v → get_or (set occ k x) i 0 ≤ top
      inside false e v f = rw (set_out occ k x (ltb-false k (length occ) e)) (b i)
      inside true e true f = rw (eqb-true i k f) (omega (arith, get_or-set_same occ k x 0 (ltb-true k (length occ) e)))
      inside true e false f = omega (arith, get_or-set_other occ k i x 0 (eqb-false i k f), b i)

  upto_cond : (v : Bool) (xs ys : List ℕ) → UpTo top xs → UpTo top ys → UpTo top (cond v xs ys)
  upto_cond true xs ys a b = a
  upto_cond false xs ys a b = b

  upto_hold : (occ : List ℕ) (ls : List LinkIdx) (t : TrainIdx) → t.0 ≤ top → UpTo top occ → UpTo top (hold_all occ ls t)
  unfolding hold_all
  upto_hold occ [] t l b = b
  upto_hold occ (x ∷ xs) t l b = upto_hold (hold occ x t) xs t l (upto_set occ x.0 t.0 l b)

  upto_refilled : (occ : List ℕ) (l : LinkIdx) (ls : List LinkIdx) → UpTo top occ → UpTo top (refilled occ l ls)
  unfolding refilled
  upto_refilled occ l [] b = b
  upto_refilled occ l (x ∷ xs) b = upto_cond (occupied occ x) _ _ (upto_set occ l.0 (entry_at occ x).0 (b x.0) b) (upto_refilled occ l xs b)

  upto_reset : (tbl occ : List ℕ) (ls : List LinkIdx) → UpTo top occ → UpTo top (reset_all tbl occ ls)
  unfolding reset_all reset_link_train_idx
  upto_reset tbl occ [] b = b
  upto_reset tbl occ (l ∷ ls) b =
      upto_reset tbl (reset_link_train_idx tbl occ l) ls
      (upto_cond (ltb 1 (length (link_at tbl l).link_idxs_lockout)) _ _ (upto_refilled occ l (link_at tbl l).link_idxs_lockout b) b)

  pub upto_updated : (tbl occ : List ℕ) (l : LinkIdx) (t : TrainIdx) → t.0 ≤ top → UpTo top occ → UpTo top (update_links_blocked tbl occ l t)
  unfolding update_links_blocked
  upto_updated tbl occ l t h b =
      let ls = (link_at tbl l).idx_flip ∷ (link_at tbl l).link_idxs_lockout in
      let held = upto_hold occ ls t h b in
      upto_cond (same_train t no_train) _ _ (upto_reset tbl (hold_all occ ls t) ls held) held

  pub upto_marked : (tbl occ : List ℕ) (l : LinkIdx) (t : TrainIdx) → t.0 ≤ top → UpTo top occ → UpTo top (mark_of tbl occ l t).occupancy
  unfolding mark_of
  upto_marked tbl occ l t h b = go (mark_refusal tbl (length occ) l)
    where
      go : (n : ℕ) → UpTo top (marked_by n occ (update_links_blocked tbl occ l t)).occupancy
      go zero = upto_updated tbl occ l t h b
      go (suc n) = b

-- no entry is above 999,999 after a call that was not refused
pub within_six_digits : (tbl occ : List ℕ) (l : LinkIdx) (t : TrainIdx) → (mark_wide_of tbl occ l t).answer ≡ Done → largest (mark_wide_of tbl occ l t).occupancy ≤ six_digits
within_six_digits tbl occ l t =
    either tbl occ l t (λ (m : Marked). m.answer ≡ Done → largest m.occupancy ≤ six_digits)
    (λ h k e. bounded_largest six_digits _ (upto_marked six_digits tbl occ l t h (largest_bounds six_digits occ k)))
    (λ r e. let z : ◌≡◌ {A = ℕ} 0 1 = cc in absurd (omega arith))
