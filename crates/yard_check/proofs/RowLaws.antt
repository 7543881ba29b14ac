-- The row of a visit, as the code finds it: its columns have room, and the refusals 6 to 9 and 22 of a slot that is updated are those of its update. Assumes nothing.
use mathlib.Core.Path.{◌≡◌, refl, sym, ap, ◌∙◌}
use mathlib.Core.Bool.{Bool, true, false, cond}
use mathlib.Core.List.{List}
use Prim.Native.Nat.{ℕ, zero, suc, ◌≤◌, ◌<◌}
use native.Mathlib.Omega.{arith}
use lib.Dec.{ltb, eqb}
use lib.ListN.{length}
use Rattle.link_rules.proofs.OctetLaws.{Bytes}
use Rattle.link_rules.specs.declared.refusal.Refusal.{Refusal}
use Rattle.image_fault.specs.ImageFault.{fault_with}
use Rattle.link_rules.specs.Refusals.{no_refusal}
use Rattle.update_definition.specs.Update.{Status, Success, Blocked, Faulty, Refused}
use Rattle.update_definition.specs.UpdateImage.{UpdatedImage, call_fault, given_fault, refused_answer, updated_image_in}
use Rattle.update_definition.specs.Fits.{TrainsUpTo}
use Rattle.update_laws.proofs.TallyBounds.{StatusFew}
use Rattle.image_fault.specs.declared.Widths.{Widths}
use Rattle.image_fault.specs.declared.Widths.TheVariants.{Narrow, Either}
use Rattle.update_laws.proofs.TrainsMet.{image-met}
use Rattle.update_laws.proofs.UpdateCounts.{image-counts}
use Rattle.update_laws.proofs.RefusalNumbers.{update_low, update_wide_low, refused_update}
use Rattle.yard_check.specs.Check.{CheckArgs, unvisited_row, refused_row, status_row, updated_row, is_finished, visit, visit_by, visited, slot_visit, slot_row}
use Rattle.yard_check.specs.Yard.{part_of}
use Rattle.yard_check.specs.Checks.{stays_row, StatusFits, ColumnsFit}
use Rattle.yard_check.proofs.CheckLaws.{visit-refused, visit_finished, visit-moved, visit_updated}

-- the number of an update's refusal, whatever widths it takes
low_in : (w : Widths) (img occ blocking : List ℕ) (moved : ℕ) (local : Bool) (limit : ℕ) → (call_fault occ blocking moved limit).number ≡ 0
    → (r : Refusal) → (updated_image_in w img occ blocking moved local limit).answer.status ≡ Refused r → r.number ≤ 22
low_in Narrow img occ blocking moved local limit call r e = omega (arith, update_low img occ blocking moved local limit call r e)
low_in Either img occ blocking moved local limit call r e = update_wide_low img occ blocking moved local limit call r e

module _ (w : Widths) (img occ blocking : List ℕ) (moved : ℕ) (local : Bool) (limit : ℕ) (call : (call_fault occ blocking moved limit).number ≡ 0) where
  abbrev u : UpdatedImage
  u = updated_image_in w img occ blocking moved local limit

  fits_by : (s : Status) → StatusFew s → ((r : Refusal) → s ≡ Refused r → r.number ≤ 22) → StatusFits s
  fits_by Success a b = tt
  fits_by (Blocked holder) a b = tt
  fits_by (Faulty n) a b = omega arith
  fits_by (Refused r) a b = b r refl

  -- what an update counts and its refusal have room in the report
  pub columns_fit : Bytes img → limit < 65536 → ColumnsFit u.answer.status u.answer.tally.strays
  columns_fit b l =
      let c = image-counts w img occ blocking moved local limit b in
      (fits_by u.answer.status c.errors (low_in w img occ blocking moved local limit call), omega (arith, c.strays))

-- ---- the train met in a row is one of the occupancy, or 0

met-row : (s : Status) (rounds strays met : ℕ) → (status_row s rounds strays met).met ≤ met
met-row Success rounds strays met = omega arith
met-row (Blocked holder) rounds strays met = omega arith
met-row (Faulty n) rounds strays met = omega arith
met-row (Refused r) rounds strays met = omega arith

met_by : (n : ℕ) (f : Refusal) (is_done is_moved : Bool) (u : UpdatedImage) (img : List ℕ) → (visit_by n f is_done is_moved u img).row.met ≤ u.answer.met.0
met_by (suc n) f is_done is_moved u img = omega arith
met_by zero f true is_moved u img = omega arith
met_by zero f false true u img = omega arith
met_by zero f false false u img = met-row u.answer.status u.answer.tally.rounds u.answer.tally.strays u.answer.met.0

module _ (top : ℕ) (occ : List ℕ) (h : TrainsUpTo top occ) (a : CheckArgs) (t : ℕ) where
  visit-met : (img : List ℕ) → (visited occ a t img).row.met ≤ top
  unfolding visited
  visit-met img =
      let f = fault_with a.widths no_refusal img (length occ) in
      let u = updated_image_in a.widths img occ a.blocking a.moved a.local a.limit in
      omega (arith, met_by f.number f (is_finished img) (eqb t a.moved) u img, image-met top occ h a.widths img a.blocking a.moved a.local a.limit)

  pub slot-met : (yard : List ℕ) → (slot_row yard occ a t).met ≤ top
  unfolding slot_visit
  slot-met yard = go (ltb t a.begin)
    where
      go : (b : Bool) → (cond b (visit unvisited_row (part_of yard t)) (visited occ a t (part_of yard t))).row.met ≤ top
      go true = omega arith
      go false = visit-met (part_of yard t)

-- ---- the visit

pub stays_refused : (n : ℕ) (f : Refusal) (code : ℕ) → (n ≡ 0 → ⊥) → refused_row f 0 0 ≡ stays_row n f code
stays_refused zero f code h = absurd (h refl)
stays_refused (suc n) f code h = refl

module _ (occ : List ℕ) (a : CheckArgs) (t : ℕ) (img : List ℕ) where
  abbrev v : Refusal
  v = fault_with a.widths no_refusal img (length occ)

  abbrev w : UpdatedImage
  w = updated_image_in a.widths img occ a.blocking a.moved a.local a.limit

  -- a slot that is not updated
  pub finished_stays : is_finished img ≡ true → visited occ a t img ≡ visit (stays_row v.number v 1) img
  finished_stays d = go v.number refl
    where
      go : (k : ℕ) → v.number ≡ k → visited occ a t img ≡ visit (stays_row k v 1) img
      go zero e = visit_finished occ a t img e d
      go (suc n) e = visit-refused occ a t img n e

  pub moved_stays : is_finished img ≡ false → t ≡ a.moved → visited occ a t img ≡ visit (stays_row v.number v 2) img
  moved_stays d m = go v.number refl
    where
      go : (k : ℕ) → v.number ≡ k → visited occ a t img ≡ visit (stays_row k v 2) img
      go zero e = visit-moved occ a t img e d m
      go (suc n) e = visit-refused occ a t img n e

  -- every other one is updated at once, where the call's own 22 does not stand
  pub updated_at_once : (call_fault occ a.blocking a.moved a.limit).number ≡ 0 → given_fault a.widths img occ a.moved ≡ no_refusal → is_finished img ≡ false → (t ≡ a.moved → ⊥)
      → visited occ a t img ≡ visit (updated_row w.answer) w.image
  updated_at_once c g d m = go v.number refl
    where
      own : fault_with a.widths (given_fault a.widths img occ a.moved) img (length occ) ≡ v
      own = ap (λ (f : Refusal). fault_with a.widths f img (length occ)) g

      same_refusal : (n : ℕ) → v.number ≡ suc n → w ≡ refused_answer v img
      same_refusal n e =
          refused_update a.widths img occ a.blocking a.moved a.local a.limit c n (ap (λ (f : Refusal). f.number) own ∙ e)
          ∙ ap (λ (f : Refusal). refused_answer f img) own

      go : (k : ℕ) → v.number ≡ k → visited occ a t img ≡ visit (updated_row w.answer) w.image
      go zero e = visit_updated occ a t img e d m
      go (suc n) e =
          visit-refused occ a t img n e
          ∙ ap (λ (x : UpdatedImage). visit (updated_row x.answer) x.image) (sym (same_refusal n e))
