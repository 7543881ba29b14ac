-- The widths of a yard's images (document 02, Q-6): the largest train that every image holds, refusal 22 of a check, and that a check keeps the widths. Assumes nothing.
use mathlib.Core.Path.{◌≡◌, refl, sym, ap, ◌∙◌}
use mathlib.Core.Bool.{Bool, true, false, not}
use mathlib.Core.List.{List, [], ◌∷◌}
use Prim.Native.Nat.{ℕ, suc, max, ◌≤◌}
use native.Mathlib.Omega.{arith}
use lib.Dec.{leb, eqb}
use borrow.Author.Tests.{eqb-true, leb-true, le-leb, ne_eqb}
use Rattle.link_rules.specs.Refusals.{no_refusal, refused_unless}
use Rattle.image.specs.Image.{is_wide, largest_of, largest_train}
use Rattle.image_fault.specs.declared.Widths.{Widths}
use Rattle.image_fault.specs.declared.Widths.TheVariants.{Narrow, Either}
use Rattle.wide_occupancy.specs.WideOccupancy.{largest}
use Rattle.wide_occupancy.proofs.TrainLaws.{largest_bounds}
use Rattle.update_definition.specs.Fits.{TrainsUpTo}
use Rattle.update_definition.specs.UpdateImage.{entries_up_to, given_fault}
use Rattle.update_laws.proofs.BytesAccepted.{narrow-held}
use Rattle.yard_check.specs.Yard.{slot_count, part_of, yard_fits}
use Rattle.yard_check.specs.Check.{CheckArgs, wide_count, largest_held, wide_rows, held_fault, check_fault, slot_image, Checked, checked_with}
use Rattle.yard_check.specs.YardMatch.{TrainsHeld}
use Rattle.yard_check.specs.DemandThree.{largest_in, EntriesOfType}
use Rattle.yard_check.proofs.SlotLaws.{many_same, many_all, many_none}
use Rattle.yard_check.proofs.VisitLaws.{images_fit, slot-width}
use Rattle.yard_check.proofs.YardLaws.{fits, part-done}
use Rattle.yard_check.proofs.CheckLaws.{taken, by, slots_kept}

-- ---- the largest train that every image holds

abbrev is_wide_in : List ℕ → ℕ → Bool
is_wide_in yard t = is_wide (part_of yard t)

pub held_by : (b : Bool) (img : List ℕ) → (b ≡ true → is_wide img ≡ true) → largest_of b ≤ largest_train img
unfolding largest_of
held_by true img h = rw (h refl) (omega arith)
held_by false img h = narrow-held img

-- what all images hold, each holds
pub each-held : (yard : List ℕ) → TrainsHeld (largest_held yard) yard
each-held yard t l m =
    held_by (eqb (wide_count yard) (slot_count yard)) (part_of yard t) (λ e. many_all (is_wide_in yard) (slot_count yard) (eqb-true (wide_count yard) (slot_count yard) e) t l m)

pub held_in : (w : Widths) (yard : List ℕ) → TrainsHeld (largest_in w yard) yard
held_in Narrow yard t l m = narrow-held (part_of yard t)
held_in Either yard t l m = each-held yard t l m

-- rows without room for more than 16 bits have no larger train
pub largest-few : (b : Bool) → largest_of b ≤ 999999
unfolding largest_of
largest-few true = omega arith
largest-few false = omega arith

none-wide : (yard : List ℕ) → 1 ≤ slot_count yard → wide_count yard ≡ 0 → largest_held yard ≡ 65535
unfolding largest_of
none-wide yard l e = rw (ne_eqb (wide_count yard) (slot_count yard) (λ k. omega (arith, k, e)))

not-false : (x : Bool) → not x ≡ false → x ≡ true
not-false true h = refl
not-false false h = sym h

pub few-narrow : (w : Widths) (yard : List ℕ) → 1 ≤ slot_count yard → wide_rows w yard ≡ false → largest_in w yard ≡ 65535
few-narrow Narrow yard l e = refl
few-narrow Either yard l e = none-wide yard l (eqb-true (wide_count yard) 0 (not-false (eqb (wide_count yard) 0) e))

pub few-wide : (w : Widths) (yard : List ℕ) → largest_in w yard ≤ 999999
few-wide Narrow yard = omega arith
few-wide Either yard = largest-few (eqb (wide_count yard) (slot_count yard))

-- an image of a yard whose rows are narrow, in a call that takes both widths
pub narrow-image : (yard : List ℕ) (t : ℕ) → 1 ≤ t → t ≤ slot_count yard → wide_rows Either yard ≡ false → is_wide (part_of yard t) ≡ false
narrow-image yard t l m e = many_none (is_wide_in yard) (slot_count yard) (eqb-true (wide_count yard) 0 (not-false (eqb (wide_count yard) 0) e)) t l m

-- ---- refusal 22

clean_unless : (x : Bool) (n : ℕ) → (refused_unless x (suc n)).number ≡ 0 → x ≡ true
clean_unless true n h = refl
clean_unless false n h = absurd (omega arith)

-- a check that 22 does not refuse has no larger train
pub entries_in : (w : Widths) (yard occ : List ℕ) → (held_fault w yard occ).number ≡ 0 → EntriesOfType w occ → TrainsUpTo (largest_in w yard) occ
entries_in Narrow yard occ h u = u
entries_in Either yard occ h u =
    largest_bounds (largest_held yard) occ
    (omega (arith, leb-true (max 0 (largest occ)) (largest_held yard) (clean_unless (leb (max 0 (largest occ)) (largest_held yard)) 21 h)))

entries_true : (top : ℕ) (occ : List ℕ) → TrainsUpTo top occ → entries_up_to top occ ≡ true
unfolding entries_up_to
entries_true top [] h = refl
entries_true top (t ∷ ts) h = rw (le-leb t top (h 0), entries_true top ts (λ i. h (suc i)))

-- an update of an image that holds the trains is not refused by the call's 22
pub given-held : (w : Widths) (img occ : List ℕ) (moved : ℕ) → (w ≡ Either → TrainsUpTo (largest_train img) occ × (moved ≤ largest_train img)) → given_fault w img occ moved ≡ no_refusal
given-held Narrow img occ moved h = refl
given-held Either img occ moved h = let k = h refl in rw (entries_true (largest_train img) occ k.0, le-leb moved (largest_train img) k.1)

abbrev width_code : Widths → ℕ
width_code Narrow = 0
width_code Either = 1

either_held : (w : Widths) (yard occ : List ℕ) → (held_fault w yard occ).number ≡ 0 → w ≡ Either → TrainsUpTo (largest_held yard) occ
either_held Narrow yard occ h e = absurd (omega (arith, ap width_code e))
either_held Either yard occ h e = entries_in Either yard occ h tt

-- so none within a check that is not refused
pub given-none : (yard occ : List ℕ) (a : CheckArgs) (long : ℕ) → (check_fault yard occ a long).number ≡ 0 → (t : ℕ) → 1 ≤ t → t ≤ slot_count yard
    → given_fault a.widths (part_of yard t) occ a.moved ≡ no_refusal
given-none yard occ a long clean t l m =
    let k = taken yard occ a long clean in
    let f = fits yard k.yard-fits in
    given-held a.widths (part_of yard t) occ a.moved (λ e.
    (λ i. omega (arith, either_held a.widths yard occ k.held e i, each-held yard t l m), omega (arith, k.moved, f.few, narrow-held (part_of yard t))))

-- ---- a check keeps the widths

module _ (yard occ : List ℕ) (a : CheckArgs) (report : List ℕ) (ok : yard_fits yard ≡ true) where
  abbrev after : Checked
  after = checked_with yard occ a report

  part-width : (t : ℕ) → 1 ≤ t → t ≤ slot_count yard → is_wide_in after.yard t ≡ is_wide_in yard t
  part-width t l m =
      by yard occ a report (λ (c : Checked). is_wide (part_of c.yard t) ≡ is_wide (part_of yard t)) (λ k e. refl)
      (λ e. ap is_wide (part-done yard (fits yard ok) (slot_image yard occ a) (images_fit yard occ a) (slot_count yard) (omega arith) t l m m) ∙ slot-width yard occ a t)

  pub wide-kept : wide_count after.yard ≡ wide_count yard
  wide-kept = rw (slots_kept yard occ a report ok) (many_same (is_wide_in after.yard) (is_wide_in yard) (slot_count yard) part-width)

  pub largest-kept : (w : Widths) → largest_in w after.yard ≡ largest_in w yard
  largest-kept Narrow = refl
  largest-kept Either = rw (wide-kept, slots_kept yard occ a report ok)
