-- A half check keeps a sitting carried so far: the header, the carried images wide and accepted, the other parts zero, the others narrow and accepted.
-- Assumes nothing.
use mathlib.Core.Path.{◌≡◌, refl, sym, ap, subst, ◌∙◌}
use mathlib.Core.Logic.{⊎_elim}
use mathlib.Core.Bool.{Bool, true, false, cond}
use mathlib.Core.List.{List}
use Prim.Native.Nat.{ℕ, zero, suc, ◌+◌, ◌-◌, ◌≤◌, ◌<◌}
use native.Mathlib.Omega.{arith}
use lib.Dec.{ltb}
use lib.ListN.{length, get_or, get_or-eq_default}
use borrow.Author.Tests.{le-leb, lt-leb, lt-ltb}
use Rattle.link_rules.specs.Octets.{le_at}
use Rattle.link_rules.specs.Refusals.{no_refusal}
use Rattle.link_rules.specs.declared.refusal.Refusal.{Refusal}
use Rattle.link_rules.proofs.OctetLaws.{Bytes, le_cong}
use Rattle.image.specs.Image.{diverge_room, is_wide, largest_train}
use Rattle.image.proofs.Writers.{side}
use Rattle.image_fault.specs.ImageFault.{fault_with, image_fault}
use Rattle.image_fault.specs.declared.Widths.TheVariants.{Either}
use Rattle.image_fault.proofs.AcceptLaws.{or_else_clean, accepted-narrow}
use Rattle.update_definition.specs.Fits.{TrainsWithin}
use Rattle.update_laws.proofs.BytesAccepted.{narrow-held}
use Rattle.update_laws.proofs.UpdateLeaves.{left-accepted}
use Rattle.conversion.proofs.Agreement.{fits-same}
use Rattle.yard_check.specs.Yard.{slot_count, part_begin, part_end, part_of}
use Rattle.yard_check.specs.Check.{CheckArgs, slot_image, yard_after}
use Rattle.yard_check.specs.Checks.{Lies}
use Rattle.yard_check.specs.Pair.{late_fault, pair_fault, pair_image, later_image, PairChecked, pair_done}
use Rattle.yard_check.proofs.YardLaws.{Fits, fits, ImagesFit, TrainsStay, end-next, end-last, part_bytes, left, same-begin, slots-after, part-done, after-fits, after-bytes}
use Rattle.yard_check.proofs.VisitLaws.{slot_keeps, slot-length, slot-bytes, slot-train, slot-width, slot-room, images_fit, images-bytes}
use Rattle.yard_check.proofs.PairLaws.{PairTaken, pair_taken, image-held}
use Rattle.carry.specs.Carry.{wide_length, wide_end, wide_size}
use Rattle.carry.specs.CarriedFar.{Header, CarriedImage, CarriedFar}
use Rattle.carry.specs.HalfCheck.{early_fault, half_fault, half_args}
use Rattle.carry.specs.CarryPromises.{StillFar, HalfCheckKeeps}
use Rattle.carry.proofs.LayoutLaws.{end_zero, end-suc, length-is}
use Rattle.carry.proofs.HalfLaws.{EarlyPassed, early_passed, same-fault, half_by}

-- a narrow image in a call that takes both widths
pub widths-same : (img : List ℕ) (l : ℕ) → is_wide img ≡ false → fault_with Either no_refusal img l ≡ image_fault img l
unfolding fault_with
widths-same img l n = rw (fits-same img n)

-- bytes of the yard behind the parts that got an image
module _ (yard : List ℕ) (f : Lies yard) (img : ℕ → List ℕ) (fit : ImagesFit yard img) (n : ℕ) (h : n ≤ slot_count yard) where
  abbrev z : List ℕ
  z = yard_after yard img n

  past : (i : ℕ) → length yard ≤ i → get_or z i 0 ≡ get_or yard i 0
  past i l = get_or-eq_default z 0 (omega (arith, (left yard f img fit n h).long)) ∙ sym (get_or-eq_default yard 0 l)

  pub behind : (m t : ℕ) → t + m ≡ slot_count yard → n < t → (i : ℕ) → part_begin yard t ≤ i → get_or z i 0 ≡ get_or yard i 0
  behind zero t e k i l =
      ⊎_elim
      (λ (x : i < part_end yard t). (left yard f img fit n h).later t k (omega arith) i l x)
      (λ (x : part_end yard t ≤ i). past i (let q : t ≡ slot_count yard = omega arith in omega (arith, ap (part_end yard) q, end-last yard f, x)))
      (side i (part_end yard t))
  behind (suc m) t e k i l =
      ⊎_elim
      (λ (x : i < part_end yard t). (left yard f img fit n h).later t k (omega arith) i l x)
      (λ (x : part_end yard t ≤ i). behind m (t + 1) (omega arith) (omega arith) i (omega (arith, end-next yard f t (omega arith), x)))
      (side i (part_end yard t))

module _ (k : ℕ) (yard wide occ blocking : List ℕ) (moved begin : ℕ) (local : Bool) (limit : ℕ) (report : List ℕ) (b : Bytes yard) (bw : Bytes wide)
    (far : CarriedFar (length occ) k yard wide) (clean : (half_fault yard wide k occ (half_args blocking moved begin local limit) (length report)).number ≡ 0) where
  abbrev a : CheckArgs
  a = half_args blocking moved begin local limit

  E : EarlyPassed yard wide k occ a
  E = early_passed yard wide k occ a (or_else_clean (early_fault yard wide k occ a) (late_fault yard wide k occ a (length report)) clean).0

  pub pair_clean : (pair_fault yard wide k occ a (length report)).number ≡ 0
  pair_clean = ap (λ (f : Refusal). f.number) (same-fault yard wide k occ a E (length report)) ∙ clean

  T : PairTaken yard wide k occ a (length report)
  T = pair_taken yard wide k occ a (length report) pair_clean

  F : Fits yard
  F = fits yard far.first

  W : Lies wide
  W = T.second-lies.lies

  k_in : k ≤ slot_count wide
  k_in = omega (arith, T.second-lies.high, T.second-lies.slots)

  -- ---- the first yard

  abbrev L : ℕ → List ℕ
  L = later_image yard k occ a

  abbrev Y : List ℕ
  Y = yard_after yard L (slot_count yard)

  later : (P : List ℕ → Type 0) (t : ℕ) → P (part_of yard t) → P (slot_image yard occ a t) → P (L t)
  later P t p q = go (ltb k t)
    where
      go : (x : Bool) → P (cond x (slot_image yard occ a t) (part_of yard t))
      go true = q
      go false = p

  fit : ImagesFit yard L
  fit t l m = later (λ (x : List ℕ). length x ≡ length (part_of yard t)) t refl (slot-length yard occ a t)

  trains : TrainsStay yard L
  trains t l m = later (λ (x : List ℕ). le_at 2 x 32 ≡ le_at 2 (part_of yard t) 32) t refl (slot-train yard occ a t)

  rooms : (t : ℕ) → diverge_room (L t) ≡ diverge_room (part_of yard t)
  rooms t = later (λ (x : List ℕ). diverge_room x ≡ diverge_room (part_of yard t)) t refl (slot-room yard occ a t)

  slots_Y : slot_count Y ≡ slot_count yard
  slots_Y = slots-after yard F L fit (slot_count yard) (omega arith)

  part_Y : (t : ℕ) → 1 ≤ t → t ≤ slot_count yard → part_of Y t ≡ L t
  part_Y t l m = part-done yard F L fit (slot_count yard) (omega arith) t l m m

  length_Y : (t : ℕ) → 1 ≤ t → t ≤ slot_count yard → wide_length Y t ≡ wide_length yard t
  length_Y t l m =
      let p = part_Y t l m in
      omega (arith, length-is Y t, length-is yard t, ap (λ (x : List ℕ). length x) p, fit t l m, ap diverge_room p, rooms t)

  end_Y : (n : ℕ) → n ≤ slot_count yard → wide_end Y n ≡ wide_end yard n
  end_Y zero h = omega (arith, end_zero Y, end_zero yard, slots_Y)
  end_Y (suc n) h = omega (arith, end-suc Y n, end-suc yard n, end_Y n (omega arith), length_Y (suc n) (omega arith) h)

  size_Y : wide_size Y ≡ wide_size yard
  size_Y = ap (wide_end Y) slots_Y ∙ end_Y (slot_count yard) (omega arith)

  -- ---- the second yard

  abbrev J : ℕ → List ℕ
  J = slot_image wide occ a

  abbrev U : List ℕ
  U = yard_after wide J k

  header_U : Header Y U
  header_U =
      let w = left wide W J (images_fit wide occ a) k k_in in
      record {
        long = w.long ∙ (far.header.long ∙ sym size_Y);
        size = le_cong 4 U wide 0 (λ i p q. w.head i (omega arith)) ∙ (far.header.size ∙ sym size_Y);
        slots = slots-after wide W J (images_fit wide occ a) k k_in ∙ (far.header.slots ∙ sym slots_Y);
        offsets = λ n l.
            let m : n < slot_count yard = omega (arith, slots_Y) in
            same-begin wide W J (images_fit wide occ a) k w (suc n) (omega (arith, far.header.slots)) ∙ (far.header.offsets n m ∙ sym (end_Y n (omega arith)));
      }

  -- ---- the images

  within : (t : ℕ) → 1 ≤ t → t ≤ slot_count yard → (img : List ℕ) → pair_image yard wide k t ≡ img → TrainsWithin (largest_train img) occ moved
  within t l m img e =
      subst (λ (x : List ℕ). TrainsWithin (largest_train x) occ moved) e
      (record {
        entries = λ i. omega (arith, T.held i, image-held yard wide k occ a report pair_clean t l m);
        moved-low = omega (arith, T.moved, F.few, narrow-held (pair_image yard wide k t));
      })

  -- what a visit leaves of an accepted image is accepted
  left-low : (t : ℕ) → 1 ≤ t → t ≤ k → (fault_with Either no_refusal (part_of wide t) (length occ)).number ≡ 0 → (fault_with Either no_refusal (J t) (length occ)).number ≡ 0
  left-low t l m ok =
      let img = part_of wide t in
      let e = ap (λ (x : Bool). cond x img (part_of yard t)) (le-leb t k m) in
      slot_keeps wide occ a t (λ (x : List ℕ). (fault_with Either no_refusal x (length occ)).number ≡ 0) ok
      (left-accepted Either img occ blocking moved local limit (part_bytes wide W t l (omega (arith, k_in)) bw) (largest_train img) (omega arith) (within t l (omega (arith, T.second-lies.high)) img e) ok)

  left-high : (t : ℕ) → k < t → t ≤ slot_count yard → (image_fault (part_of yard t) (length occ)).number ≡ 0 → (image_fault (slot_image yard occ a t) (length occ)).number ≡ 0
  left-high t l m ok =
      let img = part_of yard t in
      let e = ap (λ (x : Bool). cond x (part_of wide t) img) (lt-leb t k l) in
      let thin = accepted-narrow img (length occ) ok in
      let ok' = ap (λ (f : Refusal). f.number) (widths-same img (length occ) thin) ∙ ok in
      ap (λ (f : Refusal). f.number) (sym (widths-same (slot_image yard occ a t) (length occ) (slot-width yard occ a t ∙ thin)))
      ∙ slot_keeps yard occ a t (λ (x : List ℕ). (fault_with Either no_refusal x (length occ)).number ≡ 0) ok'
      (left-accepted Either img occ blocking moved local limit (part_bytes yard F t (omega arith) m b) (largest_train img) (omega arith) (within t (omega arith) m img e) ok')

  carried_U : (n : ℕ) → n < k → CarriedImage (length occ) (suc n) (part_of U (suc n))
  carried_U n l =
      let p = part-done wide W J (images_fit wide occ a) k k_in (suc n) (omega arith) (omega (arith, k_in)) l in
      let c = far.carried n l in
      subst (CarriedImage (length occ) (suc n)) (sym p)
      (record {
        train = slot-train wide occ a (suc n) ∙ c.train;
        wide = slot-width wide occ a (suc n) ∙ c.wide;
        accepted = left-low (suc n) (omega arith) l c.accepted;
      })

  rest_U : (i : ℕ) → wide_end yard k ≤ i → get_or U i 0 ≡ 0
  rest_U i l =
      let m : k < slot_count yard = T.second-lies.high in
      behind wide W J (images_fit wide occ a) k k_in (slot_count wide - suc k) (suc k) (omega (arith, T.second-lies.slots, m)) (omega arith) i (omega (arith, far.header.offsets k m, l))
      ∙ far.rest i l

  far-after : CarriedFar (length occ) k Y U
  far-after =
      record {
        first = after-fits yard F L fit trains (slot_count yard) (omega arith) ∙ far.first;
        few = omega (arith, slots_Y, far.few);
        header = header_U;
        carried = carried_U;
        rest = λ i l. rest_U i (omega (arith, l, end_Y k far.few));
        narrow = λ t l m.
            let s : t ≤ slot_count yard = omega (arith, slots_Y, m) in
            let e = part_Y t (omega arith) s ∙ ap (λ (x : Bool). cond x (slot_image yard occ a t) (part_of yard t)) (lt-ltb k t l) in
            subst (λ (x : List ℕ). (image_fault x (length occ)).number ≡ 0) (sym e) (left-high t l s (far.narrow t l s));
      }

  pub still_far : StillFar (length occ) k (pair_done yard wide k occ a report)
  still_far =
      record {
        far = far-after;
        first-octets = after-bytes yard F L fit (λ t l m. later (λ (x : List ℕ). Bytes x) t (part_bytes yard F t l m b) (slot-bytes yard occ a t (part_bytes yard F t l m b))) b (slot_count yard) (omega arith);
        second-octets = after-bytes wide W J (images_fit wide occ a) (images-bytes wide occ a W bw) bw k k_in;
      }

pub half_check_keeps : HalfCheckKeeps
half_check_keeps k yard wide occ blocking moved begin local limit report b bw far =
    half_by yard wide k occ (half_args blocking moved begin local limit) report (λ (c : PairChecked). StillFar (length occ) k c)
    (record { far = far; first-octets = b; second-octets = bw })
    (λ e. still_far k yard wide occ blocking moved begin local limit report b bw far e)
