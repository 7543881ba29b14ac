-- The slots that a check is seen to change are those whose image is another after it: room for the largest image holds all that change. Assumes nothing.
use mathlib.Core.Path.{◌≡◌, refl, sym, ap, ap₂, ◌∙◌}
use mathlib.Core.Logic.{◌⊎◌, inl, inr, ⊎_elim}
use mathlib.Core.Bool.{Bool, true, false, cond, not, ◌&&◌, and-false}
use mathlib.Core.List.{List}
use Prim.Native.Nat.{ℕ, zero, suc, ◌+◌, ◌^◌, ◌≤◌, ◌<◌}
use native.Mathlib.Omega.{arith}
use lib.Dec.{ltb, leb}
use lib.ListN.{length}
use lib.Pow.{pow_mono}
use borrow.Author.Tests.{le-leb, lt-leb}
use Rattle.link_rules.specs.Refusals.{no_refusal}
use Rattle.link_rules.proofs.OctetLaws.{Bytes}
use Rattle.image.proofs.Writers.{side}
use Rattle.image_fault.specs.ImageFault.{fault_with}
use Rattle.image_fault.proofs.AcceptLaws.{either-accepted}
use Rattle.update_free_path.proofs.DivergeLaws.{accepted-size}
use Rattle.yard_check.specs.Bytes.{same_bytes}
use Rattle.yard_check.specs.Yard.{slot_count, part_of, image_in}
use Rattle.yard_check.specs.Check as Check
use Rattle.yard_check.specs.Check.{CheckArgs, Checked, check_fault, checked_with, yard_after, slot_set, is_seen, changed_slots}
use Rattle.yard_check.proofs.SeenLaws.{same_self}
use Rattle.yard_check.proofs.YardLaws.{fits, slots-after, part_bytes, part-done}
use Rattle.yard_check.proofs.VisitLaws.{images_fit}
use Rattle.yard_check.proofs.CheckLaws.{by, taken, visit-refused}
use Rattle.link_index.specs.Bits.{bit_of, number_of}
use Rattle.link_index.specs.LinkIndex.{changed}
use Rattle.link_index.proofs.BitLaws.{number_bit, number_lt, bit-off}
use Rattle.yard_check.proofs.YardLaws.{image-low, image-high, image-is}

-- ---- the bits of a set of slots

set-number : (f : ℕ → Bool) (n : ℕ) → slot_set f n ≡ number_of (λ t. leb 1 t && f t) (suc n)
unfolding slot_set number_of
set-number f zero = ap (λ (b : Bool). 0 + cond (b && f 0) (2 ^ 0) 0) (sym (lt-leb 1 0 (omega arith)))
set-number f (suc n) =
    let e : cond (leb 1 (suc n) && f (suc n)) (2 ^ suc n) 0 ≡ cond (f (suc n)) (2 ^ suc n) 0 = ap (λ (b : Bool). cond (b && f (suc n)) (2 ^ suc n) 0) (le-leb 1 (suc n) (omega arith)) in
    omega (arith, set-number f n, e)

module _ (f : ℕ → Bool) (n t : ℕ) where
  pub set_has : 1 ≤ t → t ≤ n → bit_of (slot_set f n) t ≡ f t
  set_has l m =
      ap (λ (x : ℕ). bit_of x t) (set-number f n) ∙ (number_bit (λ s. leb 1 s && f s) (suc n) t (omega arith) ∙ ap (λ (b : Bool). b && f t) (le-leb 1 t l))

  pub set-low : t < 1 → bit_of (slot_set f n) t ≡ false
  set-low l =
      ap (λ (x : ℕ). bit_of x t) (set-number f n) ∙ (number_bit (λ s. leb 1 s && f s) (suc n) t (omega arith) ∙ ap (λ (b : Bool). b && f t) (lt-leb 1 t l))

  pub set-high : n < t → bit_of (slot_set f n) t ≡ false
  set-high l =
      let p : 2 ^ suc n ≤ 2 ^ t = pow_mono {i = suc n} {j = t} (omega arith) in
      ap (λ (x : ℕ). bit_of x t) (set-number f n) ∙ bit-off (number_of (λ s. leb 1 s && f s) (suc n)) t (omega (arith, p, number_lt (λ s. leb 1 s && f s) (suc n)))

-- ---- of two yards

pub changed_self : (yard : List ℕ) (t : ℕ) → changed yard yard t ≡ false
unfolding changed
changed_self yard t = ap not (same_self (image_in yard t))

pub none-changed : (yard yard' : List ℕ) (t : ℕ) → image_in yard t ≡ image_in yard' t → changed yard yard' t ≡ false
unfolding changed
none-changed yard yard' t e = ap (λ (x : List ℕ). not (same_bytes (image_in yard t) x)) (sym e) ∙ ap not (same_self (image_in yard t))

-- an image that changed finds room
module _ (yard yard' : List ℕ) (slots : slot_count yard' ≡ slot_count yard)
    (each : (t : ℕ) → 1 ≤ t → t ≤ slot_count yard → (part_of yard' t ≡ part_of yard t) ⊎ (length (part_of yard t) ≤ 41024)) where
  seen-is : (t : ℕ) → 1 ≤ t → t ≤ slot_count yard → is_seen 41024 (part_of yard t) (part_of yard' t) ≡ not (same_bytes (part_of yard t) (part_of yard' t))
  unfolding is_seen
  seen-is t l m =
      ⊎_elim
      (λ (e : part_of yard' t ≡ part_of yard t). let z : not (same_bytes (part_of yard t) (part_of yard' t)) ≡ false = ap (λ (x : List ℕ). not (same_bytes (part_of yard t) x)) e ∙ ap not (same_self (part_of yard t)) in
      ap (λ (b : Bool). leb (length (part_of yard t)) 41024 && b) z ∙ (and-false (leb (length (part_of yard t)) 41024) ∙ sym z))
      (λ (h : length (part_of yard t) ≤ 41024). ap (λ (b : Bool). b && not (same_bytes (part_of yard t) (part_of yard' t))) (le-leb (length (part_of yard t)) 41024 h))
      (each t l m)

  within : (t : ℕ) → 1 ≤ t → t ≤ slot_count yard → bit_of (changed_slots 41024 yard yard') t ≡ changed yard yard' t
  unfolding changed_slots changed
  within t l m =
      set_has (λ s. is_seen 41024 (part_of yard s) (part_of yard' s)) (slot_count yard) t l m
      ∙ (seen-is t l m ∙ sym (ap₂ (λ (x y : List ℕ). not (same_bytes x y)) (image-is yard t l m) (image-is yard' t l (omega (arith, slots)))))

  pub seen-bits : (t : ℕ) → bit_of (changed_slots 41024 yard yard') t ≡ changed yard yard' t
  unfolding changed_slots
  seen-bits t =
      ⊎_elim
      (λ (h : t < 1). set-low (λ s. is_seen 41024 (part_of yard s) (part_of yard' s)) (slot_count yard) t h ∙ sym (none-changed yard yard' t (image-low yard t h ∙ sym (image-low yard' t h))))
      (λ (l : 1 ≤ t). ⊎_elim
      (λ (h : slot_count yard < t). set-high (λ s. is_seen 41024 (part_of yard s) (part_of yard' s)) (slot_count yard) t h
      ∙ sym (none-changed yard yard' t (image-high yard t h ∙ sym (image-high yard' t (omega (arith, slots))))))
      (λ (m : t ≤ slot_count yard). within t l m)
      (side (slot_count yard) t))
      (side t 1)

-- ---- of a check

module _ (yard occ : List ℕ) (a : CheckArgs) (report : List ℕ) (bytes : Bytes yard) where
  abbrev left : List ℕ
  left = (checked_with yard occ a report).yard

  -- a visit keeps a refused image, and an accepted one finds room
  visit-few : (t : ℕ) (img : List ℕ) → Bytes img → ((Check.visited occ a t img).image ≡ img) ⊎ (length img ≤ 41024)
  visit-few t img b = go (fault_with a.widths no_refusal img (length occ)).number refl
    where
      go : (n : ℕ) → (fault_with a.widths no_refusal img (length occ)).number ≡ n → ((Check.visited occ a t img).image ≡ img) ⊎ (length img ≤ 41024)
      go zero e = inr (accepted-size img (length occ) (either-accepted a.widths img (length occ) e) b).1
      go (suc n) e = inl (ap (λ (v : Check.Visit). v.image) (visit-refused occ a t img n e))

  slot-few : (t : ℕ) (img : List ℕ) → Bytes img → (b : Bool) → ((cond b (Check.visit Check.unvisited_row img) (Check.visited occ a t img)).image ≡ img) ⊎ (length img ≤ 41024)
  slot-few t img m true = inl refl
  slot-few t img m false = visit-few t img m

  abbrev all : List ℕ
  all = yard_after yard (Check.slot_image yard occ a) (slot_count yard)

  each : (check_fault yard occ a (length report)).number ≡ 0 → (t : ℕ) → 1 ≤ t → t ≤ slot_count yard → (part_of all t ≡ part_of yard t) ⊎ (length (part_of yard t) ≤ 41024)
  unfolding Check.slot_visit
  each e t l m =
      let F = fits yard (taken yard occ a (length report) e).yard-fits in
      let d = part-done yard F (Check.slot_image yard occ a) (images_fit yard occ a) (slot_count yard) (omega arith) t l m m in
      ⊎_elim
      (λ (k : Check.slot_image yard occ a t ≡ part_of yard t). inl (d ∙ k))
      (λ (k : length (part_of yard t) ≤ 41024). inr k)
      (slot-few t (part_of yard t) (part_bytes yard F t l m bytes) (ltb t a.begin))

  pub check-bits : (t : ℕ) → bit_of (changed_slots 41024 yard left) t ≡ changed yard left t
  check-bits =
      by yard occ a report (λ (c : Checked). (t : ℕ) → bit_of (changed_slots 41024 yard c.yard) t ≡ changed yard c.yard t)
      (λ n e t. nothing t)
      (λ e. seen-bits yard all (slots-after yard (fits yard (taken yard occ a (length report) e).yard-fits) (Check.slot_image yard occ a) (images_fit yard occ a) (slot_count yard) (omega arith)) (each e))
    where
      nothing : (t : ℕ) → bit_of (changed_slots 41024 yard yard) t ≡ changed yard yard t
      nothing t = seen-bits yard yard refl (λ s l m. inl refl) t
