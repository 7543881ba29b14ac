-- A right index stays right: proofs of the statements of specs/StaysRight. Assumes nothing.
use mathlib.Core.Path.{◌≡◌, refl, sym, ap, ◌∙◌}
use mathlib.Core.Bool.{Bool, true, false, cond, not, and-false}
use mathlib.Core.List.{List, []}
use Prim.Native.Nat.{ℕ, zero, suc, ◌≤◌, ◌<◌}
use native.Mathlib.Omega.{arith}
use lib.Dec.{leb}
use lib.ListN.{length}
use borrow.Author.Tests.{not-false, leb-true}
use Rattle.link_rules.specs.Octets.{le_at}
use Rattle.link_rules.specs.Refusals.{or_else, refused_unless}
use Rattle.link_rules.specs.declared.refusal.Refusal.{Refusal}
use Rattle.disp_structs.proofs.ListedLaws.{listed-length, listed_at}
use Rattle.image_fault.specs.ImageFault.{arrived, is_accepted}
use Rattle.link_rules.proofs.TableLaws.{both}
use Rattle.yard_check.specs.Bytes.{same_bytes}
use Rattle.yard_check.specs.Yard.{slot_count, part_of, yard_fault, image_in}
use Rattle.yard_check.proofs.SeenLaws.{same_bytes_lem, lengths_differ}
use Rattle.yard_check.proofs.YardLaws.{image-low, image-high, image-is, Fits, part-long, part_length_lem}
use Rattle.link_index.specs.Bits.{number_of, bit_of}
use Rattle.link_index.specs.LinkIndex.{runs_over, index_of, has_bit, built, changed, refreshed, length_fits, build_fault, leaves, built_by, build_of}
use Rattle.link_index.specs.StaysRight.{BuiltBits, NoBitZero, ChangedAsBuilt, OthersStay, StaysRight}
use Rattle.link_index.proofs.BitLaws.{number_bit}
use Rattle.link_index.proofs.SlotLaws.{index_same}

-- ---- changed is of bytes

pub unchanged_image : (old new : List ℕ) (t : ℕ) → changed old new t ≡ false → image_in old t ≡ image_in new t
unfolding changed
unchanged_image old new t e = same_bytes_lem (image_in old t) (image_in new t) (not-false (same_bytes (image_in old t) (image_in new t)) e)

-- a slot that one of two yards past 14 has, and the other has not, has changed
module _ (old new : List ℕ) (t : ℕ) (l : 1 ≤ t) where
  pub gone_changed : Fits old → t ≤ slot_count old → slot_count new < t → changed old new t ≡ true
  unfolding changed
  gone_changed f h k =
      let long : length (image_in old t) ≡ length (part_of old t) = ap (λ (x : List ℕ). length x) (image-is old t l h) in
      let none : length (image_in new t) ≡ 0 = ap (λ (x : List ℕ). length x) (image-high new t k) in
      ap not (lengths_differ (image_in old t) (image_in new t) (λ (e : length (image_in old t) ≡ length (image_in new t)).
      omega (arith, e, long, none, part_length_lem old f t l h, part-long old f t l h)))

  pub come_changed : Fits new → slot_count old < t → t ≤ slot_count new → changed old new t ≡ true
  unfolding changed
  come_changed f k h =
      let long : length (image_in new t) ≡ length (part_of new t) = ap (λ (x : List ℕ). length x) (image-is new t l h) in
      let none : length (image_in old t) ≡ 0 = ap (λ (x : List ℕ). length x) (image-high old t k) in
      ap not (lengths_differ (image_in old t) (image_in new t) (λ (e : length (image_in old t) ≡ length (image_in new t)).
      omega (arith, e, long, none, part_length_lem new f t l h, part-long new f t l h)))

-- ---- bits of an index

index-bit : (n : ℕ) (bits : (l t : ℕ) → Bool) (l t : ℕ) → l < n → t < 64 → has_bit (index_of n bits) l t ≡ bits l t
index-bit n bits l t h k = ap (λ (x : ℕ). bit_of x t) (listed_at n (λ i. number_of (bits i) 64) l 0 h) ∙ number_bit (bits l) 64 t k

pub built-length : (yard : List ℕ) (links : ℕ) → length (built yard links) ≡ links
unfolding built
built-length yard links = listed-length links (λ l. number_of (λ t. runs_over (image_in yard t) links l) 64)

pub built-bits : BuiltBits
unfolding built
built-bits yard links l t h k = index-bit links (λ i s. runs_over (image_in yard s) links i) l t h k

-- no path, no Arrive
none_runs : (links l : ℕ) → runs_over [] links l ≡ false
unfolding runs_over arrived le_at
none_runs links l = and-false (is_accepted [] links)

pub no_bit_zero : NoBitZero
no_bit_zero yard links l h =
    built-bits yard links l 0 h (omega arith) ∙ (ap (λ (img : List ℕ). runs_over img links l) (image-low yard 0 (omega arith)) ∙ none_runs links l)

-- ---- build

by_none : (n : ℕ) (f : Refusal) (was fresh : List ℕ) → n ≡ 0 → leaves f fresh ≡ built_by n f was fresh
by_none zero f was fresh e = refl
by_none (suc n) f was fresh e = absurd (omega (arith, e))

by_some : (n : ℕ) (f : Refusal) (was fresh : List ℕ) → (n ≡ 0 → ⊥) → leaves f was ≡ built_by n f was fresh
by_some zero f was fresh h = absurd (h refl)
by_some (suc n) f was fresh h = refl

module _ (yard index : List ℕ) (f : Refusal) (e : f ≡ build_fault yard (length index)) where
  whole : built_by f.number f index (built yard (length index)) ≡ build_of yard index
  unfolding build_of
  whole = ap (λ (g : Refusal). built_by g.number g index (built yard (length index))) e

  pub build_refused : (f.number ≡ 0 → ⊥) → leaves f index ≡ build_of yard index
  build_refused h = by_some f.number f index (built yard (length index)) h ∙ whole

  pub build_fits : f.number ≡ 0 → leaves f (built yard (length index)) ≡ build_of yard index
  build_fits h = by_none f.number f index (built yard (length index)) h ∙ whole

-- what is not refused has at most 4,000 links
pub fault-low : (yard : List ℕ) (links : ℕ) → (build_fault yard links).number ≡ 0 → links ≤ 4000
unfolding build_fault
fault-low yard links h = go (length_fits links) refl
  where
    go : (b : Bool) → length_fits links ≡ b → links ≤ 4000
    go true e = leb-true links 4000 (both (leb 2 links) (leb links 4000) e).1
    go false e = let q : (build_fault yard links).number ≡ 25 = ap (λ (b : Bool). (or_else (refused_unless b 25) (yard_fault yard)).number) e in absurd (omega (arith, q, h))

-- ---- refresh

module _ (old new index : List ℕ) where
  abbrev refreshed_bit : (l t : ℕ) (b : Bool) → Bool
  refreshed_bit l t b = cond b (runs_over (image_in new t) (length index) l) (has_bit index l t)

  refreshed-bit : (l t : ℕ) → l < length index → t < 64 → has_bit (refreshed old new index) l t ≡ refreshed_bit l t (changed old new t)
  unfolding refreshed
  refreshed-bit l t h k = index-bit (length index) (λ i s. refreshed_bit i s (changed old new s)) l t h k

pub changed_as_built : ChangedAsBuilt
changed_as_built old new index l t h k e = refreshed-bit old new index l t h k ∙ (ap (refreshed_bit old new index l t) e ∙ sym (built-bits new (length index) l t h k))

pub others_stay : OthersStay
others_stay old new index l t h k e = refreshed-bit old new index l t h k ∙ ap (refreshed_bit old new index l t) e

pub stays_right : StaysRight
unfolding refreshed built
stays_right old new links = lengths ∙ bits
  where
    right : List ℕ
    right = built old links

    bit_in : (n l t : ℕ) (b : Bool) → Bool
    bit_in n l t b = cond b (runs_over (image_in new t) n l) (has_bit right l t)

    lengths : refreshed old new right ≡ index_of links (λ l t. bit_in links l t (changed old new t))
    lengths = ap (λ (n : ℕ). index_of n (λ l t. bit_in n l t (changed old new t))) (built-length old links)

    bit : (l t : ℕ) → l < links → t < 64 → (b : Bool) → changed old new t ≡ b → bit_in links l t b ≡ runs_over (image_in new t) links l
    bit l t h k true e = refl
    bit l t h k false e = built-bits old links l t h k ∙ ap (λ (img : List ℕ). runs_over img links l) (unchanged_image old new t e)

    bits : index_of links (λ l t. bit_in links l t (changed old new t)) ≡ built new links
    bits =
        index_same links (λ l t. bit_in links l t (changed old new t)) (λ l t. runs_over (image_in new t) links l)
        (λ l t h k. bit l t h k (changed old new t) refl)
