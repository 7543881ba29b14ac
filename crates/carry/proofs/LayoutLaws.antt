-- Where the parts of the second yard lie, and what the refusals of a step tell. Assumes nothing.
use mathlib.Core.Path.{◌≡◌, refl, sym, ap, ◌∙◌}
use mathlib.Core.Logic.{⊎_elim}
use mathlib.Core.Bool.{Bool, true, false, ◌&&◌}
use mathlib.Core.List.{List, ◌++◌}
use Prim.Native.Nat.{ℕ, zero, suc, ◌+◌, ◌*◌, ◌-◌, ◌≤◌, ◌<◌}
use native.Mathlib.Nat.{eq-or-lt_of_le}
use native.Mathlib.Omega.{arith}
use native.Mathlib.Numerals.{add-one}
use lib.Dec.{ltb, leb, eqb, lit<}
use lib.ListN.{length, take, drop, length-take, length-drop}
use lib.Seq.{length-take-le}
use borrow.Author.Tests.{eqb-true, leb-true, ltb-true, eq-eqb, ne_eqb}
use Rattle.link_rules.specs.Octets.{put_le}
use Rattle.link_rules.specs.Refusals.{no_refusal, refused_unless, or_else, raised}
use Rattle.link_rules.specs.declared.refusal.Refusal.{Refusal}
use Rattle.link_rules.specs.Refusals as Stepped
use Rattle.link_rules.proofs.OctetLaws.{Bytes, le_lt}
use Rattle.image.specs.Fields.{est_offset_field, path_offset_field, diverge_offset_field, diverge_words, read_field}
use Rattle.image.specs.Image.{size_of, est_count, diverge_room, is_wide, est_place, node_place, diverge_offset, image_size}
use Rattle.image.specs.Codec.{decoded, encoded}
use Rattle.image_fault.specs.ImageFault.{image_fault, length_fault, image_fits, counts_fit, parts_fit}
use Rattle.link_rules.proofs.TableLaws.{both}
use Rattle.image_fault.proofs.AcceptLaws.{or_else_clean, refused_clean, accepted, accepted-narrow, fits-counts}
use Rattle.yard_check.specs.Yard.{slot_count, part_begin, part_end, part_of, yard_fits, yard_fault}
use Rattle.yard_check.proofs.YardLaws.{fits}
use Rattle.image_fault.specs.declared.Widths.TheVariants.{Narrow}
use Rattle.ceiling.proofs.LinkLaws.{more_links}
use Rattle.conversion.specs.Conversion.{widen_fault, after_widen}
use Rattle.carry.specs.Carry.{wide_length, wide_end, wide_size, occupancies_fault, images_fault, second_fits, rest_fault, carry_fault, with_offsets, begun, begun_by, occupancy_by, carrying, with_widened, carried_by, carried_done, carried}

-- ---- the first yard

pub part-within : (yard : List ℕ) (t : ℕ) → length (part_of yard t) ≤ length yard
unfolding part_of
part-within yard t = omega (arith, length-take (part_end yard t - part_begin yard t) (drop (part_begin yard t) yard), length-drop (part_begin yard t) yard)

-- ---- where the parts end

pub end_zero : (yard : List ℕ) → wide_end yard 0 ≡ 8 + 4 * slot_count yard
unfolding wide_end
end_zero yard = refl

pub end-turn : (yard : List ℕ) (i : ℕ) → wide_end yard (i + 1) ≡ wide_end yard i + wide_length yard (i + 1)
unfolding wide_end
end-turn yard i = rw add-one

module _ (yard : List ℕ) where
  pub end-suc : (n : ℕ) → wide_end yard (suc n) ≡ wide_end yard n + wide_length yard (suc n)
  unfolding wide_end
  end-suc n = refl

  end-up : (n k : ℕ) → wide_end yard n ≤ wide_end yard (n + k)
  end-up n zero = let e : n + zero ≡ n = omega arith in omega (arith, ap (wide_end yard) e)
  end-up n (suc k) = let e : n + suc k ≡ suc (n + k) = omega arith in omega (arith, ap (wide_end yard) e, end-suc (n + k), end-up n k)

  pub end_mono : (n m : ℕ) → n ≤ m → wide_end yard n ≤ wide_end yard m
  end_mono n m h = let e : n + (m - n) ≡ m = omega arith in omega (arith, ap (wide_end yard) e, end-up n (m - n))

pub length-is : (yard : List ℕ) (t : ℕ) → wide_length yard t ≡ length (part_of yard t) + 4 * diverge_room (part_of yard t)
unfolding wide_length
length-is yard t = refl

-- ---- an accepted narrow image, written wide

-- it is as long as its records
pub narrow-long : (img : List ℕ) (l : ℕ) → (image_fault img l).number ≡ 0 → length img ≡ image_size false (est_count img) (diverge_room img)
unfolding image_fits parts_fit
narrow-long img l h =
    let a = accepted img l h in
    let p0 = (both (parts_fit img) _ (both (counts_fit img) _ a.fits).1).0 in
    let p1 = both (eqb (read_field est_offset_field img) (est_place 0)) _ p0 in
    let p2 = both (eqb (read_field path_offset_field img) (node_place (est_count img) 0)) _ p1.1 in
    let p3 = both (eqb (read_field diverge_offset_field img) (diverge_offset (est_count img))) _ p2.1 in
    let p4 = both (eqb (size_of img) (image_size (is_wide img) (est_count img) (diverge_room img))) (eqb (size_of img) (length img)) p3.1 in
    sym (eqb-true (size_of img) (length img) p4.1)
    ∙ (eqb-true (size_of img) (image_size (is_wide img) (est_count img) (diverge_room img)) p4.0
    ∙ ap (λ (w : Bool). image_size w (est_count img) (diverge_room img)) (accepted-narrow img l h))

-- four bytes more for each diverge record make the wide size
pub wide-long : (img : List ℕ) (l : ℕ) → (image_fault img l).number ≡ 0 → length img + 4 * diverge_room img ≡ image_size true (est_count img) (diverge_room img)
unfolding diverge_words
wide-long img l h = omega (arith, narrow-long img l h)

pub wide-few : (img : List ℕ) (l : ℕ) → (image_fault img l).number ≡ 0 → length img + 4 * diverge_room img ≤ 41024
unfolding diverge_words
wide-few img l h = let c = fits-counts img (accepted img l h).fits in omega (arith, narrow-long img l h, c.few-est, c.few-room)

-- going wide is not refused, and writes all of its output
widen_none : (img : List ℕ) (size : ℕ) → (image_fault img 4000).number ≡ 0 → size ≡ length img + 4 * diverge_room img → (widen_fault img size).number ≡ 0
unfolding widen_fault
widen_none img size ok e = rw (eq-eqb size (image_size true (est_count img) (diverge_room img)) (e ∙ wide-long img 4000 ok)) ok

pub widened_into : (img out : List ℕ) → (image_fault img 4000).number ≡ 0 → length out ≡ length img + 4 * diverge_room img → after_widen img out ≡ encoded true (decoded img)
widened_into img out ok e = rw (eq-eqb (widen_fault img (length out)).number 0 (widen_none img (length out) ok e))

-- the image of slot n + 1 written wide into its part
part_room : (yard wide : List ℕ) (n : ℕ) → n < slot_count yard → length wide ≡ wide_size yard
    → length (take (wide_end yard (suc n) - wide_end yard n) (drop (wide_end yard n) wide)) ≡ length (part_of yard (suc n)) + 4 * diverge_room (part_of yard (suc n))
part_room yard wide n h long =
    length-take-le (wide_end yard (suc n) - wide_end yard n) (drop (wide_end yard n) wide)
    (omega (arith, length-drop (wide_end yard n) wide, long, end_mono yard (suc n) (slot_count yard) h, end_mono yard n (suc n) (omega arith)))
    ∙ omega (arith, end-suc yard n, length-is yard (suc n))

pub into_part : (yard wide : List ℕ) (n : ℕ) (a e : ℕ) (img : List ℕ) → a ≡ wide_end yard n → e ≡ wide_end yard (suc n) → img ≡ part_of yard (suc n)
    → (image_fault (part_of yard (suc n)) 4000).number ≡ 0 → n < slot_count yard → length wide ≡ wide_size yard
    → take a wide ++ (after_widen img (take (e - a) (drop a wide)) ++ drop e wide) ≡ with_widened yard n wide
unfolding with_widened
into_part yard wide n a e img p q r ok h long =
    rw (p, q, r, widened_into (part_of yard (suc n)) (take (wide_end yard (suc n) - wide_end yard n) (drop (wide_end yard n) wide)) ok (part_room yard wide n h long))

-- ---- 2

-- the two tests of a length are one
pub lengths_by : (l m : ℕ) → raised (or_else (refused_unless (leb 2 l) 2) (or_else (refused_unless (leb l 4000) 2) (refused_unless (eqb m l) 2))) ≡ raised (occupancies_fault l m)
unfolding occupancies_fault
lengths_by l m = ap raised (go (leb 2 l) (leb l 4000) (refused_unless (eqb m l) 2))
  where
    go : (a b : Bool) (r : Refusal) → or_else (refused_unless a 2) (or_else (refused_unless b 2) r) ≡ or_else (refused_unless (a && b) 2) r
    go true b r = refl
    go false b r = refl

pub lengths_clean : (l m : ℕ) → (occupancies_fault l m).number ≡ 0 → (2 ≤ l) × (l ≤ 4000) × (m ≡ l)
unfolding occupancies_fault
lengths_clean l m h =
    let a = or_else_clean (length_fault l) (refused_unless (eqb m l) 2) h in
    let b = both (leb 2 l) (leb l 4000) (refused_clean _ 2 (lit< tt) a.0) in
    (leb-true 2 l b.0, leb-true l 4000 b.1, eqb-true m l (refused_clean (eqb m l) 2 (lit< tt) a.1))

-- ---- 6 to 9 of the images still to carry

module _ (yard : List ℕ) (l : ℕ) where
  abbrev f : ℕ → Refusal
  f t = image_fault (part_of yard (t + 1)) l

  pub images-end : (s t : ℕ) → s ≤ t → images_fault yard l (s - t) t ≡ no_refusal
  unfolding images_fault
  images-end s t h = let e : s - t ≡ 0 = omega arith in rw e

  images_more : (s t n : ℕ) → s - t ≡ suc n → images_fault yard l (s - t) t ≡ or_else (f t) (images_fault yard l (s - (t + 1)) (t + 1))
  unfolding images_fault
  images_more s t n e = let k : s - (t + 1) ≡ n = omega arith in rw (e, k)

  pub images-turn : (s t : ℕ) → t < s → images_fault yard l (s - t) t ≡ or_else (f t) (images_fault yard l (s - (t + 1)) (t + 1))
  images-turn s t h = images_more s t (s - t - 1) (omega arith)

  pub images_pass : (s t : ℕ) → t < s → (f t).number ≡ 0 → images_fault yard l (s - t) t ≡ images_fault yard l (s - (t + 1)) (t + 1)
  images_pass s t h e = images-turn s t h ∙ rw (eq-eqb (f t).number 0 e)

  pub images_stop : (s t : ℕ) → t < s → ((f t).number ≡ 0 → ⊥) → images_fault yard l (s - t) t ≡ f t
  images_stop s t h e = images-turn s t h ∙ rw (ne_eqb (f t).number 0 e)

  -- none: each of them is accepted
  pub images_clean : (n t : ℕ) → (images_fault yard l n t).number ≡ 0 → (u : ℕ) → t < u → u ≤ t + n → (image_fault (part_of yard u) l).number ≡ 0
  unfolding images_fault
  images_clean zero t h u a b = absurd (omega arith)
  images_clean (suc n) t h u a b =
      let k = or_else_clean (f t) (images_fault yard l n (t + 1)) h in
      ⊎_elim
      (λ (e : suc t ≡ u). let q : t + 1 ≡ u = omega arith in ap (λ (x : ℕ). (image_fault (part_of yard x) l).number) (sym q) ∙ k.0)
      (λ (m : suc t < u). images_clean n (t + 1) k.1 u (omega arith) (omega arith))
      (eq-or-lt_of_le a)

-- ---- what a step writes

pub offsets-turn : (yard wide : List ℕ) (i : ℕ) → with_offsets yard (i + 1) wide ≡ put_le 4 (wide_end yard i) (4 + 4 * suc i) (with_offsets yard i wide)
unfolding with_offsets
offsets-turn yard wide i = rw add-one

pub begun_first : (n : ℕ) (yard wide : List ℕ) → n ≡ 0 → begun yard ≡ begun_by n yard wide
begun_first zero yard wide h = refl
begun_first (suc n) yard wide h = absurd (omega arith)

pub begun-later : (n : ℕ) (yard wide : List ℕ) → (n ≡ 0 → ⊥) → wide ≡ begun_by n yard wide
begun-later zero yard wide h = absurd (h refl)
begun-later (suc n) yard wide h = refl

pub occupancy-first : (n : ℕ) (occ wide_occ : List ℕ) → n ≡ 0 → occ ≡ occupancy_by n occ wide_occ
occupancy-first zero occ wide_occ h = refl
occupancy-first (suc n) occ wide_occ h = absurd (omega arith)

pub occupancy-later : (n : ℕ) (occ wide_occ : List ℕ) → (n ≡ 0 → ⊥) → wide_occ ≡ occupancy_by n occ wide_occ
occupancy-later zero occ wide_occ h = absurd (h refl)
occupancy-later (suc n) occ wide_occ h = refl

-- ---- all refusals in order

pub or_first : (a b : Refusal) → (a.number ≡ 0 → ⊥) → or_else a b ≡ a
or_first a b h = rw (ne_eqb a.number 0 h)

or_next : (a b : Refusal) → a.number ≡ 0 → or_else a b ≡ b
or_next a b h = rw (eq-eqb a.number 0 h)

-- what 14 bounds
pub yard-few : (yard : List ℕ) → Bytes yard → yard_fits yard ≡ true → (length yard < 4294967296) × (slot_count yard ≤ 63)
yard-few yard b h = let f = fits yard h in (omega (arith, f.size, le_lt 4 yard 0 b), f.few)

module _ (yard : List ℕ) (l count : ℕ) (wide : List ℕ) (m : ℕ) where
  pub carry_slots : (occupancies_fault l m).number ≡ 0 → yard_fits yard ≡ true → rest_fault yard l count wide ≡ carry_fault yard l count wide m
  unfolding carry_fault
  carry_slots h k = sym (or_next (occupancies_fault l m) (or_else (yard_fault yard) (rest_fault yard l count wide)) h ∙ rw k)

  -- what a step that is not refused was asked
  pub record Passed : Type 0 where
    pub lengths : (2 ≤ l) × (l ≤ 4000) × (m ≡ l)
    pub fits : yard_fits yard ≡ true
    pub images : (t : ℕ) → count < t → t ≤ slot_count yard → (image_fault (part_of yard t) l).number ≡ 0
    pub second : second_fits yard count wide ≡ true

  pub passed : (carry_fault yard l count wide m).number ≡ 0 → Passed
  unfolding carry_fault rest_fault
  passed h =
      let a = or_else_clean (occupancies_fault l m) _ h in
      let b = or_else_clean (yard_fault yard) _ a.1 in
      let c = or_else_clean (images_fault yard l (slot_count yard - count) count) (refused_unless (second_fits yard count wide) 24) b.1 in
      record {
        lengths = lengths_clean l m a.0;
        fits = refused_clean (yard_fits yard) 14 (lit< tt) b.0;
        images = λ t n k. images_clean yard l (slot_count yard - count) count c.0 t n (omega arith);
        second = refused_clean (second_fits yard count wide) 24 (lit< tt) c.1;
      }

pub second-room : (yard : List ℕ) (count : ℕ) (wide : List ℕ) → second_fits yard count wide ≡ true → (count < slot_count yard) × (length wide ≡ wide_size yard)
unfolding second_fits
second-room yard count wide h =
    let a = both (ltb count (slot_count yard)) _ h in
    (ltb-true count (slot_count yard) a.0, eqb-true (length wide) (wide_size yard) (both (eqb (length wide) (wide_size yard)) _ a.1).0)

pub next-accepted : (yard : List ℕ) (l count : ℕ) (wide : List ℕ) (m : ℕ) → Passed yard l count wide m → count < slot_count yard → (image_fault (part_of yard (suc count)) 4000).number ≡ 0
next-accepted yard l count wide m z h = more_links Narrow (part_of yard (suc count)) l (z.images (suc count) (omega arith) h)

-- ---- the step

module _ (yard occ : List ℕ) (count : ℕ) (wide wide_occ : List ℕ) where
  abbrev F : Refusal
  F = carry_fault yard (length occ) count wide (length wide_occ)

  by_refused : (k : ℕ) → (k ≡ 0 → ⊥) → carrying (Stepped.Refused F) wide wide_occ ≡ carried_by k F (carried_done yard occ count wide wide_occ) wide wide_occ
  by_refused zero h = absurd (h refl)
  by_refused (suc k) h = refl

  -- a refused step leaves the second yard and occupancy
  pub carried-refused : (f : Refusal) → f ≡ F → (f.number ≡ 0 → ⊥) → carrying (Stepped.Refused f) wide wide_occ ≡ carried yard occ count wide wide_occ
  unfolding carried
  carried-refused f e n = ap (λ (x : Refusal). carrying (Stepped.Refused x) wide wide_occ) e ∙ by_refused F.number (λ q. n (ap (λ (x : Refusal). x.number) e ∙ q))

  pub carried-done : F.number ≡ 0 → carried_done yard occ count wide wide_occ ≡ carried yard occ count wide wide_occ
  unfolding carried
  carried-done z = ap (λ (k : ℕ). carried_by k F (carried_done yard occ count wide wide_occ) wide wide_occ) (sym z)
