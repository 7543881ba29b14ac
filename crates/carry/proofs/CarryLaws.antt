-- A sitting carried step by step: the first step begins, each further one carries one slot more, after S steps no narrow image is left and the second
-- yard passes 14; each carried image is the first yard's written wide. Assumes nothing.
use mathlib.Core.Path.{◌≡◌, refl, sym, ap, subst, ◌∙◌}
use mathlib.Core.Logic.{⊎_elim, inl, inr}
use mathlib.Core.Bool.{Bool, true, false, cond}
use mathlib.Core.List.{List}
use Prim.Native.Nat.{ℕ, zero, suc, ◌+◌, ◌*◌, ◌-◌, ◌≤◌, ◌<◌}
use native.Mathlib.Nat.{eq-or-lt_of_le}
use native.Mathlib.Numerals.{add-one}
use native.Mathlib.Omega.{arith}
use lib.Dec.{ltb}
use lib.ListN.{length, get_or, take, drop, replicate, length-drop, length-replicate, get_or-replicate, get_or-eq_default}
use lib.Seq.{get_or-take, get_or-drop, ext_get_or, length-take-le}
use borrow.Author.Tests.{eqb-true, ltb-true, ltb-false, eq-eqb, ne_eqb, le-leb, lt-ltb}
use Rattle.link_rules.specs.Octets.{le_at, put_le}
use Rattle.link_rules.specs.Network.{all_below}
use Rattle.link_rules.specs.Refusals.{refused, refused_unless}
use Rattle.link_rules.specs.declared.refusal.Refusal.{Refusal}
use Rattle.link_rules.specs.Refusals as Stepped
use Rattle.link_rules.proofs.OctetLaws.{Bytes, length-put, get_d_put, le_put_other, le_put_same, le_cong}
use Rattle.disp_structs.specs.Train.{Train}
use Rattle.disp_structs.proofs.ListedLaws.{listed-length}
use Rattle.image.specs.Image.{est_count, diverge_room, is_wide, image_size, est_at}
use Rattle.image.specs.Codec.{decoded, encoded}
use Rattle.image.proofs.CodecLaws.{encoded-wide}
use Rattle.image.proofs.Parts.{encoded-length}
use Rattle.image.proofs.Writers.{side}
use Rattle.image_fault.specs.ImageFault.{image_fault}
use Rattle.image_fault.proofs.AcceptLaws.{or_else_none}
use Rattle.conversion.proofs.RoundTrips.{widened-held, widened-kept, widened_clean}
use Rattle.yard_check.specs.Yard.{yard_size, slot_count, part_begin, part_end, part_of, part_fits, yard_fits}
use Rattle.yard_check.specs.Check.{wide_count, how_many}
use Rattle.yard_check.proofs.PatchLaws.{le_moved, patched, patch_length, patch_low, patch_mid, patch_high}
use Rattle.yard_check.proofs.YardLaws.{Fits, fits, part-long, part-train, part_length_lem, part_le, part_bytes}
use Rattle.carry.specs.Carry.{wide_length, wide_end, wide_size, occupancies_fault, images_fault, offset_fits, second_header_fits, carried_fits, zero_from, begun_fits, second_fits, rest_fault, carry_fault, with_offsets, begun, widened, with_widened, Carried, carrying, carried, steps}
use Rattle.carry.specs.CarriedFar.{Header, CarriedImage, CarriedFar}
use Rattle.carry.proofs.LayoutLaws.{end_zero, end-suc, end_mono, length-is, wide-long, wide-few, passed, second-room, carry_slots, carried-refused, carried-done}

-- ---- the parts of a second yard with the header

module _ (yard wide : List ℕ) (h : Header yard wide) (n : ℕ) (l : n < slot_count yard) where
  abbrev A : ℕ
  A = wide_end yard n

  abbrev E : ℕ
  E = wide_end yard (suc n)

  pub end-at : part_end wide (suc n) ≡ E
  unfolding part_end
  end-at = rw h.slots (go (ltb (suc n) (slot_count yard)) refl)
    where
      go : (b : Bool) → ltb (suc n) (slot_count yard) ≡ b → cond b (part_begin wide (suc n + 1)) (length wide) ≡ wide_end yard (suc n)
      go true e = ap (part_begin wide) (add-one (suc n)) ∙ h.offsets (suc n) (ltb-true (suc n) (slot_count yard) e)
      go false e = let q : slot_count yard ≡ suc n = omega (arith, ltb-false (suc n) (slot_count yard) e) in h.long ∙ ap (wide_end yard) q

  part_cut : part_of wide (suc n) ≡ take (E - A) (drop A wide)
  unfolding part_of
  part_cut = rw (h.offsets n l, end-at)

  up : A ≤ E
  up = end_mono yard n (suc n) (omega arith)

  inside : E ≤ length wide
  inside = omega (arith, h.long, end_mono yard (suc n) (slot_count yard) l)

  pub cut_long : length (part_of wide (suc n)) ≡ E - A
  cut_long = ap (λ (x : List ℕ). length x) part_cut ∙ length-take-le (E - A) (drop A wide) (omega (arith, length-drop A wide, inside))

  pub cut_at : (i : ℕ) → i < E - A → get_or (part_of wide (suc n)) i 0 ≡ get_or wide (A + i) 0
  cut_at i k = ap (λ (x : List ℕ). get_or x i 0) part_cut ∙ (get_or-take (E - A) (drop A wide) i 0 k ∙ get_or-drop A wide i 0)

  -- a number of the part
  pub cut_le : (w k : ℕ) → k + w ≤ E - A → le_at w wide (A + k) ≡ le_at w (part_of wide (suc n)) k
  cut_le w k m =
      le_moved w wide (part_of wide (suc n)) (A + k) k (λ i j.
      let e : A + k + i ≡ A + (k + i) = omega arith in
      ap (λ (x : ℕ). get_or wide x 0) e ∙ sym (cut_at (k + i) (omega arith)))

-- ---- an image goes into part k + 1

module _ (yard wide : List ℕ) (h : Header yard wide) (k : ℕ) (l : k < slot_count yard) (img : List ℕ) (long : length img ≡ wide_length yard (suc k)) where
  abbrev A' : ℕ
  A' = wide_end yard k

  abbrev E' : ℕ
  E' = wide_end yard (suc k)

  up' : A' ≤ E'
  up' = end_mono yard k (suc k) (omega arith)

  in' : E' ≤ length wide
  in' = omega (arith, h.long, end_mono yard (suc k) (slot_count yard) l)

  fit' : length img ≡ E' - A'
  fit' = omega (arith, long, end-suc yard k)

  abbrev w1 : List ℕ
  w1 = patched A' E' img wide up' in' fit'

  low : (i : ℕ) → i < A' → get_or w1 i 0 ≡ get_or wide i 0
  low i m = patch_low A' E' img wide up' in' fit' i m

  head : (i : ℕ) → i < 8 + 4 * slot_count yard → get_or w1 i 0 ≡ get_or wide i 0
  head i m = low i (omega (arith, end_zero yard, end_mono yard 0 k (omega arith)))

  header-kept : Header yard w1
  header-kept =
      record {
        long = patch_length A' E' img wide up' in' fit' ∙ h.long;
        size = le_cong 4 w1 wide 0 (λ i a b. head i (omega arith)) ∙ h.size;
        slots = le_cong 4 w1 wide 4 (λ i a b. head i (omega arith)) ∙ h.slots;
        offsets = λ n m. le_cong 4 w1 wide (4 + 4 * suc n) (λ i a b. head i (omega arith)) ∙ h.offsets n m;
      }

  part-new : part_of w1 (suc k) ≡ img
  part-new =
      ext_get_or 0 (part_of w1 (suc k)) img (cut_long yard w1 header-kept k l ∙ sym fit') (λ i j.
      let q = cut_long yard w1 header-kept k l in
      let e : A' + i - A' ≡ i = omega arith in
      cut_at yard w1 header-kept k l i (omega (arith, q))
      ∙ (patch_mid A' E' img wide up' in' fit' (A' + i) (omega arith) (omega (arith, q)) ∙ ap (λ (x : ℕ). get_or img x 0) e))

  part-kept : (n : ℕ) → n < k → part_of w1 (suc n) ≡ part_of wide (suc n)
  part-kept n m =
      let s : n < slot_count yard = omega arith in
      let q = cut_long yard w1 header-kept n s in
      ext_get_or 0 (part_of w1 (suc n)) (part_of wide (suc n)) (q ∙ sym (cut_long yard wide h n s)) (λ i j.
      cut_at yard w1 header-kept n s i (omega (arith, q))
      ∙ (low (wide_end yard n + i) (omega (arith, q, end_mono yard n (suc n) (omega arith), end_mono yard (suc n) k m)) ∙ sym (cut_at yard wide h n s i (omega (arith, q)))))

  zero_kept : ((i : ℕ) → A' ≤ i → get_or wide i 0 ≡ 0) → (i : ℕ) → E' ≤ i → get_or w1 i 0 ≡ 0
  zero_kept z i m = patch_high A' E' img wide up' in' fit' i m ∙ z i (omega (arith, up'))

-- ---- an image written wide

module _ (img : List ℕ) (l : ℕ) (b : Bytes img) (ok : (image_fault img l).number ≡ 0) where
  abbrev wide_img : List ℕ
  wide_img = encoded true (decoded img)

  pub widened-long : length wide_img ≡ length img + 4 * diverge_room img
  unfolding encoded decoded
  widened-long =
      let n = image_size true (length (decoded img).est_times) (diverge_room img) in
      encoded-length true (decoded img) (widened-held img l b ok).room (replicate n 0)
      ∙ (length-replicate n 0
      ∙ (ap (λ (e : ℕ). image_size true e (diverge_room img)) (listed-length (est_count img) (est_at img)) ∙ sym (wide-long img l ok)))

  widened-train : le_at 2 wide_img 32 ≡ le_at 2 img 32
  unfolding decoded
  widened-train = ap (λ (t : Train). t.train_idx.0) (widened-kept img l b ok).0

  pub widened-image : CarriedImage l (le_at 2 img 32) wide_img
  widened-image = record { train = widened-train; wide = encoded-wide true (decoded img) (widened-held img l b ok); accepted = widened_clean img l b ok }

-- ---- one slot more

module _ (links k : ℕ) (yard wide : List ℕ) (b : Bytes yard) (far : CarriedFar links k yard wide) (l : k < slot_count yard) where
  f : Fits yard
  f = fits yard far.first

  abbrev old : List ℕ
  old = part_of yard (suc k)

  ok : (image_fault old links).number ≡ 0
  ok = far.narrow (suc k) (omega arith) l

  ob : Bytes old
  ob = part_bytes yard f (suc k) (omega arith) l b

  long : length (widened yard (suc k)) ≡ wide_length yard (suc k)
  long = widened-long old links ob ok ∙ sym (length-is yard (suc k))

  train : le_at 2 old 32 ≡ suc k
  train =
      let m = part-long yard f (suc k) (omega arith) l in
      sym (part_le yard f (suc k) (omega arith) l 2 32 (omega (arith, m))) ∙ part-train yard far.first (suc k) (omega arith) l

  -- the image of slot k + 1 is the first yard's written wide
  pub next-image : part_of (with_widened yard k wide) (suc k) ≡ widened yard (suc k)
  unfolding with_widened
  next-image = part-new yard wide far.header k l (widened yard (suc k)) long

  -- those of the slots before it stay
  pub kept-image : (n : ℕ) → n < k → part_of (with_widened yard k wide) (suc n) ≡ part_of wide (suc n)
  unfolding with_widened
  kept-image = part-kept yard wide far.header k l (widened yard (suc k)) long

  pub next-far : CarriedFar links (suc k) yard (with_widened yard k wide)
  unfolding with_widened
  next-far =
      let img = widened yard (suc k) in
      record {
        first = far.first;
        few = l;
        header = header-kept yard wide far.header k l img long;
        carried = λ n m.
            ⊎_elim
            (λ (e : suc n ≡ suc k). subst (λ (t : ℕ). CarriedImage links t (part_of (w1 yard wide far.header k l img long) t)) (sym e)
            (subst (CarriedImage links (suc k)) (sym (part-new yard wide far.header k l img long)) (subst (λ (t : ℕ). CarriedImage links t img) train (widened-image old links ob ok))))
            (λ (e : suc n < suc k). subst (CarriedImage links (suc n)) (sym (part-kept yard wide far.header k l img long n (omega arith))) (far.carried n (omega arith)))
            (eq-or-lt_of_le m);
        rest = zero_kept yard wide far.header k l img long far.rest;
        narrow = λ t m s. far.narrow t (omega arith) s;
      }

-- ---- the first step

module _ (links : ℕ) (yard : List ℕ) (b : Bytes yard) (ok : yard_fits yard ≡ true) (narrow : (t : ℕ) → 0 < t → t ≤ slot_count yard → (image_fault (part_of yard t) links).number ≡ 0) where
  abbrev S : ℕ
  S = slot_count yard

  -- the sums fit their u32
  end-few : (n : ℕ) → n ≤ S → wide_end yard n ≤ 260 + 41024 * n
  end-few zero l = omega (arith, end_zero yard, (fits yard ok).few)
  end-few (suc n) l =
      omega (arith, end-few n (omega arith), end-suc yard n, length-is yard (suc n), wide-few (part_of yard (suc n)) links (narrow (suc n) (omega arith) l))

  fits_u32 : (n : ℕ) → n ≤ S → wide_end yard n < 4294967296
  fits_u32 n l = omega (arith, end-few n l, (fits yard ok).few)

  room : 8 + 4 * S ≤ wide_size yard
  room = omega (arith, end_zero yard, end_mono yard 0 S (omega arith))

  abbrev z0 : List ℕ
  z0 = replicate (wide_size yard) 0

  abbrev z1 : List ℕ
  z1 = put_le 4 (wide_size yard) 0 z0

  abbrev z2 : List ℕ
  z2 = put_le 4 S 4 z1

  z0_long : length z0 ≡ wide_size yard
  z0_long = length-replicate (wide_size yard) 0

  z1_long : length z1 ≡ wide_size yard
  z1_long = length-put 4 (wide_size yard) 0 z0 ∙ z0_long

  z2_long : length z2 ≡ wide_size yard
  z2_long = length-put 4 S 4 z1 ∙ z1_long

  blank : (i : ℕ) → get_or z0 i 0 ≡ 0
  blank i = ⊎_elim (λ (l : i < wide_size yard). get_or-replicate (wide_size yard) i 0 0 l) (λ (l : wide_size yard ≤ i). get_or-eq_default z0 0 (omega (arith, z0_long))) (side i (wide_size yard))

  -- with the offsets of slots 1 to n
  record Written (n : ℕ) : Type 0 where
    written-long : length (with_offsets yard n z2) ≡ wide_size yard
    written-size : le_at 4 (with_offsets yard n z2) 0 ≡ wide_size yard
    written-slots : le_at 4 (with_offsets yard n z2) 4 ≡ S
    written-offsets : (m : ℕ) → m < n → le_at 4 (with_offsets yard n z2) (4 + 4 * suc m) ≡ wide_end yard m
    written-rest : (i : ℕ) → 8 + 4 * n ≤ i → get_or (with_offsets yard n z2) i 0 ≡ 0

  written : (n : ℕ) → n ≤ S → Written n
  unfolding with_offsets
  written zero l =
      record {
        written-long = z2_long;
        written-size = le_put_other 4 4 S 4 z1 0 (inl (omega arith)) ∙ le_put_same 4 (wide_size yard) 0 z0 (omega (arith, z0_long, room)) (fits_u32 S (omega arith));
        written-slots = le_put_same 4 S 4 z1 (omega (arith, z1_long, room)) (omega (arith, (fits yard ok).few));
        written-offsets = λ m h. absurd (omega arith);
        written-rest = λ i h. get_d_put 4 S 4 z1 i (inr (omega arith)) ∙ (get_d_put 4 (wide_size yard) 0 z0 i (inr (omega arith)) ∙ blank i);
      }
  written (suc n) l =
      let w = written n (omega arith) in
      let z = with_offsets yard n z2 in
      let x = wide_end yard n in
      let p = 4 + 4 * suc n in
      record {
        written-long = length-put 4 x p z ∙ w.written-long;
        written-size = le_put_other 4 4 x p z 0 (inl (omega arith)) ∙ w.written-size;
        written-slots = le_put_other 4 4 x p z 4 (inl (omega arith)) ∙ w.written-slots;
        written-offsets = λ m h.
            ⊎_elim
            (λ (e : suc m ≡ suc n).
            let q : m ≡ n = omega arith in
            subst (λ (j : ℕ). le_at 4 (put_le 4 x p z) (4 + 4 * suc j) ≡ wide_end yard j) (sym q) (le_put_same 4 x p z (omega (arith, w.written-long, room)) (fits_u32 n (omega arith))))
            (λ (e : suc m < suc n). le_put_other 4 4 x p z (4 + 4 * suc m) (inl (omega arith)) ∙ w.written-offsets m (omega arith))
            (eq-or-lt_of_le h);
        written-rest = λ i h. get_d_put 4 x p z i (inr (omega arith)) ∙ w.written-rest i (omega arith);
      }

  -- a second yard that is begun: no slot is carried
  pub begun-far : CarriedFar links 0 yard (begun yard)
  unfolding begun
  begun-far =
      let w = written S (omega arith) in
      record {
        first = ok;
        few = omega arith;
        header = record { long = w.written-long; size = w.written-size; slots = w.written-slots; offsets = w.written-offsets };
        carried = λ n l. absurd (omega arith);
        rest = λ i l. w.written-rest i (omega (arith, end_zero yard));
        narrow = narrow;
      }

-- ---- steps

module _ (yard occ wide wide_occ : List ℕ) (b : Bytes yard) where
  -- a first step that is not refused begins: one slot is carried
  pub first_step : (carry_fault yard (length occ) 0 wide (length wide_occ)).number ≡ 0
      → CarriedFar (length occ) 1 yard (carried yard occ 0 wide wide_occ).yard × ((carried yard occ 0 wide wide_occ).occupancy ≡ occ) × (part_of (carried yard occ 0 wide wide_occ).yard 1 ≡ widened yard 1)
  first_step h =
      let z = passed yard (length occ) 0 wide (length wide_occ) h in
      let r = second-room yard 0 wide z.second in
      let g = begun-far (length occ) yard b z.fits z.images in
      rw (sym (carried-done yard occ 0 wide wide_occ h)) (next-far (length occ) 0 yard (begun yard) b g r.0, refl, next-image (length occ) 0 yard (begun yard) b g r.0)

  -- a step from k that is not refused carries one slot more, and leaves the second occupancy
  pub next_step : (k : ℕ) → CarriedFar (length occ) (suc k) yard wide → (carry_fault yard (length occ) (suc k) wide (length wide_occ)).number ≡ 0
      → CarriedFar (length occ) (suc (suc k)) yard (carried yard occ (suc k) wide wide_occ).yard × ((carried yard occ (suc k) wide wide_occ).occupancy ≡ wide_occ)
      × (part_of (carried yard occ (suc k) wide wide_occ).yard (suc (suc k)) ≡ widened yard (suc (suc k)))
  next_step k g h =
      let z = passed yard (length occ) (suc k) wide (length wide_occ) h in
      let r = second-room yard (suc k) wide z.second in
      rw (sym (carried-done yard occ (suc k) wide wide_occ h)) (next-far (length occ) (suc k) yard wide b g r.0, refl, next-image (length occ) (suc k) yard wide b g r.0)

-- ---- all slots are carried

pub all_of : (test : ℕ → Bool) (n : ℕ) → ((i : ℕ) → i < n → test i ≡ true) → all_below n test ≡ true
unfolding all_below
all_of test zero h = refl
all_of test (suc n) h = rw (all_of test n (λ i l. h i (omega arith)), h n (omega arith))

all_many : (test : ℕ → Bool) (n : ℕ) → ((m : ℕ) → m < n → test (suc m) ≡ true) → how_many test n ≡ n
unfolding how_many
all_many test zero h = refl
all_many test (suc n) h = rw (h n (omega arith), all_many test n (λ m l. h m (omega arith))) (omega arith)

module _ (links : ℕ) (yard wide : List ℕ) (far : CarriedFar links (slot_count yard) yard wide) where
  g : Fits yard
  g = fits yard far.first

  part_room : (n : ℕ) → n < slot_count yard → wide_end yard n + 64 ≤ wide_end yard (suc n)
  part_room n l = omega (arith, end-suc yard n, length-is yard (suc n), part_length_lem yard g (suc n) (omega arith) l, part-long yard g (suc n) (omega arith) l)

  part-fits : (n : ℕ) → n < slot_count yard → part_fits wide (suc n) ≡ true
  unfolding part_fits
  part-fits n l =
      rw (far.header.offsets n l, end-at yard wide far.header n l, le-leb (wide_end yard n + 64) (wide_end yard (suc n)) (part_room n l))
      (eq-eqb (le_at 2 wide (wide_end yard n + 32)) (suc n) (cut_le yard wide far.header n l 2 32 (omega (arith, part_room n l)) ∙ (far.carried n l).train))

  -- the second yard passes 14
  pub last_fits : yard_fits wide ≡ true
  unfolding yard_fits
  last_fits =
      rw (
        eq-eqb (yard_size wide) (length wide) (far.header.size ∙ sym far.header.long),
        far.header.slots,
        le-leb 1 (slot_count yard) g.some,
        le-leb (slot_count yard) 63 g.few,
        eq-eqb (part_begin wide 1) (8 + 4 * slot_count yard) (far.header.offsets 0 g.some ∙ end_zero yard),
      )
      (all_of (λ i. part_fits wide (i + 1)) (slot_count yard) (λ i l. ap (part_fits wide) (add-one i) ∙ part-fits i l))

  -- and no narrow image is left
  pub last-wide : wide_count wide ≡ slot_count wide
  last-wide = ap (how_many (λ t. is_wide (part_of wide t))) far.header.slots ∙ (all_many (λ t. is_wide (part_of wide t)) (slot_count yard) (λ m l. (far.carried m l).wide) ∙ sym far.header.slots)

-- ---- what is refused

module _ (yard occ : List ℕ) (count : ℕ) (wide wide_occ : List ℕ) where
  -- a refused step changes nothing
  pub refused-leaves : ((carry_fault yard (length occ) count wide (length wide_occ)).number ≡ 0 → ⊥)
      → carried yard occ count wide wide_occ ≡ carrying (Stepped.Refused (carry_fault yard (length occ) count wide (length wide_occ))) wide wide_occ
  refused-leaves n = sym (carried-refused yard occ count wide wide_occ (carry_fault yard (length occ) count wide (length wide_occ)) refl n)

  slots_belied : (images_fault yard (length occ) (slot_count yard - count) count).number ≡ 0 → second_fits yard count wide ≡ false → rest_fault yard (length occ) count wide ≡ refused 24 0
  unfolding rest_fault
  slots_belied i s = or_else_none (images_fault yard (length occ) (slot_count yard - count) count) (refused_unless (second_fits yard count wide) 24) i ∙ rw s

  -- a second yard that belies the count is 24, behind the others
  pub belied : (occupancies_fault (length occ) (length wide_occ)).number ≡ 0 → yard_fits yard ≡ true → (images_fault yard (length occ) (slot_count yard - count) count).number ≡ 0
      → second_fits yard count wide ≡ false → carried yard occ count wide wide_occ ≡ carrying (Stepped.Refused (refused 24 0)) wide wide_occ
  belied l y i s =
      sym (carried-refused yard occ count wide wide_occ (refused 24 0) (sym (slots_belied i s) ∙ carry_slots yard (length occ) count wide (length wide_occ) l y) (λ q. omega (arith, q)))

-- ---- the second yard of a sitting that steps carried does not belie the count

module _ (links k : ℕ) (yard wide : List ℕ) (far : CarriedFar links (suc k) yard wide) (l : suc k < slot_count yard) where
  roomy : (n : ℕ) → n < slot_count yard → wide_end yard n + 64 ≤ wide_end yard (suc n)
  roomy n m =
      let y = fits yard far.first in
      omega (arith, end-suc yard n, length-is yard (suc n), part_length_lem yard y (suc n) (omega arith) m, part-long yard y (suc n) (omega arith) m)

  offset_true : (i : ℕ) → i < slot_count yard → offset_fits yard wide i ≡ true
  unfolding offset_fits
  offset_true i m = eq-eqb (part_begin wide (i + 1)) (wide_end yard i) (ap (part_begin wide) (add-one i) ∙ far.header.offsets i m)

  wide_byte : (i : ℕ) → i < suc k → get_or wide (wide_end yard i + 42) 0 ≡ 1
  unfolding le_at is_wide
  wide_byte i m =
      let s : i < slot_count yard = omega arith in
      let one = eqb-true (le_at 1 (part_of wide (suc i)) 42) 1 (far.carried i m).wide in
      omega (arith, cut_le yard wide far.header i s 1 42 (omega (arith, roomy i s)), one)

  carried_true : (i : ℕ) → i < suc k → carried_fits yard wide i ≡ true
  unfolding carried_fits
  carried_true i m =
      let s : i < slot_count yard = omega arith in
      let t = cut_le yard wide far.header i s 2 32 (omega (arith, roomy i s)) ∙ ((far.carried i m).train ∙ sym (add-one i)) in
      rw (eq-eqb (le_at 2 wide (wide_end yard i + 32)) (i + 1) t, eq-eqb (get_or wide (wide_end yard i + 42) 0) 1 (wide_byte i m))

  zero_true : zero_from (wide_end yard (suc k)) wide ≡ true
  unfolding zero_from
  zero_true = all_of _ (length wide - wide_end yard (suc k)) (λ i m. eq-eqb (get_or wide (wide_end yard (suc k) + i) 0) 0 (far.rest (wide_end yard (suc k) + i) (omega arith)))

  pub not_belied : second_fits yard (suc k) wide ≡ true
  unfolding second_fits begun_fits second_header_fits
  not_belied =
      rw (
        lt-ltb (suc k) (slot_count yard) l,
        eq-eqb (length wide) (wide_size yard) far.header.long,
        eq-eqb (yard_size wide) (wide_size yard) far.header.size,
        eq-eqb (slot_count wide) (slot_count yard) far.header.slots,
        all_of (offset_fits yard wide) (slot_count yard) offset_true,
        all_of (carried_fits yard wide) (suc k) carried_true,
        zero_true,
        ne_eqb (suc k) 0 (λ q. omega (arith, q)),
      )

-- ---- from the first step to the last

images-none : (yard : List ℕ) (l n t : ℕ) → ((u : ℕ) → t < u → u ≤ t + n → (image_fault (part_of yard u) l).number ≡ 0) → (images_fault yard l n t).number ≡ 0
unfolding images_fault
images-none yard l zero t h = refl
images-none yard l (suc n) t h =
    ap (λ (f : Refusal). f.number) (or_else_none (image_fault (part_of yard (t + 1)) l) (images_fault yard l n (t + 1)) (h (t + 1) (omega arith) (omega arith)))
    ∙ images-none yard l n (t + 1) (λ u a b. h u (omega arith) (omega arith))

-- a sitting that steps carried goes on: the next step is not refused
pub goes_on : (l k : ℕ) (yard wide : List ℕ) → CarriedFar l (suc k) yard wide → suc k < slot_count yard → (m : ℕ) → (occupancies_fault l m).number ≡ 0 → (carry_fault yard l (suc k) wide m).number ≡ 0
unfolding rest_fault
goes_on l k yard wide far h m e =
    let i = images-none yard l (slot_count yard - suc k) (suc k) (λ u a b. far.narrow u a (omega arith)) in
    ap (λ (f : Refusal). f.number)
    (sym (carry_slots yard l (suc k) wide m e far.first)
    ∙ (or_else_none (images_fault yard l (slot_count yard - suc k) (suc k)) (refused_unless (second_fits yard (suc k) wide) 24) i ∙ ap (λ (t : Bool). refused_unless t 24) (not_belied l k yard wide far h)))

module _ (yard occ wide wide_occ : List ℕ) (b : Bytes yard) (h : (carry_fault yard (length occ) 0 wide (length wide_occ)).number ≡ 0) where
  abbrev after : ℕ → Carried
  after n = steps yard occ wide wide_occ n

  equal : (occupancies_fault (length occ) (length occ)).number ≡ 0
  unfolding occupancies_fault
  equal =
      let l = (passed yard (length occ) 0 wide (length wide_occ) h).lengths in
      rw (le-leb 2 (length occ) l.0, le-leb (length occ) 4000 l.1, eq-eqb (length occ) (length occ) refl)

  -- where the first step is not refused, none is: each carries one slot more, and the trains stay as the first carried them
  pub step_by_step : (n : ℕ) → n < slot_count yard → CarriedFar (length occ) (suc n) yard (after n).yard × ((after n).occupancy ≡ occ) × ((after n).answer ≡ Stepped.Done)
  unfolding steps
  step_by_step zero l =
      let s = first_step yard occ wide wide_occ b h in
      (s.0, s.1, ap (λ (c : Carried). c.answer) (sym (carried-done yard occ 0 wide wide_occ h)))
  step_by_step (suc n) l =
      let p = step_by_step n (omega arith) in
      let e = goes_on (length occ) n yard (after n).yard p.0 l (length (after n).occupancy) (ap (λ (x : List ℕ). (occupancies_fault (length occ) (length x)).number) p.1 ∙ equal) in
      let s = next_step yard occ (after n).yard (after n).occupancy b n p.0 e in
      (s.0, s.1 ∙ p.1, ap (λ (c : Carried). c.answer) (sym (carried-done yard occ (suc n) (after n).yard (after n).occupancy e)))

  -- after S steps no narrow image is left, and the second yard passes 14
  pub carried-over : (n : ℕ) → suc n ≡ slot_count yard → (yard_fits (after n).yard ≡ true) × (wide_count (after n).yard ≡ slot_count (after n).yard)
  carried-over n e =
      let far = subst (λ (k : ℕ). CarriedFar (length occ) k yard (after n).yard) e (step_by_step n (omega (arith, e))).0 in
      (last_fits (length occ) yard (after n).yard far, last-wide (length occ) yard (after n).yard far)
