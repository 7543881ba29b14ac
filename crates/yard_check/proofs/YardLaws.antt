-- A yard past 14: where its parts lie, and what stands in them once each slot got an image. Assumes nothing.
use mathlib.Core.Path.{◌≡◌, refl, sym, ap, subst, ◌∙◌}
use mathlib.Core.Logic.{⊎_elim}
use mathlib.Core.Bool.{Bool, true, false, cond}
use mathlib.Core.List.{List, []}
use Prim.Native.Nat.{ℕ, zero, suc, ◌+◌, ◌*◌, ◌-◌, ◌≤◌, ◌<◌}
use native.Mathlib.Nat.{eq-or-lt_of_le}
use native.Mathlib.Omega.{arith}
use lib.Dec.{ltb, leb, eqb}
use lib.ListN.{length, get_or, take, drop, length-drop, get_or-eq_default}
use lib.Seq.{get_or-take, get_or-drop, ext_get_or, length-take-le}
use borrow.Author.Tests.{eqb-true, leb-true, ltb-true, lt-ltb, le-ltb, le-leb, lt-leb}
use Rattle.link_rules.specs.Octets.{le_at}
use Rattle.link_rules.specs.Network.{all_below}
use Rattle.link_rules.proofs.OctetLaws.{Bytes, le_cong}
use Rattle.link_rules.proofs.TableLaws.{all-at, both}
use Rattle.image.proofs.Writers.{side}
use Rattle.link_rules.proofs.RangeLaws.{all_same}
use Rattle.yard_check.specs.Yard.{yard_size, slot_count, part_begin, part_end, part_of, image_in, with_part, part_fits, yard_fits}
use Rattle.yard_check.specs.Check.{yard_after}
use Rattle.yard_check.specs.Checks.{Lies}
use Rattle.yard_check.proofs.PatchLaws.{le_moved, patched, patch_length, patch_low, patch_mid, patch_high, patch_bytes}

-- ---- the image in a slot

pub image-low : (yard : List ℕ) (slot : ℕ) → slot < 1 → image_in yard slot ≡ []
unfolding image_in
image-low yard slot h = rw (lt-leb 1 slot h)

pub image-high : (yard : List ℕ) (slot : ℕ) → slot_count yard < slot → image_in yard slot ≡ []
unfolding image_in
image-high yard slot h = rw (lt-leb slot (slot_count yard) h, le-leb 1 slot (omega arith))

pub image-is : (yard : List ℕ) (slot : ℕ) → 1 ≤ slot → slot ≤ slot_count yard → image_in yard slot ≡ part_of yard slot
unfolding image_in
image-is yard slot h k = rw (le-leb 1 slot h, le-leb slot (slot_count yard) k)

-- ---- what 14 says

-- where the parts lie
abbrev pub Fits : List ℕ → Type 0
Fits yard = Lies yard

pub fits : (yard : List ℕ) → yard_fits yard ≡ true → Fits yard
unfolding yard_fits part_fits
fits yard h =
    let a = both (eqb (yard_size yard) (length yard)) _ h in
    let b = both (leb 1 (slot_count yard)) _ a.1 in
    let c = both (leb (slot_count yard) 63) _ b.1 in
    let d = both (eqb (part_begin yard 1) (8 + 4 * slot_count yard)) (all_below (slot_count yard) (λ i. part_fits yard (i + 1))) c.1 in
    record {
      size = eqb-true (yard_size yard) (length yard) a.0;
      some = leb-true 1 (slot_count yard) b.0;
      few = leb-true (slot_count yard) 63 c.0;
      first = eqb-true (part_begin yard 1) (8 + 4 * slot_count yard) d.0;
      part = λ t l m.
          let k : t - 1 + 1 ≡ t = omega arith in
          let p : part_fits yard t ≡ true = rw k at (all-at (λ i. part_fits yard (i + 1)) (slot_count yard) (t - 1) d.1 (omega arith)) in
          leb-true (part_begin yard t + 64) (part_end yard t) (both (leb (part_begin yard t + 64) (part_end yard t)) (eqb (le_at 2 yard (part_begin yard t + 32)) t) p).0;
    }

-- and that each has the train of its slot
pub part-train : (yard : List ℕ) → yard_fits yard ≡ true → (t : ℕ) → 1 ≤ t → t ≤ slot_count yard → le_at 2 yard (part_begin yard t + 32) ≡ t
unfolding yard_fits part_fits
part-train yard h t l m =
    let a = both (eqb (yard_size yard) (length yard)) _ h in
    let b = both (leb 1 (slot_count yard)) _ a.1 in
    let c = both (leb (slot_count yard) 63) _ b.1 in
    let d = both (eqb (part_begin yard 1) (8 + 4 * slot_count yard)) (all_below (slot_count yard) (λ i. part_fits yard (i + 1))) c.1 in
    let k : t - 1 + 1 ≡ t = omega arith in
    let p : part_fits yard t ≡ true = rw k at (all-at (λ i. part_fits yard (i + 1)) (slot_count yard) (t - 1) d.1 (omega arith)) in
    eqb-true (le_at 2 yard (part_begin yard t + 32)) t (both (leb (part_begin yard t + 64) (part_end yard t)) (eqb (le_at 2 yard (part_begin yard t + 32)) t) p).1

-- ---- where the parts lie

module _ (yard : List ℕ) (f : Fits yard) where
  abbrev S : ℕ
  S = slot_count yard

  pub part-long : (t : ℕ) → 1 ≤ t → t ≤ S → part_begin yard t + 64 ≤ part_end yard t
  part-long t l m = f.part t l m

  pub end-next : (t : ℕ) → t < S → part_end yard t ≡ part_begin yard (t + 1)
  unfolding part_end
  end-next t h = ap (λ (b : Bool). cond b (part_begin yard (t + 1)) (length yard)) (lt-ltb t S h)

  pub end-last : part_end yard S ≡ length yard
  unfolding part_end
  end-last = ap (λ (b : Bool). cond b (part_begin yard (S + 1)) (length yard)) (le-ltb S S (omega arith))

  ascending : (t k : ℕ) → 1 ≤ t → t + suc k ≤ S → part_end yard t ≤ part_begin yard (t + suc k)
  ascending t zero l m = let e : t + 1 ≡ t + suc zero = omega arith in omega (arith, end-next t (omega arith), ap (part_begin yard) e)
  ascending t (suc k) l m =
      let u = t + suc k in
      let e : u + 1 ≡ t + suc (suc k) = omega arith in
      omega (arith, ascending t k l (omega arith), part-long u (omega arith) (omega arith), end-next u (omega arith), ap (part_begin yard) e)

  pub apart : (t u : ℕ) → 1 ≤ t → t < u → u ≤ S → part_end yard t ≤ part_begin yard u
  apart t u l h m = let e : t + suc (u - suc t) ≡ u = omega arith in omega (arith, ascending t (u - suc t) l (omega arith), ap (part_begin yard) e)

  -- behind the offsets, and within the yard
  pub begin-low : (t : ℕ) → 1 ≤ t → t ≤ S → 8 + 4 * S ≤ part_begin yard t
  begin-low t l m =
      ⊎_elim
      (λ (e : 1 ≡ t). omega (arith, f.first, ap (part_begin yard) e))
      (λ (h : 1 < t). omega (arith, f.first, part-long 1 (omega arith) (omega arith), apart 1 t (omega arith) h m))
      (eq-or-lt_of_le l)

  pub end-high : (t : ℕ) → 1 ≤ t → t ≤ S → part_end yard t ≤ length yard
  end-high t l m =
      ⊎_elim
      (λ (e : t ≡ S). omega (arith, end-last, ap (part_end yard) e))
      (λ (h : t < S). omega (arith, end-last, apart t S l h (omega arith), part-long S (omega (arith, f.some)) (omega arith)))
      (eq-or-lt_of_le m)

  -- ---- what stands in a part

  module _ (t : ℕ) (l : 1 ≤ t) (m : t ≤ S) where
    pub part_length_lem : length (part_of yard t) ≡ part_end yard t - part_begin yard t
    unfolding part_of
    part_length_lem = length-take-le (part_end yard t - part_begin yard t) (drop (part_begin yard t) yard) (omega (arith, length-drop (part_begin yard t) yard, end-high t l m))

    pub part_at : (i : ℕ) → i < part_end yard t - part_begin yard t → get_or (part_of yard t) i 0 ≡ get_or yard (part_begin yard t + i) 0
    unfolding part_of
    part_at i h = get_or-take (part_end yard t - part_begin yard t) (drop (part_begin yard t) yard) i 0 h ∙ get_or-drop (part_begin yard t) yard i 0

    pub part_le : (w k : ℕ) → k + w ≤ part_end yard t - part_begin yard t → le_at w yard (part_begin yard t + k) ≡ le_at w (part_of yard t) k
    part_le w k h =
        le_moved w yard (part_of yard t) (part_begin yard t + k) k (λ i n.
        let e : part_begin yard t + k + i ≡ part_begin yard t + (k + i) = omega arith in
        ap (λ (x : ℕ). get_or yard x 0) e ∙ sym (part_at (k + i) (omega arith)))

    pub part_bytes : Bytes yard → Bytes (part_of yard t)
    part_bytes b i =
        ⊎_elim
        (λ (h : i < part_end yard t - part_begin yard t). omega (arith, part_at i h, b (part_begin yard t + i)))
        (λ (h : part_end yard t - part_begin yard t ≤ i). omega (arith, get_or-eq_default (part_of yard t) 0 (past i h)))
        (side i (part_end yard t - part_begin yard t))
      where
        past : (i : ℕ) → part_end yard t - part_begin yard t ≤ i → length (part_of yard t) ≤ i
        past i h = omega (arith, part_length_lem)

-- ---- the yard with the images of slots 1 to n

-- each image is as long as the part of its slot
abbrev pub ImagesFit : List ℕ → (ℕ → List ℕ) → Type 0
ImagesFit yard images = (t : ℕ) → 1 ≤ t → t ≤ slot_count yard → length (images t) ≡ length (part_of yard t)

-- and has the train of its slot
abbrev pub TrainsStay : List ℕ → (ℕ → List ℕ) → Type 0
TrainsStay yard images = (t : ℕ) → 1 ≤ t → t ≤ slot_count yard → le_at 2 (images t) 32 ≡ le_at 2 (part_of yard t) 32

module _ (yard : List ℕ) (f : Fits yard) (img : ℕ → List ℕ) (fit : ImagesFit yard img) where
  abbrev S' : ℕ
  S' = slot_count yard

  abbrev z : ℕ → List ℕ
  z n = yard_after yard img n

  pub record Left (n : ℕ) : Type 0 where
    pub long : length (z n) ≡ length yard
    pub head : (i : ℕ) → i < 8 + 4 * S' → get_or (z n) i 0 ≡ get_or yard i 0
    pub done : (t : ℕ) → 1 ≤ t → t ≤ n → (i : ℕ) → part_begin yard t ≤ i → i < part_end yard t → get_or (z n) i 0 ≡ get_or (img t) (i - part_begin yard t) 0
    pub later : (t : ℕ) → n < t → t ≤ S' → (i : ℕ) → part_begin yard t ≤ i → i < part_end yard t → get_or (z n) i 0 ≡ get_or yard i 0

  module _ (n : ℕ) (w : Left n) where
    same-slots : slot_count (z n) ≡ slot_count yard
    same-slots = le_cong 4 (z n) yard 4 (λ i l m. w.head i (omega arith))

    pub same-begin : (t : ℕ) → t ≤ S' → part_begin (z n) t ≡ part_begin yard t
    same-begin t h = le_cong 4 (z n) yard (4 + 4 * t) (λ i l m. w.head i (omega arith))

    pub same_end : (t : ℕ) → t ≤ S' → part_end (z n) t ≡ part_end yard t
    unfolding part_end
    same_end t h = rw (same-slots, w.long) (go (ltb t S') refl)
      where
        go : (b : Bool) → ltb t S' ≡ b → cond b (part_begin (z n) (t + 1)) (length yard) ≡ cond b (part_begin yard (t + 1)) (length yard)
        go true e = same-begin (t + 1) (omega (arith, ltb-true t S' e))
        go false e = refl

  image-long : (t : ℕ) → 1 ≤ t → t ≤ S' → length (img t) ≡ part_end yard t - part_begin yard t
  image-long t l m = fit t l m ∙ part_length_lem yard f t l m

  module _ (n : ℕ) (h : suc n ≤ S') (w : Left n) where
    abbrev b : ℕ
    b = part_begin yard (suc n)

    abbrev e : ℕ
    e = part_end yard (suc n)

    up : b ≤ e
    up = omega (arith, part-long yard f (suc n) (omega arith) h)

    inside : e ≤ length (z n)
    inside = omega (arith, end-high yard f (suc n) (omega arith) h, w.long)

    long : length (img (suc n)) ≡ e - b
    long = image-long (suc n) (omega arith) h

    next : z (suc n) ≡ patched b e (img (suc n)) (z n) up inside long
    unfolding yard_after with_part
    next = rw (same-begin n w (suc n) h, same_end n w (suc n) h)

    low : (i : ℕ) → i < b → get_or (z (suc n)) i 0 ≡ get_or (z n) i 0
    low i l = ap (λ (x : List ℕ). get_or x i 0) next ∙ patch_low b e (img (suc n)) (z n) up inside long i l

    mid : (i : ℕ) → b ≤ i → i < e → get_or (z (suc n)) i 0 ≡ get_or (img (suc n)) (i - b) 0
    mid i l m = ap (λ (x : List ℕ). get_or x i 0) next ∙ patch_mid b e (img (suc n)) (z n) up inside long i l m

    high : (i : ℕ) → e ≤ i → get_or (z (suc n)) i 0 ≡ get_or (z n) i 0
    high i l = ap (λ (x : List ℕ). get_or x i 0) next ∙ patch_high b e (img (suc n)) (z n) up inside long i l

    step_done : (t : ℕ) → 1 ≤ t → t ≤ suc n → (i : ℕ) → part_begin yard t ≤ i → i < part_end yard t → get_or (z (suc n)) i 0 ≡ get_or (img t) (i - part_begin yard t) 0
    step_done t l m i x y =
        ⊎_elim
        (λ (k : t ≡ suc n). subst This (sym k) mid i x y)
        (λ (k : t < suc n). low i (omega (arith, apart yard f t (suc n) l k h)) ∙ w.done t l (omega arith) i x y)
        (eq-or-lt_of_le m)
      where
        This : ℕ → Type 0
        This u = (j : ℕ) → part_begin yard u ≤ j → j < part_end yard u → get_or (z (suc n)) j 0 ≡ get_or (img u) (j - part_begin yard u) 0

    step : Left (suc n)
    step =
        record {
          long = ap (λ (x : List ℕ). length x) next ∙ (patch_length b e (img (suc n)) (z n) up inside long ∙ w.long);
          head = λ i l. low i (omega (arith, begin-low yard f (suc n) (omega arith) h)) ∙ w.head i l;
          done = step_done;
          later = λ t k m i x y. high i (omega (arith, apart yard f (suc n) t (omega arith) k m)) ∙ w.later t (omega arith) m i x y;
        }

  pub left : (n : ℕ) → n ≤ S' → Left n
  unfolding yard_after
  left zero h = record { long = refl; head = λ i l. refl; done = λ t l m. absurd (omega arith); later = λ t k m i x y. refl }
  left (suc n) h = step n h (left n (omega arith))

  pub slots-after : (n : ℕ) → n ≤ S' → slot_count (z n) ≡ slot_count yard
  slots-after n h = same-slots n (left n h)

  -- ---- the parts after slots 1 to n

  module _ (n : ℕ) (h : n ≤ S') (t : ℕ) (l : 1 ≤ t) (m : t ≤ S') where
    abbrev b' : ℕ
    b' = part_begin yard t

    abbrev e' : ℕ
    e' = part_end yard t

    w : Left n
    w = left n h

    cut : part_of (z n) t ≡ take (e' - b') (drop b' (z n))
    unfolding part_of
    cut = rw (same-begin n w t m, same_end n w t m)

    cut_long : length (part_of (z n) t) ≡ e' - b'
    cut_long = ap (λ (x : List ℕ). length x) cut ∙ length-take-le (e' - b') (drop b' (z n)) (omega (arith, length-drop b' (z n), end-high yard f t l m, w.long))

    cut_at : (i : ℕ) → i < e' - b' → get_or (part_of (z n) t) i 0 ≡ get_or (z n) (b' + i) 0
    cut_at i k = ap (λ (x : List ℕ). get_or x i 0) cut ∙ (get_or-take (e' - b') (drop b' (z n)) i 0 k ∙ get_or-drop b' (z n) i 0)

    -- a visited slot holds what its visit left, the others what they held
    pub part-done : t ≤ n → part_of (z n) t ≡ img t
    part-done k =
        ext_get_or 0 (part_of (z n) t) (img t) (cut_long ∙ sym (image-long t l m)) (λ i j.
        let x : b' + i - b' ≡ i = omega arith in
        cut_at i (omega (arith, cut_long)) ∙ (w.done t l k (b' + i) (omega arith) (omega (arith, cut_long)) ∙ ap (λ (y : ℕ). get_or (img t) y 0) x))

    pub part-later : n < t → part_of (z n) t ≡ part_of yard t
    part-later k =
        ext_get_or 0 (part_of (z n) t) (part_of yard t) (cut_long ∙ sym (part_length_lem yard f t l m)) (λ i j.
        cut_at i (omega (arith, cut_long)) ∙ (w.later t k m (b' + i) (omega arith) (omega (arith, cut_long)) ∙ sym (part_at yard f t l m i (omega (arith, cut_long)))))

    part-kept : TrainsStay yard img → le_at 2 (part_of (z n) t) 32 ≡ le_at 2 (part_of yard t) 32
    part-kept s = ⊎_elim (λ (k : n < t). ap (λ (x : List ℕ). le_at 2 x 32) (part-later k)) (λ (k : t ≤ n). ap (λ (x : List ℕ). le_at 2 x 32) (part-done k) ∙ s t l m) (side n t)

    train_read : le_at 2 (z n) (b' + 32) ≡ le_at 2 (part_of (z n) t) 32
    train_read =
        le_moved 2 (z n) (part_of (z n) t) (b' + 32) 32 (λ i k.
        let x : b' + 32 + i ≡ b' + (32 + i) = omega arith in
        ap (λ (y : ℕ). get_or (z n) y 0) x ∙ sym (cut_at (32 + i) (omega (arith, part-long yard f t l m))))

    part-fits : TrainsStay yard img → part_fits (z n) t ≡ part_fits yard t
    unfolding part_fits
    part-fits s =
        rw (same-begin n w t m, same_end n w t m, train_read, part-kept s, ← part_le yard f t l m 2 32 (omega (arith, part-long yard f t l m)))

  -- ---- the yard after slots 1 to n passes 14, and is of bytes

  pub after-fits : TrainsStay yard img → (n : ℕ) → n ≤ S' → yard_fits (z n) ≡ yard_fits yard
  unfolding yard_fits
  after-fits s n h =
      let w = left n h in
      let size : yard_size (z n) ≡ yard_size yard = le_cong 4 (z n) yard 0 (λ i l m. w.head i (omega arith)) in
      rw (size, w.long, same-slots n w, same-begin n w 1 f.some, all_same S' (λ i. part_fits (z n) (i + 1)) (λ i. part_fits yard (i + 1)) (λ i l. part-fits n h (i + 1) (omega arith) (omega arith) s))

  pub after-bytes : ((t : ℕ) → 1 ≤ t → t ≤ S' → Bytes (img t)) → Bytes yard → (n : ℕ) → n ≤ S' → Bytes (z n)
  unfolding yard_after
  after-bytes i c zero h = c
  after-bytes i c (suc n) h =
      let w = left n (omega arith) in
      rw (next n h w)
      (patch_bytes (b n h w) (e n h w) (img (suc n)) (z n) (up n h w) (inside n h w) (long n h w) (after-bytes i c n (omega arith)) (i (suc n) (omega arith) h))

  -- the parts lie as they lay
  pub after-lies : (n : ℕ) → n ≤ S' → Fits (z n)
  after-lies n h =
      let w = left n h in
      let k = slots-after n h in
      record {
        size = le_cong 4 (z n) yard 0 (λ i l m. w.head i (omega arith)) ∙ (f.size ∙ sym w.long);
        some = omega (arith, k, f.some);
        few = omega (arith, k, f.few);
        first = same-begin n w 1 f.some ∙ (f.first ∙ ap (λ (x : ℕ). 8 + 4 * x) (sym k));
        part = λ t l m.
            let m' : t ≤ S' = omega (arith, k) in
            omega (arith, same-begin n w t m', same_end n w t m', part-long yard f t l m');
      }
