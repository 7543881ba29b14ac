-- The laws of the little-endian numbers, once over the width, and of octets put into a buffer. Assumes nothing.
use Rattle.std.proofs.Common.{◌≡◌, ℕ, zero, suc, ◌+◌, ◌*◌, ◌/◌, ◌%◌, ◌^◌, ◌<◌, ◌≤◌, Bool, cond, ◌⊎◌, List, ◌++◌, length, get_or, drop, set, sym, refl, ap, ◌∙◌, ap₂, inl, inr, append-nil, add-zero, mul_assoc, mul_comm, suc-add, one-mul, pow-suc, zero-add, div-one, arith, lit<, length-set, get_or-set_other, get_or-set_same, le-leb}
use native.Mathlib.Nat.{pow-zero, div-div-eq-div-mul}
use lib.Arith.{mod-mul}
use lib.ListN.{get_or-eq_default}
use lib.Seq.{set-get_or, set_out, drop-length}
use borrow.Author.Tests.{lt-leb}
use Rattle.link_rules.specs.Octets.{le_at, put_le, put_bytes, put_whole}

-- the list holds bytes
abbrev pub Bytes : List ℕ → Type 0
Bytes bs = (i : ℕ) → get_or bs i 0 < 256

pow_pos : (v : ℕ) → 0 < 256 ^ v
pow_pos zero = rw pow-zero (lit< tt)
pow_pos (suc v) = let h = pow_pos v in rw pow-suc (omega arith)

-- ---- past the end

pub le_past : (w : ℕ) (bs : List ℕ) (at : ℕ) → length bs ≤ at → le_at w bs at ≡ 0
unfolding le_at
le_past zero bs at h = refl
le_past (suc w) bs at h = rw (get_or-eq_default bs 0 h, le_past w bs (at + 1) (omega arith)) (omega arith)

pub put_past : (w x at : ℕ) (bs : List ℕ) → length bs ≤ at → put_le w x at bs ≡ bs
unfolding put_le
put_past zero x at bs h = refl
put_past (suc w) x at bs h = rw (set_out bs at (x % 256) h) (put_past w (x / 256) (at + 1) bs (omega arith))

-- ---- a number in two parts

pub le_add : (v w : ℕ) (bs : List ℕ) (at : ℕ) → le_at (v + w) bs at ≡ le_at v bs at + 256 ^ v * le_at w bs (at + v)
unfolding le_at
le_add zero w bs at = rw (zero-add, pow-zero, one-mul, add-zero, zero-add)
le_add (suc v) w bs at =
    let h = le_add v w bs (at + 1) in
    let e : at + 1 + v ≡ at + suc v = omega arith in
    rw (suc-add, pow-suc, h, e) (omega (arith, mul_assoc (256 ^ v) 256 (le_at w bs (at + suc v)), mul_comm (256 ^ v) (256 * le_at w bs (at + suc v)), mul_assoc 256 (le_at w bs (at + suc v)) (256 ^ v), mul_comm (256 ^ v) (le_at w bs (at + suc v))))

pub le_lt : (w : ℕ) (bs : List ℕ) (at : ℕ) → Bytes bs → le_at w bs at < 256 ^ w
unfolding le_at
le_lt zero bs at b = rw pow-zero (lit< tt)
le_lt (suc w) bs at b = let h = le_lt w bs (at + 1) b in rw pow-suc (omega (arith, b at))

-- ---- after a write

pub length-put : (w x at : ℕ) (bs : List ℕ) → length (put_le w x at bs) ≡ length bs
unfolding put_le
length-put zero x at bs = refl
length-put (suc w) x at bs = length-put w (x / 256) (at + 1) (set bs at (x % 256)) ∙ length-set bs at (x % 256)

-- a byte outside of the number stays
pub get_d_put : (w x at : ℕ) (bs : List ℕ) (i : ℕ) → (i < at) ⊎ (at + w ≤ i) → get_or (put_le w x at bs) i 0 ≡ get_or bs i 0
unfolding put_le
get_d_put zero x at bs i h = refl
get_d_put (suc w) x at bs i (inl h) =
    get_d_put w (x / 256) (at + 1) (set bs at (x % 256)) i (inl (omega arith)) ∙ get_or-set_other bs at i (x % 256) 0 (λ e. omega arith)
get_d_put (suc w) x at bs i (inr h) =
    get_d_put w (x / 256) (at + 1) (set bs at (x % 256)) i (inr (omega arith)) ∙ get_or-set_other bs at i (x % 256) 0 (λ e. omega arith)

pub le_put_other : (v w x at : ℕ) (bs : List ℕ) (j : ℕ) → (j + v ≤ at) ⊎ (at + w ≤ j) → le_at v (put_le w x at bs) j ≡ le_at v bs j
unfolding le_at
le_put_other zero w x at bs j h = refl
le_put_other (suc v) w x at bs j (inl h) =
    ap₂ (λ (a b : ℕ). a + 256 * b) (get_d_put w x at bs j (inl (omega arith))) (le_put_other v w x at bs (j + 1) (inl (omega arith)))
le_put_other (suc v) w x at bs j (inr h) =
    ap₂ (λ (a b : ℕ). a + 256 * b) (get_d_put w x at bs j (inr (omega arith))) (le_put_other v w x at bs (j + 1) (inr (omega arith)))

pub le_put_same : (w x at : ℕ) (bs : List ℕ) → at + w ≤ length bs → x < 256 ^ w → le_at w (put_le w x at bs) at ≡ x
unfolding le_at put_le
le_put_same zero x at bs h l = let k = rw pow-zero at l in omega arith
le_put_same (suc w) x at bs h l =
    let k = rw pow-suc at l in
    let low = get_d_put w (x / 256) (at + 1) (set bs at (x % 256)) at (inl (omega arith)) ∙ get_or-set_same bs at (x % 256) 0 (omega arith) in
    let high = le_put_same w (x / 256) (at + 1) (set bs at (x % 256)) (rw length-set (omega arith)) (omega arith) in
    rw (low, high) (omega arith)

-- what is read and written again changes nothing
pub put-le : (w at : ℕ) (bs : List ℕ) → Bytes bs → put_le w (le_at w bs at) at bs ≡ bs
unfolding le_at put_le
put-le zero at bs b = refl
put-le (suc w) at bs b =
    let l : (get_or bs at 0 + 256 * le_at w bs (at + 1)) % 256 ≡ get_or bs at 0 = omega (arith, b at) in
    let q : (get_or bs at 0 + 256 * le_at w bs (at + 1)) / 256 ≡ le_at w bs (at + 1) = omega (arith, b at) in
    rw (l, q, set-get_or) (put-le w (at + 1) bs b)

-- ---- a write in two parts

pub put_mod : (v x at : ℕ) (bs : List ℕ) → put_le v (x % 256 ^ v) at bs ≡ put_le v x at bs
unfolding put_le
put_mod zero x at bs = refl
put_mod (suc v) x at bs =
    let e : x % 256 ^ suc v ≡ (x / 256 % 256 ^ v) * 256 + x % 256 = rw pow-suc (mod-mul x (pow_pos v) (lit< tt)) in
    let l : x % 256 ^ suc v % 256 ≡ x % 256 = rw e (omega arith) in
    let q : x % 256 ^ suc v / 256 ≡ x / 256 % 256 ^ v = rw e (omega arith) in
    rw (l, q) (put_mod v (x / 256) (at + 1) (set bs at (x % 256)))

pub put-add : (v w x at : ℕ) (bs : List ℕ) → put_le (v + w) x at bs ≡ put_le w (x / 256 ^ v) (at + v) (put_le v x at bs)
unfolding put_le
put-add zero w x at bs = rw (zero-add, pow-zero, div-one, add-zero)
put-add (suc v) w x at bs =
    let e : at + 1 + v ≡ at + suc v = omega arith in
    let d : x / 256 / 256 ^ v ≡ x / 256 ^ suc v = div-div-eq-div-mul x 256 (256 ^ v) ∙ ap (λ (m : ℕ). x / m) (mul_comm 256 (256 ^ v) ∙ sym (pow-suc 256 v)) in
    rw (suc-add, put-add v w (x / 256) (at + 1), e, d)

-- a number is its bytes alone
pub le_cong : (v : ℕ) (bs cs : List ℕ) (j : ℕ) → ((i : ℕ) → j ≤ i → i < j + v → get_or bs i 0 ≡ get_or cs i 0) → le_at v bs j ≡ le_at v cs j
unfolding le_at
le_cong zero bs cs j h = refl
le_cong (suc v) bs cs j h =
    ap₂ (λ (a b : ℕ). a + 256 * b) (h j (omega arith) (omega arith)) (le_cong v bs cs (j + 1) (λ i l m. h i (omega arith) (omega arith)))

-- a number whose octets stand elsewhere too: xs has from j on what bs has from at on
le_moved : (w : ℕ) (xs bs : List ℕ) (j at : ℕ) → ((i : ℕ) → i < w → get_or xs (j + i) 0 ≡ get_or bs (at + i) 0) → le_at w xs j ≡ le_at w bs at
unfolding le_at
le_moved zero xs bs j at h = refl
le_moved (suc w) xs bs j at h =
    ap₂ (λ (a b : ℕ). a + 256 * b) first
    (le_moved w xs bs (j + 1) (at + 1) (λ i l. let e : j + 1 + i ≡ j + suc i = omega arith in let f : at + 1 + i ≡ at + suc i = omega arith in rw (e, f) (h (suc i) (omega arith))))
  where
    first : get_or xs j 0 ≡ get_or bs at 0
    first = rw (add-zero, add-zero) at (h 0 (omega arith))

-- the number of the w octets that bs has from at on
pub le_of : (w : ℕ) (xs bs : List ℕ) (at : ℕ) → ((i : ℕ) → i < w → get_or xs i 0 ≡ get_or bs (at + i) 0) → le_at w xs 0 ≡ le_at w bs at
le_of w xs bs at h = le_moved w xs bs 0 at (λ i l. rw zero-add (h i l))

-- ---- octets put into a buffer

module _ (k : ℕ) (xs r : List ℕ) where
  pub put-none : length r < k + length xs → put_whole k xs r ≡ r
  unfolding put_whole
  put-none h = ap (λ (b : Bool). cond b (put_bytes k xs r) r) (lt-leb (k + length xs) (length r) h)

  pub put_some : k + length xs ≤ length r → put_whole k xs r ≡ put_bytes k xs r
  unfolding put_whole
  put_some h = ap (λ (b : Bool). cond b (put_bytes k xs r) r) (le-leb (k + length xs) (length r) h)

-- all of a buffer
pub put_all : (xs r : List ℕ) → length xs ≡ length r → put_whole 0 xs r ≡ xs
unfolding put_bytes
put_all xs r e =
    let k : 0 + length xs ≡ length r = omega (arith, e) in
    put_some 0 xs r (omega (arith, e)) ∙ (ap (λ (n : ℕ). xs ++ drop n r) k ∙ (ap (λ (ys : List ℕ). xs ++ ys) (drop-length r) ∙ append-nil xs))
