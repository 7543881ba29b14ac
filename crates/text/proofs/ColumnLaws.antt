-- Numbers in columns: as wide as the columns, and blanks before the number where it has room. Assumes nothing.
use mathlib.Core.Path.{◌≡◌, refl, sym, ap, ◌∙◌}
use mathlib.Core.Bool.{Bool, true, false}
use mathlib.Core.List.{List, [], ◌∷◌, ◌++◌, append_assoc}
use Prim.Native.Nat.{ℕ, zero, suc, ◌+◌, ◌-◌, ◌/◌, ◌%◌, ◌^◌, ◌≤◌, ◌<◌}
use native.Mathlib.Omega.{arith}
use lib.Dec.{ltb}
use lib.ListN.{length, length-append, length-replicate, replicate-append-replicate}
use borrow.Author.Tests.{ltb-true, ltb-false, lt-ltb, le-ltb}
use Rattle.text.specs.Ascii.{digit, decimal, signed}
use Rattle.text.specs.Columns.{blanks, lead_in, signed_in, right_in}
use Rattle.text.specs.Text.{Text, Put}
use Rattle.text.proofs.DecimalLaws.{decimal-small, decimal_large, decimal-one, decimal_longer, decimal-length}
use Rattle.text.proofs.TextLaws.{then, put_is, nothing}

-- ---- a number by its last digit, and what stands before it

pub signed-first : (w : ℕ) (minus : Bool) (n : ℕ) → n < 10 → signed_in (suc w) minus n ≡ lead_in w minus ++ digit n
unfolding signed_in
signed-first w minus n h = rw (lt-ltb n 10 h, signed_in)

pub signed_more : (w : ℕ) (minus : Bool) (n : ℕ) → 10 ≤ n → signed_in (suc w) minus n ≡ signed_in w minus (n / 10) ++ digit (n % 10)
unfolding signed_in
signed_more w minus n h = rw (le-ltb n 10 h, signed_in)

-- ---- exactly w columns

lead_length : (w : ℕ) (minus : Bool) → length (lead_in w minus) ≡ w
lead_length w false = length-replicate w 32
lead_length zero true = refl
lead_length (suc w) true = simp (length-append, length-replicate) (omega arith)

pub signed-length : (w : ℕ) (minus : Bool) (n : ℕ) → length (signed_in w minus n) ≡ w
unfolding signed_in
signed-length zero minus n = refl
signed-length (suc w) minus n = go (ltb n 10) refl (signed-length w minus (n / 10))
  where
    go : (t : Bool) → ltb n 10 ≡ t → length (signed_in w minus (n / 10)) ≡ w → length (signed_in (suc w) minus n) ≡ suc w
    go true e r = ap length (signed-first w minus n (ltb-true n 10 e)) ∙ (length-append (lead_in w minus) (digit n) ∙ omega (arith, lead_length w minus))
    go false e r = ap length (signed_more w minus n (ltb-false n 10 e)) ∙ (length-append (signed_in w minus (n / 10)) (digit (n % 10)) ∙ omega arith)

-- ---- where the columns have room: blanks, and then the number

-- a text to the right in w columns
abbrev pub padded : ℕ → List ℕ → List ℕ
padded w xs = blanks (w - length xs) ++ xs

-- the number by a tenth of it
signed_large : (minus : Bool) (n : ℕ) → 10 ≤ n → signed minus n ≡ signed minus (n / 10) ++ digit (n % 10)
signed_large true n h = ap (λ (xs : List ℕ). 45 ∷ xs) (decimal_large n h)
signed_large false n h = decimal_large n h

lead_is : (w : ℕ) (minus : Bool) (n : ℕ) → n < 10 → length (signed minus n) ≤ suc w → lead_in w minus ++ digit n ≡ padded (suc w) (signed minus n)
lead_is w false n s h = rw (decimal-small n s) (let e : w ≡ suc w - 1 = omega arith in ap (λ (k : ℕ). blanks k ++ digit n) e)
lead_is zero true n s h = let e : length (decimal n) ≡ 1 = ap length (decimal-small n s) in absurd (omega arith)
lead_is (suc w) true n s h =
    rw (decimal-small n s)
    (let e : w ≡ suc (suc w) - 2 = omega arith in
    append_assoc (blanks w) (45 ∷ []) (digit n) ∙ ap (λ (k : ℕ). blanks k ++ (45 ∷ digit n)) e)

some-digit : (minus : Bool) (n : ℕ) → 0 < length (signed minus n)
some-digit true n = omega arith
some-digit false n = go (ltb n 10) refl
  where
    go : (t : Bool) → ltb n 10 ≡ t → 0 < length (decimal n)
    go true e = omega (arith, decimal-one n (ltb-true n 10 e))
    go false e = omega (arith, decimal_longer n (ltb-false n 10 e))

signed_is : (w : ℕ) (minus : Bool) (n : ℕ) → length (signed minus n) ≤ w → signed_in w minus n ≡ padded w (signed minus n)
signed_is zero minus n h = let k : 0 < length (signed minus n) = some-digit minus n in absurd (omega arith)
signed_is (suc w) minus n h = go (ltb n 10) refl (signed_is w minus (n / 10))
  where
    go : (t : Bool) → ltb n 10 ≡ t
        → (length (signed minus (n / 10)) ≤ w → signed_in w minus (n / 10) ≡ padded w (signed minus (n / 10)))
        → signed_in (suc w) minus n ≡ padded (suc w) (signed minus n)
    go true e r = signed-first w minus n (ltb-true n 10 e) ∙ lead_is w minus n (ltb-true n 10 e) h
    go false e r =
        let b = ltb-false n 10 e in
        let front = signed minus (n / 10) in
        let last = digit (n % 10) in
        let l : length (signed minus n) ≡ length front + 1 = ap length (signed_large minus n b) ∙ length-append front last in
        let k : w - length front ≡ suc w - length (signed minus n) = omega arith in
        let room : length front ≤ w = omega arith in
        signed_more w minus n b
        ∙ (ap (λ (xs : List ℕ). xs ++ last) (r room)
        ∙ (append_assoc (blanks (w - length front)) front last
        ∙ (ap (λ (j : ℕ). blanks j ++ (front ++ last)) k
        ∙ ap (λ (xs : List ℕ). blanks (suc w - length (signed minus n)) ++ xs) (sym (signed_large minus n b)))))

-- so w columns hold it, and w + 1 columns hold it with its sign
pub right_is : (w n : ℕ) → n < 10 ^ suc w → right_in (suc w) n ≡ padded (suc w) (decimal n)
right_is w n h = signed_is (suc w) false n (decimal-length w n h)

pub with_sign : (w : ℕ) (minus : Bool) (n : ℕ) → n < 10 ^ suc w → signed_in (suc (suc w)) minus n ≡ padded (suc (suc w)) (signed minus n)
with_sign w minus n h = signed_is (suc (suc w)) minus n (go minus)
  where
    go : (b : Bool) → length (signed b n) ≤ suc (suc w)
    go true = omega (arith, decimal-length w n h)
    go false = omega (arith, decimal-length w n h)

-- ---- as they are put into a text

-- one blank more
blanks-last : (w : ℕ) → blanks (w + 1) ≡ blanks w ++ (32 ∷ [])
blanks-last w = sym (replicate-append-replicate w 1 32)

pub blank_turn : (i : ℕ) {t u v : Text} → Put (blanks i) t u → Put (32 ∷ []) u v → Put (blanks (i + 1)) t v
blank_turn i p q = put_is (blanks-last i) (then p q)

pub lead_none : (w : ℕ) {t : Text} → w ≡ 0 → Put (lead_in w true) t t
lead_none w e = put_is (ap (λ (k : ℕ). lead_in k true) e) nothing

pub lead_minus : (w : ℕ) {t u v : Text} → (w ≡ 0 → ⊥) → Put (blanks (w - 1)) t u → Put (45 ∷ []) u v → Put (lead_in w true) t v
lead_minus zero h p q = absurd (h refl)
lead_minus (suc w) h p q = let e : suc w - 1 ≡ w = omega arith in then (put_is (ap blanks (sym e)) p) q

pub signed-none : (w : ℕ) (minus : Bool) (n : ℕ) {t : Text} → w ≡ 0 → Put (signed_in w minus n) t t
unfolding signed_in
signed-none w minus n e = put_is (ap (λ (k : ℕ). signed_in k minus n) e) nothing

pub put_first : (w : ℕ) (minus : Bool) (n : ℕ) {t u v : Text} → (w ≡ 0 → ⊥) → n < 10 → Put (lead_in (w - 1) minus) t u → Put (digit n) u v → Put (signed_in w minus n) t v
put_first zero minus n z h p q = absurd (z refl)
put_first (suc w) minus n z h p q = let e : suc w - 1 ≡ w = omega arith in put_is (signed-first w minus n h) (then (put_is (ap (λ (k : ℕ). lead_in k minus) (sym e)) p) q)

pub put_more : (w : ℕ) (minus : Bool) (n : ℕ) {t u v : Text} → (w ≡ 0 → ⊥) → 10 ≤ n → Put (signed_in (w - 1) minus (n / 10)) t u → Put (digit (n % 10)) u v → Put (signed_in w minus n) t v
put_more zero minus n z h p q = absurd (z refl)
put_more (suc w) minus n z h p q =
    let e : suc w - 1 ≡ w = omega arith in
    put_is (signed_more w minus n h) (then (put_is (ap (λ (k : ℕ). signed_in k minus (n / 10)) (sym e)) p) q)
