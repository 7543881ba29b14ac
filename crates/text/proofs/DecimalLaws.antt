-- A number in decimal: one digit, or the digits of a tenth of it and one more; below 10 ^ w it has at most w. Assumes nothing.
use mathlib.Core.Path.{◌≡◌, refl, sym, ap, ◌∙◌}
use mathlib.Core.Bool.{Bool, true, false}
use mathlib.Core.List.{List, ◌++◌}
use Prim.Native.Nat.{ℕ, zero, suc, ◌+◌, ◌*◌, ◌/◌, ◌%◌, ◌^◌, ◌≤◌, ◌<◌}
use native.Mathlib.Nat.{div-lt_iff_lt-mul, pow-succ', mul_comm}
use native.Mathlib.Omega.{arith}
use lib.Dec.{ltb, lit<}
use lib.ListN.{length, length-append}
use borrow.Author.Tests.{ltb-true, ltb-false, lt-ltb, le-ltb}
use Rattle.text.specs.Ascii.{digit, decimal_from, decimal}

from-small : (k n : ℕ) → n < 10 → decimal_from (suc k) n ≡ digit n
unfolding decimal_from
from-small k n h = rw (lt-ltb n 10 h, decimal_from)

from_large : (k n : ℕ) → 10 ≤ n → decimal_from (suc k) n ≡ decimal_from k (n / 10) ++ digit (n % 10)
unfolding decimal_from
from_large k n h = rw (le-ltb n 10 h, decimal_from)

-- any first number above n gives the same digits
from-same : (k m n : ℕ) → n < k → n < m → decimal_from k n ≡ decimal_from m n
from-same zero m n h l = absurd (omega arith)
from-same (suc k) zero n h l = absurd (omega arith)
from-same (suc k) (suc m) n h l = go (ltb n 10) refl (λ (x : n / 10 < k) (y : n / 10 < m). from-same k m (n / 10) x y)
  where
    go : (t : Bool) → ltb n 10 ≡ t → (n / 10 < k → n / 10 < m → decimal_from k (n / 10) ≡ decimal_from m (n / 10)) → decimal_from (suc k) n ≡ decimal_from (suc m) n
    go true e r = from-small k n (ltb-true n 10 e) ∙ sym (from-small m n (ltb-true n 10 e))
    go false e r =
        let b = ltb-false n 10 e in
        from_large k n b ∙ (ap (λ (xs : List ℕ). xs ++ digit (n % 10)) (r (omega arith) (omega arith)) ∙ sym (from_large m n b))

pub decimal-small : (n : ℕ) → n < 10 → decimal n ≡ digit n
decimal-small n h = from-small n n h

pub decimal_large : (n : ℕ) → 10 ≤ n → decimal n ≡ decimal (n / 10) ++ digit (n % 10)
decimal_large n h = from_large n n h ∙ ap (λ (xs : List ℕ). xs ++ digit (n % 10)) (from-same n (suc (n / 10)) (n / 10) (omega arith) (omega arith))

-- ---- how many digits

pub decimal-one : (n : ℕ) → n < 10 → length (decimal n) ≡ 1
decimal-one n h = ap length (decimal-small n h)

pub decimal_longer : (n : ℕ) → 10 ≤ n → length (decimal n) ≡ length (decimal (n / 10)) + 1
decimal_longer n h = ap length (decimal_large n h) ∙ length-append (decimal (n / 10)) (digit (n % 10))

-- a number below 10 ^ w has at most w digits
pub decimal-length : (w n : ℕ) → n < 10 ^ suc w → length (decimal n) ≤ suc w
decimal-length zero n h = omega (arith, decimal-one n h)
decimal-length (suc w) n h = go (ltb n 10) refl (decimal-length w (n / 10))
  where
    go : (t : Bool) → ltb n 10 ≡ t → (n / 10 < 10 ^ suc w → length (decimal (n / 10)) ≤ suc w) → length (decimal n) ≤ suc (suc w)
    go true e r = omega (arith, decimal-one n (ltb-true n 10 e))
    go false e r =
        let k = decimal_longer n (ltb-false n 10 e) in
        let p : 10 ^ suc (suc w) ≡ 10 ^ suc w * 10 = pow-succ' 10 (suc w) ∙ mul_comm 10 (10 ^ suc w) in
        let q : n < 10 ^ suc w * 10 = omega arith in
        let l = r ((div-lt_iff_lt-mul (lit< tt)).1 q) in
        omega arith
