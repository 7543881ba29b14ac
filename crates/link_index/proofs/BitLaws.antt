-- Laws of numbers as their bits. Assumes nothing.
use mathlib.Core.Path.{◌≡◌, refl, sym, ap, ap₂, ◌∙◌}
use mathlib.Core.Logic.{⊎_elim}
use mathlib.Core.Bool.{Bool, true, false, cond}
use Prim.Native.Nat.{ℕ, zero, suc, ◌+◌, ◌-◌, ◌*◌, ◌/◌, ◌%◌, ◌^◌, ◌≤◌, ◌<◌}
use native.Mathlib.Nat.{add-div_right, add-mul-div_right, div-eq_of_lt, mod-one, mod-eq_of_lt, two-pow-succ, eq-or-lt_of_le, one-le-pow}
use native.Mathlib.Numerals.{add-one}
use native.Mathlib.Omega.{arith}
use lib.Arith.{mod-mul}
use lib.Dec.{ltb, eqb}
use lib.Pow.{pow-add}
use borrow.Author.Tests.{ltb-true, ltb-false, eq-eqb, ne_eqb, eqb-true, eqb-false}
use Rattle.link_index.specs.Bits.{bit_of, number_of, with_bit}

power_some : (t : ℕ) → 0 < 2 ^ t
power_some t = one-le-pow t 2 (omega arith)

-- ---- one bit

module _ (n t : ℕ) where
  pub bit_is : n / 2 ^ t % 2 ≡ 1 → bit_of n t ≡ true
  unfolding bit_of
  bit_is e = eq-eqb (n / 2 ^ t % 2) 1 e

  pub bit_not : (n / 2 ^ t % 2 ≡ 1 → ⊥) → bit_of n t ≡ false
  unfolding bit_of
  bit_not e = ne_eqb (n / 2 ^ t % 2) 1 e

  bit-one : bit_of n t ≡ true → n / 2 ^ t % 2 ≡ 1
  unfolding bit_of
  bit-one e = eqb-true (n / 2 ^ t % 2) 1 e

  bit-none : bit_of n t ≡ false → n / 2 ^ t % 2 ≡ 1 → ⊥
  unfolding bit_of
  bit-none e = eqb-false (n / 2 ^ t % 2) 1 e

  -- a number with bit t has its power
  pub power_in : bit_of n t ≡ true → 2 ^ t ≤ n
  power_in o = go (ltb n (2 ^ t)) refl
    where
      go : (u : Bool) → ltb n (2 ^ t) ≡ u → 2 ^ t ≤ n
      go false e = ltb-false n (2 ^ t) e
      go true e = let q : n / 2 ^ t ≡ 0 = div-eq_of_lt (ltb-true n (2 ^ t) e) in absurd (omega (arith, q, bit-one o))

  pub with_on : (b : Bool) → bit_of n t ≡ true → with_bit n t b ≡ cond b n (n - 2 ^ t)
  unfolding with_bit
  with_on b o = rw o

  pub with_off : (b : Bool) → bit_of n t ≡ false → with_bit n t b ≡ cond b (n + 2 ^ t) n
  unfolding with_bit
  with_off b o = rw o

bit_added : (n t : ℕ) → bit_of n t ≡ false → bit_of (n + 2 ^ t) t ≡ true
bit_added n t o =
    let q : (n + 2 ^ t) / 2 ^ t ≡ n / 2 ^ t + 1 = add-div_right n (power_some t) in
    let none : n / 2 ^ t % 2 ≡ 0 = ⊎_elim (λ (e : n / 2 ^ t % 2 ≡ 1). absurd (bit-none n t o e)) (λ (l : n / 2 ^ t % 2 < 1). omega arith) (eq-or-lt_of_le (omega arith)) in
    bit_is (n + 2 ^ t) t (omega (arith, q, none))

bit-taken : (n t : ℕ) → bit_of n t ≡ true → bit_of (n - 2 ^ t) t ≡ false
bit-taken n t o =
    let m = n - 2 ^ t in
    let e : n ≡ m + 2 ^ t = omega (arith, power_in n t o) in
    let q : (m + 2 ^ t) / 2 ^ t ≡ m / 2 ^ t + 1 = add-div_right m (power_some t) in
    let r : n / 2 ^ t ≡ m / 2 ^ t + 1 = ap (λ (x : ℕ). x / 2 ^ t) e ∙ q in
    bit_not m t (λ (z : m / 2 ^ t % 2 ≡ 1). omega (arith, r, z, bit-one n t o))

-- the later of two writes of one bit counts
pub with_twice : (n t : ℕ) (a b : Bool) → with_bit (with_bit n t a) t b ≡ with_bit n t b
with_twice n t a b = go (bit_of n t) refl a b
  where
    go : (u : Bool) → bit_of n t ≡ u → (a b : Bool) → with_bit (with_bit n t a) t b ≡ with_bit n t b
    go true o true b = ap (λ (x : ℕ). with_bit x t b) (with_on n t true o)
    go true o false true =
        ap (λ (x : ℕ). with_bit x t true) (with_on n t false o) ∙ with_off (n - 2 ^ t) t true (bit-taken n t o)
        ∙ (omega (arith, power_in n t o) ∙ sym (with_on n t true o))
    go true o false false =
        ap (λ (x : ℕ). with_bit x t false) (with_on n t false o) ∙ with_off (n - 2 ^ t) t false (bit-taken n t o) ∙ sym (with_on n t false o)
    go false o false b = ap (λ (x : ℕ). with_bit x t b) (with_off n t false o)
    go false o true true = ap (λ (x : ℕ). with_bit x t true) (with_off n t true o) ∙ with_on (n + 2 ^ t) t true (bit_added n t o) ∙ sym (with_off n t true o)
    go false o true false =
        let e : n + 2 ^ t - 2 ^ t ≡ n = omega arith in
        ap (λ (x : ℕ). with_bit x t false) (with_off n t true o) ∙ with_on (n + 2 ^ t) t false (bit_added n t o) ∙ (e ∙ sym (with_off n t false o))

-- ---- the number of its bits

pub number_same : (f g : ℕ → Bool) (k : ℕ) → ((s : ℕ) → s < k → f s ≡ g s) → number_of f k ≡ number_of g k
unfolding number_of
number_same f g zero h = refl
number_same f g (suc k) h = ap₂ (λ (x : ℕ) (b : Bool). x + cond b (2 ^ k) 0) (number_same f g k (λ s l. h s (omega arith))) (h k (omega arith))

cond-few : (b : Bool) (p : ℕ) → cond b p 0 ≤ p
cond-few true p = omega arith
cond-few false p = omega arith

pub number_lt : (f : ℕ → Bool) (k : ℕ) → number_of f k < 2 ^ k
unfolding number_of
number_lt f zero = omega arith
number_lt f (suc k) = omega (arith, number_lt f k, cond-few (f k) (2 ^ k), two-pow-succ k)

digit : (p q : ℕ) → q < 2 → cond (eqb q 1) p 0 ≡ q * p
digit p q l = ⊎_elim (λ (e : q ≡ 1). rw e (omega arith)) (λ (m : q < 1). let e : q ≡ 0 = omega arith in rw e (omega arith)) (eq-or-lt_of_le (omega arith))

number_mod : (n k : ℕ) → number_of (bit_of n) k ≡ n % 2 ^ k
unfolding number_of bit_of
number_mod n zero = sym (mod-one n)
number_mod n (suc k) =
    let d : cond (bit_of n k) (2 ^ k) 0 ≡ n / 2 ^ k % 2 * 2 ^ k = digit (2 ^ k) (n / 2 ^ k % 2) (omega arith) in
    let m : n % (2 * 2 ^ k) ≡ n / 2 ^ k % 2 * 2 ^ k + n % 2 ^ k = mod-mul n (omega arith) (power_some k) in
    let e : 2 * 2 ^ k ≡ 2 ^ suc k = omega (arith, two-pow-succ k) in
    ap₂ (λ (x y : ℕ). x + y) (number_mod n k) d ∙ (omega (arith, m) ∙ ap (λ (x : ℕ). n % x) e)

-- a number below 2 ^ k is that of its bits
pub bits-number : (n k : ℕ) → n < 2 ^ k → number_of (bit_of n) k ≡ n
bits-number n k h = number_mod n k ∙ mod-eq_of_lt h

-- a power above t does not touch bit t
bit-above : (x t k : ℕ) → t < k → bit_of (x + 2 ^ k) t ≡ bit_of x t
unfolding bit_of
bit-above x t k h =
    let j = k - suc t in
    let e : k ≡ suc j + t = omega arith in
    let p : 2 ^ k ≡ 2 ^ suc j * 2 ^ t = ap (λ (i : ℕ). 2 ^ i) e ∙ pow-add 2 (suc j) t in
    let q : (x + 2 ^ k) / 2 ^ t ≡ x / 2 ^ t + 2 ^ suc j = ap (λ (y : ℕ). (x + y) / 2 ^ t) p ∙ add-mul-div_right x (2 ^ suc j) (power_some t) in
    let r : (x + 2 ^ k) / 2 ^ t % 2 ≡ x / 2 ^ t % 2 = omega (arith, q, two-pow-succ j) in
    ap (λ (y : ℕ). eqb y 1) r

pub number_bit : (f : ℕ → Bool) (k t : ℕ) → t < k → bit_of (number_of f k) t ≡ f t
unfolding number_of
number_bit f zero t h = absurd (omega arith)
number_bit f (suc k) t h = ⊎_elim (λ (e : suc t ≡ suc k). top (omega arith)) (λ (l : suc t < suc k). below (omega arith) (number_bit f k t (omega arith))) (eq-or-lt_of_le h)
  where
    x : ℕ
    x = number_of f k

    low : x / 2 ^ k ≡ 0
    low = div-eq_of_lt (number_lt f k)

    at : (b : Bool) → bit_of (x + cond b (2 ^ k) 0) k ≡ b
    at false =
        let e : x + 0 ≡ x = omega arith in
        let d : (x + 0) / 2 ^ k ≡ 0 = ap (λ (y : ℕ). y / 2 ^ k) e ∙ low in
        bit_not (x + 0) k (λ (z : (x + 0) / 2 ^ k % 2 ≡ 1). omega (arith, z, d))
    at true = bit_is (x + 2 ^ k) k (omega (arith, low, add-div_right x (power_some k)))

    top : t ≡ k → bit_of (x + cond (f k) (2 ^ k) 0) t ≡ f t
    top e = rw e (at (f k))

    under : (b : Bool) → t < k → bit_of (x + cond b (2 ^ k) 0) t ≡ bit_of x t
    under false l = let e : x + 0 ≡ x = omega arith in rw e
    under true l = bit-above x t k l

    below : t < k → bit_of x t ≡ f t → bit_of (x + cond (f k) (2 ^ k) 0) t ≡ f t
    below l i = under (f k) l ∙ i

-- the bits with another one at t
abbrev pub bits_with : (f : ℕ → Bool) (t : ℕ) (b : Bool) (s : ℕ) → Bool
bits_with f t b s = cond (eqb s t) b (f s)

pub with_same : (f : ℕ → Bool) (t : ℕ) (b : Bool) → bits_with f t b t ≡ b
with_same f t b = rw (eq-eqb t t refl)

pub with_other : (f : ℕ → Bool) (t : ℕ) (b : Bool) (s : ℕ) → (s ≡ t → ⊥) → bits_with f t b s ≡ f s
with_other f t b s h = rw (ne_eqb s t h)

abbrev worth : Bool → ℕ → ℕ
worth b p = cond b p 0

replaced : (f : ℕ → Bool) (t : ℕ) (b : Bool) (k : ℕ) → t < k → number_of (bits_with f t b) k + worth (f t) (2 ^ t) ≡ number_of f k + worth b (2 ^ t)
unfolding number_of
replaced f t b zero h = absurd (omega arith)
replaced f t b (suc k) h = ⊎_elim (λ (e : suc t ≡ suc k). top (omega arith)) (λ (l : suc t < suc k). below (omega arith) (replaced f t b k (omega arith))) (eq-or-lt_of_le h)
  where
    top : t ≡ k → number_of (bits_with f t b) k + worth (bits_with f t b k) (2 ^ k) + worth (f t) (2 ^ t) ≡ number_of f k + worth (f k) (2 ^ k) + worth b (2 ^ t)
    top e =
        let same : number_of (bits_with f t b) k ≡ number_of f k = number_same (bits_with f t b) f k (λ s l. with_other f t b s (λ (z : s ≡ t). omega (arith, z, e, l))) in
        let here : worth (bits_with f t b k) (2 ^ k) ≡ worth b (2 ^ t) =
        ap (λ (s : ℕ). worth (bits_with f t b s) (2 ^ s)) (sym e) ∙ ap (λ (c : Bool). worth c (2 ^ t)) (with_same f t b) in
        let there : worth (f t) (2 ^ t) ≡ worth (f k) (2 ^ k) = ap (λ (s : ℕ). worth (f s) (2 ^ s)) e in
        omega (arith, same, here, there)

    below : t < k → number_of (bits_with f t b) k + worth (f t) (2 ^ t) ≡ number_of f k + worth b (2 ^ t)
        → number_of (bits_with f t b) k + worth (bits_with f t b k) (2 ^ k) + worth (f t) (2 ^ t) ≡ number_of f k + worth (f k) (2 ^ k) + worth b (2 ^ t)
    below l i =
        let here : worth (bits_with f t b k) (2 ^ k) ≡ worth (f k) (2 ^ k) = ap (λ (c : Bool). worth c (2 ^ k)) (with_other f t b k (λ (z : k ≡ t). omega (arith, z, l))) in
        omega (arith, i, here)

-- a write of bit t of a number is one of its bits
pub number_with : (f : ℕ → Bool) (k t : ℕ) (b : Bool) → t < k → with_bit (number_of f k) t b ≡ number_of (bits_with f t b) k
number_with f k t b h = go (f t) refl b (replaced f t b k h)
  where
    n : ℕ
    n = number_of f k

    go : (u : Bool) → f t ≡ u → (b : Bool) → number_of (bits_with f t b) k + worth (f t) (2 ^ t) ≡ n + worth b (2 ^ t) → with_bit n t b ≡ number_of (bits_with f t b) k
    go true e true r = with_on n t true (number_bit f k t h ∙ e) ∙ omega (arith, r, ap (λ (c : Bool). worth c (2 ^ t)) e)
    go true e false r = with_on n t false (number_bit f k t h ∙ e) ∙ omega (arith, r, ap (λ (c : Bool). worth c (2 ^ t)) e)
    go false e true r = with_off n t true (number_bit f k t h ∙ e) ∙ omega (arith, r, ap (λ (c : Bool). worth c (2 ^ t)) e)
    go false e false r = with_off n t false (number_bit f k t h ∙ e) ∙ omega (arith, r, ap (λ (c : Bool). worth c (2 ^ t)) e)

-- a bit that is 0 can be set: the number stays below the power
pub with_room : (n k t : ℕ) → n < 2 ^ k → t < k → bit_of n t ≡ false → n + 2 ^ t < 2 ^ k
with_room n k t l h o =
    let e : n + 2 ^ t ≡ number_of (bits_with (bit_of n) t true) k =
    sym (with_off n t true o) ∙ (ap (λ (x : ℕ). with_bit x t true) (sym (bits-number n k l)) ∙ number_with (bit_of n) k t true h) in
    omega (arith, e, number_lt (bits_with (bit_of n) t true) k)

-- ---- the bits below t, then bit t

pub bit-off : (n t : ℕ) → n < 2 ^ t → bit_of n t ≡ false
bit-off n t h = go (bit_of n t) refl
  where
    go : (b : Bool) → bit_of n t ≡ b → bit_of n t ≡ false
    go true e = absurd (omega (arith, power_in n t e))
    go false e = e

pub number-next : (f : ℕ → Bool) (t : ℕ) → cond (f t) (with_bit (number_of f t) t true) (number_of f t) ≡ number_of f (t + 1)
unfolding number_of
number-next f t = rw (add-one t) (go (f t))
  where
    go : (b : Bool) → cond b (with_bit (number_of f t) t true) (number_of f t) ≡ number_of f t + cond b (2 ^ t) 0
    go true = with_off (number_of f t) t true (bit-off (number_of f t) t (number_lt f t))
    go false = omega arith

-- all 64 bits
pub all_ones : 18446744073709551615 ≡ number_of (λ t. true) 64
unfolding number_of
all_ones = refl
