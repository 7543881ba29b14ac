-- The nearest whole metre from the fields of a bit pattern. Assumes nothing.
use mathlib.Core.Path.{◌≡◌, refl, sym, ap, ◌∙◌, subst, ap₂}
use mathlib.Core.Bool.{Bool, true, false, not, ◌&&◌}
use Prim.Native.Nat.{ℕ, zero, suc, ◌+◌, ◌-◌, ◌*◌, ◌/◌, ◌%◌, ◌^◌, ◌≤◌, ◌<◌}
use native.Mathlib.Nat.{lt_of_lt_of_le, mul_assoc, mod-lt, pow-succ'}
use native.Mathlib.Omega.{arith}
use lib.IntN.{ℤ}
use lib.Dec.{T, leb, eqb, lit<}
use lib.Pow.{pow-add, pow_pos, pow_mono, shl_lt}
use lib.Ieee.{Float, nan, inf, fin, is_nan, fits, binary64, up, down, of_fields}
use lib.Ieee.Fits.{down_pos}
use lib.Ieee.Exact.{HasValue}
use borrow.Author.Tests.{leb-true, eqb-true, eqb-false, eq-eqb, ne_eqb, le-leb}
use Rattle.disp_structs.specs.Floats.{real_of, bits_of, in_reach}
use Rattle.disp_structs.proofs.FloatLaws.{bits-number, real_bits}
use Rattle.image_fault.specs.ImageFault.{float_fits}
use Rattle.link_rules.proofs.TableLaws.{both}
use Rattle.image_fault.proofs.ReachLaws.{Bounded, reach_bounded, units_of, fields_value, of_bits_is, with_lead, few_exponent, float_fits-is}
use Rattle.path_page.specs.Metres.{nearest_to, metres_of, is_half, is_negative, whole_metres}
use Rattle.path_page.specs.declared.metres.Ties.{Ties}
use Rattle.path_page.specs.declared.metres.Ties.TheVariants.{Away, Even}
use Rattle.path_page.specs.declared.metres.WholeMetres.{WholeMetres}
use Rattle.path_page.proofs.NearestLaws.{nearest-same, nearest_small, nearest_near, nearest_most, rules_agree, half_away, half_even}

-- ---- a float whose value is a / c

metres_of_value : (t : Ties) (x : Float) (s : Bool) (a c : ℕ) → 0 < c → HasValue x s a c → metres_of t x ≡ nearest_to t a c
unfolding metres_of
metres_of_value t nan s a c C v = absurd v
metres_of_value t (inf u) s a c C v = absurd v
metres_of_value t (fin u m e) s a c C v = nearest-same t (m * up e) (down e) a c (down_pos e) C v.1

sign_of_value : (x : Float) (s : Bool) (a c : ℕ) → HasValue x s a c → is_negative x ≡ s
unfolding is_negative
sign_of_value nan s a c v = absurd v
sign_of_value (inf u) s a c v = absurd v
sign_of_value (fin u m e) s a c v = v.0

-- ---- the fields of a pattern: exponent f, digits t

-- below an exponent of 1022 a value is less than a half
doubled : (a i : ℕ) → a < 2 ^ i → i < 1074 → 2 * a < 2 ^ 1074
doubled a i h l =
    lt_of_lt_of_le (let p : 2 ^ suc i ≡ 2 * 2 ^ i = pow-succ' 2 i in twice a (2 ^ i) (2 ^ suc i) h p) (pow_mono l)
  where
    twice : (x y z : ℕ) → x < y → z ≡ 2 * y → 2 * x < z
    twice x y z k e = omega arith

units_small : (f t : ℕ) → t < 2 ^ 52 → f < 1022 → 2 * units_of f t < 2 ^ 1074
units_small zero t T f = doubled (t * 2 ^ 0) 52 (shl_lt 52 0 T) (lit< tt)
units_small (suc j) t T f = doubled ((2 ^ 52 + t) * 2 ^ j) (53 + j) (shl_lt 53 j (with_lead t T)) (omega arith)

-- from there on it is the digits over a power of two
units_shifted : (u : Ties) (f t : ℕ) → 1022 ≤ f → f ≤ 1062 → nearest_to u (units_of f t) (2 ^ 1074) ≡ nearest_to u (2 ^ 52 + t) (2 ^ (1075 - f))
units_shifted u zero t lo hi = absurd (omega arith)
units_shifted u (suc j) t lo hi =
    let q = 2 ^ 52 + t in
    let k = 1074 - j in
    let e : j + k ≡ 1074 = join j hi in
    nearest-same u (q * 2 ^ j) (2 ^ 1074) q (2 ^ k) (pow_pos 1074) (pow_pos k)
    (mul_assoc q (2 ^ j) (2 ^ k) ∙ ap (λ (x : ℕ). q * x) (sym (pow-add 2 j k) ∙ ap (λ (x : ℕ). 2 ^ x) e))
    ∙ ap (λ (x : ℕ). nearest_to u q (2 ^ x)) (less j)
  where
    join : (i : ℕ) → suc i ≤ 1062 → i + (1074 - i) ≡ 1074
    join i h = omega arith

    less : (i : ℕ) → 1074 - i ≡ 1075 - suc i
    less i = omega arith

-- ---- a pattern that refusal 7 lets through

module _ (b : ℕ) (ok : float_fits b ≡ true) where
  abbrev exponent : ℕ
  exponent = b % 0x8000_0000_0000_0000 / 0x10_0000_0000_0000

  abbrev fraction : ℕ
  fraction = b % 0x10_0000_0000_0000

  abbrev sign : Bool
  sign = leb 0x8000_0000_0000_0000 b

  real_is : real_of b ≡ of_fields binary64 sign exponent fraction
  unfolding real_of float_fits
  real_is = rw (both (leb (b % 0x8000_0000_0000_0000) 0x7ff0_0000_0000_0000) _ ok).0 (of_bits_is b)

  real_bounded : Bounded (real_of b)
  unfolding float_fits
  real_bounded = reach_bounded (real_of b) (both (leb (b % 0x8000_0000_0000_0000) 0x7ff0_0000_0000_0000) _ ok).1

  value : HasValue (real_of b) sign (units_of exponent fraction) (2 ^ 1074)
  value =
      subst (λ (x : Float). HasValue x sign (units_of exponent fraction) (2 ^ 1074)) (sym real_is)
      (fields_value sign exponent fraction (subst Bounded real_is real_bounded))

  pub negative_is : is_negative (real_of b) ≡ leb 0x8000_0000_0000_0000 b
  negative_is = sign_of_value (real_of b) sign (units_of exponent fraction) (2 ^ 1074) value

  pub exponent_most : exponent ≤ 1062
  exponent_most = few_exponent b (leb-true (b % 0x8000_0000_0000_0000) 0x426d_1a94_a200_0000 (sym (float_fits-is b) ∙ ok))

  pub metres_small : (u : Ties) → exponent < 1022 → metres_of u (real_of b) ≡ 0
  metres_small u h =
      metres_of_value u (real_of b) sign (units_of exponent fraction) (2 ^ 1074) (pow_pos 1074) value
      ∙ nearest_small u (units_of exponent fraction) (2 ^ 1074) (units_small exponent fraction (mod-lt b (pow_pos 52)) h)

  pub metres_shifted : (u : Ties) → 1022 ≤ exponent → metres_of u (real_of b) ≡ nearest_to u (0x10_0000_0000_0000 + fraction) (2 ^ (1075 - exponent))
  metres_shifted u h =
      metres_of_value u (real_of b) sign (units_of exponent fraction) (2 ^ 1074) (pow_pos 1074) value
      ∙ units_shifted u exponent fraction h exponent_most

-- ---- the nearest whole metre

-- twice the distance to the value is at most a metre, from above and from below
pub metres_near : (t : Ties) (s : Bool) (m : ℕ) (e : ℤ)
    → (2 * (m * up e) ≤ 2 * (metres_of t (fin s m e) * down e) + down e) × (2 * (metres_of t (fin s m e) * down e) ≤ 2 * (m * up e) + down e)
unfolding metres_of
metres_near t s m e = nearest_near t (m * up e) (down e) (down_pos e)

-- an exact half goes to the next metre away from zero, or to the even one
pub metres_away : (s : Bool) (m : ℕ) (e : ℤ) → is_half (fin s m e) ≡ true → metres_of Away (fin s m e) ≡ m * up e / down e + 1
unfolding metres_of is_half
metres_away s m e h = half_away (m * up e) (down e) (eqb-true (2 * (m * up e % down e)) (down e) h)

pub metres_even : (s : Bool) (m : ℕ) (e : ℤ) → is_half (fin s m e) ≡ true → metres_of Even (fin s m e) % 2 ≡ 0
unfolding metres_of is_half
metres_even s m e h = half_even (m * up e) (down e) (eqb-true (2 * (m * up e % down e)) (down e) h)

-- 13 digits are enough
pub metres_most : (t : Ties) (x : Float) → in_reach x ≡ true → metres_of t x ≤ 1000000000000
unfolding metres_of
metres_most t x h = most x (reach_bounded x h)
  where
    most : (y : Float) → Bounded y → metres_of t y ≤ 1000000000000
    most nan b = absurd b
    most (inf s) b = absurd b
    most (fin s m e) b = nearest_most t (m * up e) (down e) 1000000000000 (down_pos e) b

abbrev made : Bool → ℕ → WholeMetres
made b m = record { minus = b; metres = m }

-- ---- the two rules differ at exact halves alone

metres_agree : (x : Float) → is_half x ≡ false → metres_of Away x ≡ metres_of Even x
unfolding metres_of is_half
metres_agree nan h = refl
metres_agree (inf s) h = refl
metres_agree (fin s m e) h = rules_agree (m * up e) (down e) (eqb-false (2 * (m * up e % down e)) (down e) h)

pub whole_agree : (x : Float) → is_half x ≡ false → whole_metres Away x ≡ whole_metres Even x
unfolding whole_metres
whole_agree x h = ap (λ (m : ℕ). made (is_negative x && not (eqb m 0)) m) (metres_agree x h)

-- ---- the pattern of a float in reach

module _ (x : Float) (f : fits binary64 x ≡ true) (h : in_reach x ≡ true) where
  fitting : T (fits binary64 x)
  fitting = subst T (sym f) tt

  number : T (not (is_nan x))
  unfolding is_nan
  number = go x (reach_bounded x h)
    where
      go : (y : Float) → Bounded y → T (not (is_nan y))
      go nan b = absurd b
      go (inf s) b = absurd b
      go (fin s m e) b = tt

  pub bits_back : real_of (bits_of x) ≡ x
  bits_back = real_bits x fitting number

  pub bits_fit : float_fits (bits_of x) ≡ true
  unfolding float_fits
  bits_fit = rw (le-leb (bits_of x % 0x8000_0000_0000_0000) 0x7ff0_0000_0000_0000 (bits-number x fitting number), bits_back, h)

-- ---- sign and magnitude

no_sign : (a : Bool) → a && not true ≡ false
no_sign true = refl
no_sign false = refl

own_sign : (a : Bool) → a && not false ≡ a
own_sign true = refl
own_sign false = refl

-- a zero has no sign
pub zero_sign : (u : Ties) (x : Float) → metres_of u x ≡ 0 → (whole_metres u x).minus ≡ false
unfolding whole_metres
zero_sign u x z = ap (λ (t : Bool). is_negative x && not t) (eq-eqb (metres_of u x) 0 z) ∙ no_sign (is_negative x)

pub whole_zero : (u : Ties) (x : Float) (m : ℕ) → m ≡ metres_of u x → m ≡ 0 → made false m ≡ whole_metres u x
unfolding whole_metres
whole_zero u x m e z = ap₂ made (sym (zero_sign u x (sym e ∙ z))) e

pub whole_some : (u : Ties) (x : Float) (m : ℕ) (s : Bool) → m ≡ metres_of u x → (m ≡ 0 → ⊥) → is_negative x ≡ s → made s m ≡ whole_metres u x
unfolding whole_metres
whole_some u x m s e z k = ap₂ made (sym (ap (λ (t : Bool). is_negative x && not t) (ne_eqb (metres_of u x) 0 (λ h. z (e ∙ h))) ∙ own_sign (is_negative x) ∙ k)) e
