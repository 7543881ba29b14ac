-- The patterns of floats of at most 1e12 in magnitude: without their sign they are numbers up to the pattern of 1e12. Assumes nothing.
use mathlib.Core.Path.{◌≡◌, refl, sym, ap, ◌∙◌, subst}
use mathlib.Core.Logic.{◌⊎◌, inl, inr}
use mathlib.Core.Bool.{Bool, true, false, cond, ◌&&◌, ◌||◌}
use Prim.Native.Nat.{ℕ, zero, suc, ◌+◌, ◌*◌, ◌/◌, ◌%◌, ◌^◌, ◌≤◌, ◌<◌}
use native.Mathlib.Nat.{le_trans, le_of_eq, le_of_lt, lt_of_lt_of_le, lt_irrefl, eq-or-lt_of_le, mul_right_comm, mul-le-mul_right, le_of_mul-le-mul_right, mul-lt-mul_of_pos_right, le-add_right}
use native.Mathlib.Omega.{arith}
use lib.IntN.{pos}
use lib.Dec.{leb, ltb, eqb}
use lib.Pow.{pow-add, pow_pos, pow_mono, shl_lt}
use lib.Ieee.{Float, nan, inf, fin, binary64, up, down, odd, of_fields, of_bits, neg, lt, eq, le}
use lib.Ieee.Fits.{down_pos}
use lib.Ieee.Exact.{HasValue, odd_sign}
use borrow.Author.Tests.{ltb-true, ltb-false, leb-true, leb-false, eqb-true, lt-ltb, eq-eqb}
use Rattle.disp_structs.specs.Floats.{real_of, in_reach, far}
use Rattle.image_fault.specs.ImageFault.{float_fits}
use Rattle.link_rules.proofs.TableLaws.{both}

-- ---- at most 1e12 in magnitude

abbrev pub Bounded : Float → Type 0
Bounded nan = ⊥
Bounded (inf s) = ⊥
Bounded (fin s m e) = m * up e ≤ 1000000000000 * down e

far-is : far ≡ fin false 244140625 (pos 12)
unfolding of_bits
far-is = refl

back_is : neg far ≡ fin true 244140625 (pos 12)
unfolding of_bits neg
back_is = refl

not_both : {A : Type 0} → false ≡ true → A
not_both h = let z : ◌≡◌ {A = ℕ} 0 1 = cc in absurd (omega arith)

-- the two tests that `le` makes, and back
at_most : (a b : ℕ) (q : Bool) → (q ≡ true → a ≡ b) → (ltb a b || (q && true)) ≡ true → a ≤ b
at_most a b q f h = go (ltb a b) refl h
  where
    same : (u : Bool) → (u ≡ true → a ≡ b) → u && true ≡ true → a ≤ b
    same true g k = le_of_eq (g refl)
    same false g k = (not_both k)

    go : (t : Bool) → ltb a b ≡ t → (t || (q && true)) ≡ true → a ≤ b
    go true e k = le_of_lt (ltb-true a b e)
    go false e k = same q f k

most-at : (a b : ℕ) (q : Bool) → (a ≡ b → q ≡ true) → a ≤ b → (ltb a b || (q && true)) ≡ true
most-at a b q f h = go (ltb a b) refl
  where
    go : (t : Bool) → ltb a b ≡ t → (t || (q && true)) ≡ true
    go true e = refl
    go false e = let l = ltb-false a b e in rw (f (omega arith))

tidy : (n d : ℕ) → n * 1 ≤ 1000000000000 * d → n ≤ 1000000000000 * d
tidy n d h = omega arith

untidy : (n d : ℕ) → n ≤ 1000000000000 * d → n * 1 ≤ 1000000000000 * d
untidy n d h = omega arith

bounded : (x : Float) → le x (fin false 244140625 (pos 12)) && le (fin true 244140625 (pos 12)) x ≡ true → Bounded x
unfolding le lt eq
bounded nan h = (not_both h)
bounded (inf true) h = (not_both h)
bounded (inf false) h = (not_both h)
bounded (fin true m e) h =
    let k = (both (le (fin true m e) (fin false 244140625 (pos 12))) _ h).1 in
    tidy (m * up e) (down e) (at_most (m * up e * 1) (1000000000000 * down e) (eqb (1000000000000 * down e) (m * up e * 1)) (λ t. sym (eqb-true (1000000000000 * down e) (m * up e * 1) t)) k)
bounded (fin false m e) h =
    let k = (both (le (fin false m e) (fin false 244140625 (pos 12))) _ h).0 in
    tidy (m * up e) (down e) (at_most (m * up e * 1) (1000000000000 * down e) (eqb (m * up e * 1) (1000000000000 * down e)) (eqb-true (m * up e * 1) (1000000000000 * down e)) k)

below-far : (x : Float) → Bounded x → le x (fin false 244140625 (pos 12)) && le (fin true 244140625 (pos 12)) x ≡ true
unfolding le lt eq
below-far nan h = absurd h
below-far (inf s) h = absurd h
below-far (fin true m e) h =
    let d = down_pos e in
    rw (lt-ltb 0 (m * up e * 1 + 1000000000000 * down e) (omega arith))
    (most-at (m * up e * 1) (1000000000000 * down e) (eqb (1000000000000 * down e) (m * up e * 1)) (λ q. eq-eqb (1000000000000 * down e) (m * up e * 1) (sym q)) (untidy (m * up e) (down e) h))
below-far (fin false m e) h =
    let d = down_pos e in
    rw (most-at (m * up e * 1) (1000000000000 * down e) (eqb (m * up e * 1) (1000000000000 * down e)) (eq-eqb (m * up e * 1) (1000000000000 * down e)) (untidy (m * up e) (down e) h), lt-ltb 0 (1000000000000 * down e + m * up e * 1) (omega arith))

pub reach_bounded : (x : Float) → in_reach x ≡ true → Bounded x
unfolding in_reach
reach_bounded x h = bounded x (rw (far-is) at (rw back_is at h))

bounded_reach : (x : Float) → Bounded x → in_reach x ≡ true
unfolding in_reach
bounded_reach x h = rw (back_is, far-is) (below-far x h)

-- a value a / c is at most 1e12, and back
pub units_bounded : (x : Float) (s : Bool) (a c : ℕ) → Bounded x → HasValue x s a c → a ≤ 1000000000000 * c
units_bounded nan s a c b v = absurd v
units_bounded (inf u) s a c b v = absurd v
units_bounded (fin u m e) s a c b v =
    le_of_mul-le-mul_right
    (let p : m * up e * c ≤ 1000000000000 * down e * c = mul-le-mul_right c b in
    let q : 1000000000000 * down e * c ≡ 1000000000000 * c * down e = mul_right_comm 1000000000000 (down e) c in
    let r : m * up e * c ≡ a * down e = v.1 in
    omega arith)
    (down_pos e)

bounded_units : (x : Float) (s : Bool) (a c : ℕ) → 0 < c → a ≤ 1000000000000 * c → HasValue x s a c → Bounded x
bounded_units nan s a c p b v = absurd v
bounded_units (inf u) s a c p b v = absurd v
bounded_units (fin u m e) s a c p b v =
    le_of_mul-le-mul_right
    (let l : a * down e ≤ 1000000000000 * c * down e = mul-le-mul_right (down e) b in
    let q : 1000000000000 * down e * c ≡ 1000000000000 * c * down e = mul_right_comm 1000000000000 (down e) c in
    let r : m * up e * c ≡ a * down e = v.1 in
    omega arith)
    p

-- ---- the fields of a pattern: exponent f, digits t

-- what the fields stand for, in units of 2 ^ -1074
abbrev pub units_of : ℕ → ℕ → ℕ
units_of zero t = t * 2 ^ 0
units_of (suc j) t = (2 ^ 52 + t) * 2 ^ j

pub fields_value : (s : Bool) (f t : ℕ) → Bounded (of_fields binary64 s f t) → HasValue (of_fields binary64 s f t) s (units_of f t) (2 ^ 1074)
unfolding of_fields
fields_value s zero t b = odd_sign 53 s t 0 1074
fields_value s (suc j) t b = go (eqb (suc j) 2047) (eqb t 0) b
  where
    go : (u w : Bool) → Bounded (cond u (cond w (inf s) nan) (odd 53 s (2 ^ 52 + t) j 1074)) → HasValue (cond u (cond w (inf s) nan) (odd 53 s (2 ^ 52 + t) j 1074)) s ((2 ^ 52 + t) * 2 ^ j) (2 ^ 1074)
    go true true k = absurd k
    go true false k = absurd k
    go false w k = odd_sign 53 s (2 ^ 52 + t) j 1074

few_value : (s : Bool) (f t : ℕ) → f ≤ 1062 → HasValue (of_fields binary64 s f t) s (units_of f t) (2 ^ 1074)
unfolding of_fields
few_value s zero t h = odd_sign 53 s t 0 1074
few_value s (suc j) t h = go (eqb (suc j) 2047) refl
  where
    go : (u : Bool) → eqb (suc j) 2047 ≡ u → HasValue (cond u (cond (eqb t 0) (inf s) nan) (odd 53 s (2 ^ 52 + t) j 1074)) s ((2 ^ 52 + t) * 2 ^ j) (2 ^ 1074)
    go true e = let q = eqb-true (suc j) 2047 e in absurd (omega arith)
    go false e = odd_sign 53 s (2 ^ 52 + t) j 1074

pub of_bits_is : (b : ℕ) → of_bits binary64 b ≡ of_fields binary64 (leb 0x8000_0000_0000_0000 b) (b % 0x8000_0000_0000_0000 / 0x10_0000_0000_0000) (b % 0x10_0000_0000_0000)
unfolding of_bits
of_bits_is b = refl

-- ---- the units grow with the pattern

pub with_lead : (t : ℕ) → t < 2 ^ 52 → 2 ^ 52 + t < 2 ^ 53
with_lead t h = omega arith

lead_least : (u k : ℕ) → 2 ^ (52 + k) ≤ (2 ^ 52 + u) * 2 ^ k
lead_least u k = le_trans (le_of_eq (pow-add 2 52 k)) (mul-le-mul_right (2 ^ k) (le-add_right (2 ^ 52) u))

-- by the exponent
units_exponent : (f t g u : ℕ) → t < 2 ^ 52 → f < g → units_of f t < units_of g u
units_exponent f t zero u l h = absurd (omega arith)
units_exponent zero t (suc k) u l h = lt_of_lt_of_le (shl_lt 52 0 l) (le_trans (pow_mono {i = 52} {j = 52 + k} (omega arith)) (lead_least u k))
units_exponent (suc j) t (suc k) u l h = lt_of_lt_of_le (shl_lt 53 j (with_lead t l)) (le_trans (pow_mono {i = 53 + j} {j = 52 + k} (omega arith)) (lead_least u k))

-- by the digits
units_digits : (f t u : ℕ) → t < u → units_of f t < units_of f u
units_digits zero t u h = mul-lt-mul_of_pos_right {m = t} {n = u} {k = 2 ^ 0} h (pow_pos 0)
units_digits (suc j) t u h = mul-lt-mul_of_pos_right {m = 2 ^ 52 + t} {n = 2 ^ 52 + u} {k = 2 ^ j} (more t u h) (pow_pos j)
  where
    more : (x y : ℕ) → x < y → 2 ^ 52 + x < 2 ^ 52 + y
    more x y l = omega arith

abbrev units_at : ℕ → ℕ
units_at n = units_of (n / 0x10_0000_0000_0000) (n % 0x10_0000_0000_0000)

units_grow : (n m : ℕ) → n < m → units_at n < units_at m
units_grow n m h = go (eq-or-lt_of_le (exponents n m h))
  where
    exponents : (x y : ℕ) → x < y → x / 0x10_0000_0000_0000 ≤ y / 0x10_0000_0000_0000
    exponents x y l = omega arith

    digits : (x y : ℕ) → x < y → x / 0x10_0000_0000_0000 ≡ y / 0x10_0000_0000_0000 → x % 0x10_0000_0000_0000 < y % 0x10_0000_0000_0000
    digits x y l q = omega arith

    few : (x : ℕ) → x % 0x10_0000_0000_0000 < 2 ^ 52
    few x = omega arith

    go : (n / 0x10_0000_0000_0000 ≡ m / 0x10_0000_0000_0000) ⊎ (n / 0x10_0000_0000_0000 < m / 0x10_0000_0000_0000) → units_at n < units_at m
    go (inl q) = subst (λ (f : ℕ). units_at n < units_of f (m % 0x10_0000_0000_0000)) q (units_digits (n / 0x10_0000_0000_0000) (n % 0x10_0000_0000_0000) (m % 0x10_0000_0000_0000) (digits n m h q))
    go (inr l) = units_exponent (n / 0x10_0000_0000_0000) (n % 0x10_0000_0000_0000) (m / 0x10_0000_0000_0000) (m % 0x10_0000_0000_0000) (few n) l

far-units : units_at 0x426d_1a94_a200_0000 ≡ 1000000000000 * 2 ^ 1074
far-units = refl

-- ---- the law

module _ (b : ℕ) where
  abbrev bits : ℕ
  bits = b % 0x8000_0000_0000_0000

  same_digits : (x : ℕ) → x % 0x8000_0000_0000_0000 % 0x10_0000_0000_0000 ≡ x % 0x10_0000_0000_0000
  same_digits x = omega arith

  fields_is : of_bits binary64 b ≡ of_fields binary64 (leb 0x8000_0000_0000_0000 b) (bits / 0x10_0000_0000_0000) (bits % 0x10_0000_0000_0000)
  fields_is = of_bits_is b ∙ ap (of_fields binary64 (leb 0x8000_0000_0000_0000 b) (bits / 0x10_0000_0000_0000)) (sym (same_digits b))

  pub few_exponent : bits ≤ 0x426d_1a94_a200_0000 → bits / 0x10_0000_0000_0000 ≤ 1062
  few_exponent h = omega arith

  in_reach_lem : bits ≤ 0x426d_1a94_a200_0000 → in_reach (of_bits binary64 b) ≡ true
  in_reach_lem h =
      bounded_reach (of_bits binary64 b)
      (subst Bounded (sym fields_is)
      (bounded_units (of_fields binary64 (leb 0x8000_0000_0000_0000 b) (bits / 0x10_0000_0000_0000) (bits % 0x10_0000_0000_0000)) (leb 0x8000_0000_0000_0000 b) (units_at bits) (2 ^ 1074) (pow_pos 1074) (few (eq-or-lt_of_le h))
      (few_value (leb 0x8000_0000_0000_0000 b) (bits / 0x10_0000_0000_0000) (bits % 0x10_0000_0000_0000) (few_exponent h))))
    where
      few : (bits ≡ 0x426d_1a94_a200_0000) ⊎ (bits < 0x426d_1a94_a200_0000) → units_at bits ≤ 1000000000000 * 2 ^ 1074
      few (inl q) = le_of_eq (ap units_at q ∙ far-units)
      few (inr l) = le_of_lt (subst (λ (n : ℕ). units_at bits < n) far-units (units_grow bits 0x426d_1a94_a200_0000 l))

  out_of_reach : 0x426d_1a94_a200_0000 < bits → in_reach (of_bits binary64 b) ≡ false
  out_of_reach h = go (in_reach (of_bits binary64 b)) refl
    where
      go : (t : Bool) → in_reach (of_bits binary64 b) ≡ t → t ≡ false
      go false e = refl
      go true e =
          let x = of_fields binary64 (leb 0x8000_0000_0000_0000 b) (bits / 0x10_0000_0000_0000) (bits % 0x10_0000_0000_0000) in
          let k = subst Bounded fields_is (reach_bounded (of_bits binary64 b) e) in
          let v = fields_value (leb 0x8000_0000_0000_0000 b) (bits / 0x10_0000_0000_0000) (bits % 0x10_0000_0000_0000) k in
          let most = units_bounded x (leb 0x8000_0000_0000_0000 b) (units_at bits) (2 ^ 1074) k v in
          let more = subst (λ (n : ℕ). n < units_at bits) far-units (units_grow 0x426d_1a94_a200_0000 bits h) in
          absurd (lt_irrefl (1000000000000 * 2 ^ 1074) (lt_of_lt_of_le more most))

  -- a comparison of the pattern without its sign
  pub float_fits-is : float_fits b ≡ leb bits 0x426d_1a94_a200_0000
  unfolding float_fits real_of
  float_fits-is = go (leb bits 0x426d_1a94_a200_0000) refl (leb bits 0x7ff0_0000_0000_0000) refl
    where
      go : (t : Bool) → leb bits 0x426d_1a94_a200_0000 ≡ t → (u : Bool) → leb bits 0x7ff0_0000_0000_0000 ≡ u
          → (u && in_reach (cond u (of_bits binary64 b) (of_bits binary64 0))) ≡ t
      go true e true k = in_reach_lem (leb-true bits 0x426d_1a94_a200_0000 e)
      go true e false k = let l = leb-true bits 0x426d_1a94_a200_0000 e in let m = leb-false bits 0x7ff0_0000_0000_0000 k in absurd (omega arith)
      go false e true k = out_of_reach (leb-false bits 0x426d_1a94_a200_0000 e)
      go false e false k = refl
