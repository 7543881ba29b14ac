-- A float and its bit pattern give each other back. Assumes nothing.
use mathlib.Core.Path.{◌≡◌, refl}
use mathlib.Core.Bool.{Bool, true, false, not, cond}
use Prim.Native.Nat.{ℕ, ◌*◌, ◌^◌, ◌≤◌, ◌<◌, ◌%◌}
use native.Mathlib.Omega.{arith}
use lib.Dec.{T, eqb, eqb_refl, leb, ltb, nltb→le}
use lib.Arith.{le→nltb}
use borrow.Author.Tests.{le-leb, leb-true}
use lib.Ieee.{Float, nan, inf, fin, up, down, binary64, of_bits, to_bits, fits, is_nan, ne, eq, lt, le}
use lib.Ieee.Bits.{of_bits-to_bits, to_bits-of_bits, of_bits-fits, to_bits-lt, nan_bits_is, nan_bits_above, is_true}
use Rattle.disp_structs.specs.Floats.{real_of, bits_of, in_reach}

-- a float that is no NaN equals itself
pub equal : (x : Float) → T (not (is_nan x)) → ne x x ≡ false
unfolding ne eq is_nan
equal nan h = absurd h
equal (inf true) h = refl
equal (inf false) h = refl
equal (fin true m e) h = rw (is_true (eqb (m * up e * down e) (m * up e * down e)) (eqb_refl (m * up e * down e)))
equal (fin false m e) h = rw (is_true (eqb (m * up e * down e) (m * up e * down e)) (eqb_refl (m * up e * down e)))

pub differs : (x : Float) → ne x x ≡ is_nan x
unfolding ne eq is_nan
differs nan = refl
differs (inf s) = equal (inf s) tt
differs (fin s m e) = equal (fin s m e) tt

-- a pattern that is no NaN's comes back from its float
pub bits_real : (b : ℕ) → b < 2 ^ 64 → b % 0x8000_0000_0000_0000 ≤ 0x7ff0_0000_0000_0000 → bits_of (real_of b) ≡ b
unfolding bits_of real_of
bits_real b w l =
    let n : T (not (is_nan (of_bits binary64 b))) = rw (← nan_bits_is, nan_bits_above) (le→nltb 0x7ff0_0000_0000_0000 (b % 0x8000_0000_0000_0000) (omega arith)) in
    simp (le-leb (b % 0x8000_0000_0000_0000) 0x7ff0_0000_0000_0000 l, equal (of_bits binary64 b) n) (to_bits-of_bits binary64 b w n)

-- a value of binary64 that is no NaN: its pattern is none of a NaN, and gives the value back
module _ (x : Float) (f : T (fits binary64 x)) (n : T (not (is_nan x))) where
  bits_is : bits_of x ≡ to_bits binary64 x
  unfolding bits_of
  bits_is = rw (equal x n)

  pub bits_lt : bits_of x < 2 ^ 64
  bits_lt = rw bits_is (to_bits-lt binary64 x f)

  pub bits-number : bits_of x % 0x8000_0000_0000_0000 ≤ 0x7ff0_0000_0000_0000
  bits-number =
      let k : T (not (is_nan (of_bits binary64 (to_bits binary64 x)))) = rw (of_bits-to_bits binary64 x f) n in
      let m : T (not (ltb 0x7ff0_0000_0000_0000 (to_bits binary64 x % 0x8000_0000_0000_0000))) = rw (← nan_bits_is, nan_bits_above) at k in
      rw bits_is (nltb→le 0x7ff0_0000_0000_0000 (to_bits binary64 x % 0x8000_0000_0000_0000) m)

  pub real_bits : real_of (bits_of x) ≡ x
  unfolding real_of
  real_bits = rw (le-leb (bits_of x % 0x8000_0000_0000_0000) 0x7ff0_0000_0000_0000 bits-number, bits_is) (of_bits-to_bits binary64 x f)

-- what is read from a pattern is a value of binary64, and no NaN
pub real_fits : (b : ℕ) → T (fits binary64 (real_of b))
unfolding real_of
real_fits b = go (leb (b % 0x8000_0000_0000_0000) 0x7ff0_0000_0000_0000)
  where
    go : (t : Bool) → T (fits binary64 (cond t (of_bits binary64 b) (of_bits binary64 0)))
    go true = of_bits-fits binary64 b
    go false = of_bits-fits binary64 0

pub real_number : (b : ℕ) → T (not (is_nan (real_of b)))
unfolding real_of
real_number b = go (leb (b % 0x8000_0000_0000_0000) 0x7ff0_0000_0000_0000) refl
  where
    no_nan : (m : ℕ) → m % 0x8000_0000_0000_0000 ≤ 0x7ff0_0000_0000_0000 → T (not (is_nan (of_bits binary64 m)))
    no_nan m l = rw (← nan_bits_is, nan_bits_above) (le→nltb 0x7ff0_0000_0000_0000 (m % 0x8000_0000_0000_0000) (omega arith))

    go : (t : Bool) → leb (b % 0x8000_0000_0000_0000) 0x7ff0_0000_0000_0000 ≡ t → T (not (is_nan (cond t (of_bits binary64 b) (of_bits binary64 0))))
    go true h = no_nan b (leb-true (b % 0x8000_0000_0000_0000) 0x7ff0_0000_0000_0000 h)
    go false h = no_nan 0 (omega arith)

-- a float within reach is no NaN
pub reach-number : (x : Float) → in_reach x ≡ true → T (not (is_nan x))
unfolding in_reach le lt eq is_nan
reach-number nan h = let z : ◌≡◌ {A = ℕ} 0 1 = cc in absurd (omega arith)
reach-number (inf s) h = tt
reach-number (fin s m e) h = tt
