-- The sign of a number, in its bits. Assumes nothing.
use Rattle.std.proofs.Common.{◌≡◌, ℕ, zero, suc, ◌+◌, ◌/◌, ◌%◌, Bool, true, false, cond, T, eqb, leb, sym, refl, ap, ◌∙◌, true≢false}
use lib.Ieee.{Float, nan, inf, fin, ne, is_nan, binary64, prec, low, ones, hid, top, odd, of_fields, of_bits, to_bits, fits}
use lib.Ieee.Bits.{of_bits-to_bits}
use Rattle.disp_structs.specs.Floats.{bits_of}
use Rattle.free_path.specs.SearchLimit.{is_minus}

number_is : (a : Float) → ne a a ≡ false → is_nan a ≡ false
unfolding ne is_nan
number_is nan h = absurd (true≢false h)
number_is (inf s) h = refl
number_is (fin s m e) h = refl

minus_odd : (d : ℕ) (s : Bool) (q k l : ℕ) → is_minus (odd d s q k l) ≡ s
unfolding odd
minus_odd d s zero k l = refl
minus_odd d s (suc q) k l = refl

minus_fields : (s : Bool) (x t : ℕ) → is_nan (of_fields binary64 s x t) ≡ false → is_minus (of_fields binary64 s x t) ≡ s
unfolding of_fields is_nan
minus_fields s zero t n = minus_odd (prec binary64) s t 0 (low binary64)
minus_fields s (suc x) t n = go (eqb (suc x) (ones binary64)) (eqb t 0) n
  where
    go : (u v : Bool) → is_nan (cond u (cond v (inf s) nan) (odd (prec binary64) s (hid binary64 + t) x (low binary64))) ≡ false
        → is_minus (cond u (cond v (inf s) nan) (odd (prec binary64) s (hid binary64 + t) x (low binary64))) ≡ s
    go true true n = refl
    go true false n = absurd (true≢false n)
    go false v n = minus_odd (prec binary64) s (hid binary64 + t) x (low binary64)

-- the sign of a number is the highest bit of its pattern
pub minus-high : (x : Float) → T (fits binary64 x) → ne x x ≡ false → is_minus x ≡ leb 0x8000_0000_0000_0000 (bits_of x)
unfolding bits_of of_bits
minus-high x f h =
    let b = to_bits binary64 x in
    let back = of_bits-to_bits binary64 x f in
    let n : is_nan (of_bits binary64 b) ≡ false = ap is_nan back ∙ number_is x h in
    rw h (ap is_minus (sym back) ∙ minus_fields (leb (top binary64) b) (b % top binary64 / hid binary64) (b % hid binary64) n)
