-- Bit patterns of binary64, the reach of an offset, and document 01's near. Assumes nothing.
use Rattle.std.specs.Prelude.{ℕ, ◌%◌, Bool, cond, not, ◌&&◌, ◌||◌, leb, Float}
use Rattle.std.specs.Float.{binary64}
use Rattle.std.specs.Float.Ieee.{of_bits, to_bits, add, sub, div, neg, lt, le, eq, ne}

-- the float of a pattern, and 0 for a NaN's
unfoldable pub real_of : ℕ → Float
real_of b = cond (leb (b % 0x8000_0000_0000_0000) 0x7ff0_0000_0000_0000) (of_bits binary64 b) (of_bits binary64 0)

-- the pattern of a float, and 0 for a NaN
unfoldable pub bits_of : Float → ℕ
bits_of x = cond (ne x x) 0 (to_bits binary64 x)

-- 1e12, 1e-8 and 0
abbrev pub far : Float
far = of_bits binary64 0x426d_1a94_a200_0000

abbrev pub tiny : Float
tiny = of_bits binary64 0x3e45_798e_e230_8c3a

abbrev pub nought : Float
nought = of_bits binary64 0

-- at most 1e12 in magnitude
unfoldable pub in_reach : Float → Bool
in_reach x = le x far && le (neg far) x

unfoldable pub magnitude : Float → Float
magnitude x = cond (lt x nought) (neg x) x

-- near (document 01), utils::almost_eq_uom: d = b - a and s = a + b each rounded once
unfoldable pub near_float : Float → Float → Bool
near_float a b =
    let d = sub binary64 b a in
    let s = add binary64 a b in
    lt (magnitude d) tiny || (not (eq s nought) && lt (magnitude (div binary64 d s)) tiny)
