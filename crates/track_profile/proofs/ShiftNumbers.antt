-- The numbers of the test that the code makes (ShiftLaws): 40,000 metres and 2 ^ 42. Assumes nothing.
use mathlib.Core.Bool.{false}
use Prim.Native.Nat.{ℕ, ◌^◌}
use lib.IntN.{pos}
use lib.Ieee.{Float, fin, binary64, of_bits}

-- 40,000 and 2 ^ 42, as the code has them
abbrev pub farthest : Float
farthest = of_bits binary64 0x40e3_8800_0000_0000

abbrev pub shift : Float
shift = of_bits binary64 0x4290_0000_0000_0000

-- the same by their values
abbrev pub metres : ℕ
metres = 40000

abbrev pub most : Float
most = fin false 625 (pos 6)

abbrev pub base : ℕ
base = 2 ^ 42

-- base and twice base
abbrev pub lower : Float
lower = fin false 1 (pos 42)

abbrev pub upper : Float
upper = fin false 1 (pos 43)
