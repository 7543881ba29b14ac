use Rattle.disp_structs.specs.Floats.{real_of}
use borrow.Author.Tests.{le-leb, lt-leb}
use lib.Ieee.Bits.{nan_bits_above}
use lib.Arith.{le→nltb}
use Prim.Native.Nat.{◌%◌}
use native.Mathlib.Omega.{arith}
use Rattle.disp_structs.proofs.floats.real_of.Goals as goal

pub float_from_bits-result : goal.float_from_bits-result
float_from_bits-result c = rw nan_bits_above (le→nltb 0x7ff0_0000_0000_0000 (c.args.b % 0x8000_0000_0000_0000) (omega arith))

pub returns-then-b-le9218868437227405312 : goal.returns-then-b-le9218868437227405312
unfolding real_of
returns-then-b-le9218868437227405312 c = simp (le-leb _ _ c.if-b-le9218868437227405312.true)

pub returns-else-b-le9218868437227405312 : goal.returns-else-b-le9218868437227405312
unfolding real_of
returns-else-b-le9218868437227405312 c = simp (lt-leb _ _ c.if-b-le9218868437227405312.false)
