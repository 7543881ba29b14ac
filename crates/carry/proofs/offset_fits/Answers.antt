use mathlib.Core.Path.{ap₂}
use Prim.Native.Nat.{ℕ}
use lib.Dec.{eqb}
use Rattle.carry.specs.Carry.{offset_fits}
use Rattle.carry.proofs.offset_fits.Goals as goal

pub returns : goal.returns
unfolding offset_fits
returns c = ap₂ (λ (x y : ℕ). eqb x y) c.u32_at.ensures c.wide_end-end.ensures.0
