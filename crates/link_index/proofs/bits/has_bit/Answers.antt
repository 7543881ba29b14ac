use mathlib.Core.Path.{refl}
use Rattle.link_index.specs.Bits.{bit_of}
use Rattle.link_index.proofs.bits.has_bit.Goals as goal

pub returns : goal.returns
unfolding bit_of
returns c = refl
