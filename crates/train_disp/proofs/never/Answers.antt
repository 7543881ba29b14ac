use mathlib.Core.Path.{ap}
use lib.Ieee.{Float, of_bits}
use Rattle.disp_structs.specs.Floats.{real_of}
use Rattle.train_disp.proofs.never.Goals as goal

pub returns : goal.returns
unfolding real_of of_bits
returns c = ap (λ (x : Float). record { 0 = x }) c.real_of.ensures
