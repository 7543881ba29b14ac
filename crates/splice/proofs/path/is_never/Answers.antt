use mathlib.Core.Path.{ap}
use lib.Ieee.{Float, eq, of_bits}
use Rattle.disp_structs.specs.Floats.{real_of}
use Rattle.splice.proofs.path.is_never.Goals as goal

pub returns : goal.returns
unfolding real_of of_bits
returns c = ap (λ (x : Float). eq c.args.t.0 x) c.real_of.ensures
