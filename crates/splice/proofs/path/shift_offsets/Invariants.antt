use mathlib.Core.Path.{◌≡◌}
use Rattle.image.specs.Image.{node_at}
use Rattle.disp_structs.specs.Listed.{listed}
use Rattle.update_definition.specs.Join.{shift_offsets}
use Rattle.splice.specs.Read.{Kept}
use Rattle.splice.specs.Parts.{from_on}
use Rattle.splice.proofs.path.shift_offsets.Given as goal

abbrev pub invariant-loop-k : goal.invariant-loop-k
invariant-loop-k l = Kept l.img l.initial.img × (from_on (shift_offsets l.change) l.k (listed l.n (node_at l.img)) ≡ from_on (shift_offsets l.change) l.i (listed l.n (node_at l.initial.img)))
