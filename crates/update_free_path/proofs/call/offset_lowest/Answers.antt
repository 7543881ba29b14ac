use mathlib.Core.Path.{ap₂}
use Rattle.disp_structs.specs.Values.{minus}
use Rattle.disp_structs.specs.declared.Metres.{Metres}
use Rattle.disp_structs.specs.declared.DispNode.{DispNode}
use Rattle.update_free_path.proofs.call.offset_lowest.Goals as goal

pub returns : goal.returns
returns c = ap₂ (λ (n : DispNode) (d : Metres). minus n.offset d) c.node_at-n.ensures c.dist_fixed_max-d.ensures
