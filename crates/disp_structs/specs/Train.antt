-- One train, as an image holds it (document 01). Assumes nothing.
use Rattle.std.specs.Prelude.{ℕ, List}
use Rattle.link_rules.specs.declared.link_idx.TrainIdx.{TrainIdx}
use Rattle.disp_structs.specs.declared.Metres.{Metres}
use Rattle.disp_structs.specs.declared.EstTime.{EstTime}
use Rattle.disp_structs.specs.declared.DispNode.{DispNode}
use Rattle.disp_structs.specs.declared.DivergeNode.{DivergeNode}

-- TrainDisp (train_disp/mod.rs) without what is derived from the path and without its buffers, and document 01's Q
pub record Train : Type 0 where
  pub est_times : List EstTime
  pub disp_path : List DispNode
  pub div_nodes : List DivergeNode
  pub disp_node_idx_fixed : ℕ
  pub disp_node_idx_free : ℕ
  pub disp_node_idx_front : ℕ
  pub disp_node_idx_back : ℕ
  pub dist_disp_path_search : Metres
  pub dist_fixed_max : Metres
  pub train_idx : TrainIdx
  pub diverge_room : ℕ
