-- The numbers of a good search, as code that holds it in arrays has them. Assumes nothing.
use Rattle.std.specs.Prelude.{◌+◌, ◌≤◌, ◌<◌, length}
use Rattle.update_definition.specs.State.{Round, Search}

-- of a search s in a round r of an accepted train
pub record Bounds (r : Round) (s : Search) : Type 0 where
  pub split-low : 1 ≤ s.idx_split
  pub split-high : s.idx_split < length r.train.disp_path
  pub join-high : s.idx_split + length s.disp_path_new ≤ length r.train.est_times
  pub join_512 : s.idx_split + length s.disp_path_new ≤ 512
  pub div_split-low : 1 ≤ s.div_idx_split
  pub div_split-high : s.div_idx_split < length r.train.div_nodes
  pub divs_1024 : length r.train.div_nodes ≤ 1024
  pub new-divs-low : 1 ≤ length s.div_nodes_new
  pub new-divs-high : length s.div_nodes_new ≤ r.train.diverge_room
  pub pool-low : 1 ≤ length s.train_idxs_blocking
  pub pool-high : length s.train_idxs_blocking ≤ 2048
  pub save-high : s.idx_save ≤ length r.train.disp_path
  pub path_512 : length r.train.disp_path ≤ 512
  pub free_2560 : s.disp_node_idx_free ≤ 2560
