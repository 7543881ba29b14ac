-- What update_free_path holds: the train, a round, the search of a round, and how they end (free_path.rs 252-343).
-- Conversions to a DispNodeIdx (u16) stand in no definition: at most 512 est records, none can fail. Assumes nothing.
use Rattle.std.specs.Prelude.{ℕ, ◌+◌, Bool, List, [], ◌∷◌, ◌++◌, map, leb, length, get_or, set}
use Rattle.link_rules.specs.declared.link_idx.TrainIdx.{TrainIdx}
use Rattle.disp_structs.specs.Values.{within, view, is_blocked}
use Rattle.disp_structs.specs.Train.{Train}
use Rattle.disp_structs.specs.declared.Metres.{Metres}
use Rattle.disp_structs.specs.declared.EstIdx.{EstIdx}
use Rattle.disp_structs.specs.declared.DispNode.{DispNode}
use Rattle.disp_structs.specs.declared.DivergeNode.{DivergeNode}
use Rattle.disp_structs.specs.declared.TrainIdxsView.{TrainIdxsView}
use Rattle.free_path.specs.Base.{Res, ok, ◌>>◌, room}
use Rattle.free_path.specs.TrainIdxsView.{pool_room}

-- ---- the train, one part set

abbrev pub with_path : Train → List DispNode → Train
with_path t x =
    record {
      est_times = t.est_times;
      disp_path = x;
      div_nodes = t.div_nodes;
      disp_node_idx_fixed = t.disp_node_idx_fixed;
      disp_node_idx_free = t.disp_node_idx_free;
      disp_node_idx_front = t.disp_node_idx_front;
      disp_node_idx_back = t.disp_node_idx_back;
      dist_disp_path_search = t.dist_disp_path_search;
      dist_fixed_max = t.dist_fixed_max;
      train_idx = t.train_idx;
      diverge_room = t.diverge_room;
    }

abbrev pub with_div_nodes : Train → List DivergeNode → Train
with_div_nodes t x =
    record {
      est_times = t.est_times;
      disp_path = t.disp_path;
      div_nodes = x;
      disp_node_idx_fixed = t.disp_node_idx_fixed;
      disp_node_idx_free = t.disp_node_idx_free;
      disp_node_idx_front = t.disp_node_idx_front;
      disp_node_idx_back = t.disp_node_idx_back;
      dist_disp_path_search = t.dist_disp_path_search;
      dist_fixed_max = t.dist_fixed_max;
      train_idx = t.train_idx;
      diverge_room = t.diverge_room;
    }

abbrev pub with_free : Train → ℕ → Train
with_free t x =
    record {
      est_times = t.est_times;
      disp_path = t.disp_path;
      div_nodes = t.div_nodes;
      disp_node_idx_fixed = t.disp_node_idx_fixed;
      disp_node_idx_free = x;
      disp_node_idx_front = t.disp_node_idx_front;
      disp_node_idx_back = t.disp_node_idx_back;
      dist_disp_path_search = t.dist_disp_path_search;
      dist_fixed_max = t.dist_fixed_max;
      train_idx = t.train_idx;
      diverge_room = t.diverge_room;
    }

-- disp_node_idx_fixed = disp_node_idx_free = x
abbrev pub with_fixed : Train → ℕ → Train
with_fixed t x =
    record {
      est_times = t.est_times;
      disp_path = t.disp_path;
      div_nodes = t.div_nodes;
      disp_node_idx_fixed = x;
      disp_node_idx_free = x;
      disp_node_idx_front = t.disp_node_idx_front;
      disp_node_idx_back = t.disp_node_idx_back;
      dist_disp_path_search = t.dist_disp_path_search;
      dist_fixed_max = t.dist_fixed_max;
      train_idx = t.train_idx;
      diverge_room = t.diverge_room;
    }

abbrev pub with_front_back : Train → ℕ → ℕ → Train
with_front_back t front back =
    record {
      est_times = t.est_times;
      disp_path = t.disp_path;
      div_nodes = t.div_nodes;
      disp_node_idx_fixed = t.disp_node_idx_fixed;
      disp_node_idx_free = t.disp_node_idx_free;
      disp_node_idx_front = front;
      disp_node_idx_back = back;
      dist_disp_path_search = t.dist_disp_path_search;
      dist_fixed_max = t.dist_fixed_max;
      train_idx = t.train_idx;
      diverge_room = t.diverge_room;
    }

-- ---- a round and its search

-- what the search of a round does not change
pub record Round : Type 0 where
  -- self, as the round found it
  pub train : Train
  pub links_blocked : List ℕ
  pub train_idx_moved : TrainIdx
  pub offset_cancel : Metres
  pub idx_split_save : ℕ

-- what it changes; views has the train_idxs_view of each of est_time_statuses
pub record Search : Type 0 where
  pub idx_split : ℕ
  pub div_idx_split : ℕ
  pub idx_save : ℕ
  pub disp_node_idx_free : ℕ
  pub disp_path_new : List DispNode
  pub div_nodes_new : List DivergeNode
  pub train_idxs_blocking : List TrainIdx
  pub views : List TrainIdxsView

abbrev pub set_split : Search → ℕ → Search
set_split s x = record { idx_split = x; div_idx_split = s.div_idx_split; idx_save = s.idx_save; disp_node_idx_free = s.disp_node_idx_free; disp_path_new = s.disp_path_new; div_nodes_new = s.div_nodes_new; train_idxs_blocking = s.train_idxs_blocking; views = s.views }

abbrev pub set_div_split : Search → ℕ → Search
set_div_split s x = record { idx_split = s.idx_split; div_idx_split = x; idx_save = s.idx_save; disp_node_idx_free = s.disp_node_idx_free; disp_path_new = s.disp_path_new; div_nodes_new = s.div_nodes_new; train_idxs_blocking = s.train_idxs_blocking; views = s.views }

abbrev pub set_save : Search → ℕ → Search
set_save s x = record { idx_split = s.idx_split; div_idx_split = s.div_idx_split; idx_save = x; disp_node_idx_free = s.disp_node_idx_free; disp_path_new = s.disp_path_new; div_nodes_new = s.div_nodes_new; train_idxs_blocking = s.train_idxs_blocking; views = s.views }

abbrev pub set_free : Search → ℕ → Search
set_free s x = record { idx_split = s.idx_split; div_idx_split = s.div_idx_split; idx_save = s.idx_save; disp_node_idx_free = x; disp_path_new = s.disp_path_new; div_nodes_new = s.div_nodes_new; train_idxs_blocking = s.train_idxs_blocking; views = s.views }

abbrev pub set_new : Search → List DispNode → Search
set_new s x = record { idx_split = s.idx_split; div_idx_split = s.div_idx_split; idx_save = s.idx_save; disp_node_idx_free = s.disp_node_idx_free; disp_path_new = x; div_nodes_new = s.div_nodes_new; train_idxs_blocking = s.train_idxs_blocking; views = s.views }

abbrev pub set_divs_new : Search → List DivergeNode → Search
set_divs_new s x = record { idx_split = s.idx_split; div_idx_split = s.div_idx_split; idx_save = s.idx_save; disp_node_idx_free = s.disp_node_idx_free; disp_path_new = s.disp_path_new; div_nodes_new = x; train_idxs_blocking = s.train_idxs_blocking; views = s.views }

abbrev pub set_pool : Search → List TrainIdx → Search
set_pool s x = record { idx_split = s.idx_split; div_idx_split = s.div_idx_split; idx_save = s.idx_save; disp_node_idx_free = s.disp_node_idx_free; disp_path_new = s.disp_path_new; div_nodes_new = s.div_nodes_new; train_idxs_blocking = x; views = s.views }

-- est_time_statuses[e].train_idxs_view = v
abbrev pub set_view : Search → EstIdx → TrainIdxsView → Search
set_view s e v = record { idx_split = s.idx_split; div_idx_split = s.div_idx_split; idx_save = s.idx_save; disp_node_idx_free = s.disp_node_idx_free; disp_path_new = s.disp_path_new; div_nodes_new = s.div_nodes_new; train_idxs_blocking = s.train_idxs_blocking; views = set s.views e.0 v }

-- how a round ends: at the end of the path (309), Blocked by a train (471), or with a splice, the next idx_split and div_idx_split (531, 631)
pub data Ended : Type 0 where
  at_end : Ended
  blocked_at : Train → TrainIdx → Ended
  again : Train → ℕ → ℕ → Ended

-- what a turn of the search gives: it goes on, or the round ends
pub data Turn : Type 0 where
  go_on : Search → Turn
  ends : Ended → Turn

-- ---- views

-- est_time_statuses[e].train_idxs_view
abbrev pub view_of : List TrainIdxsView → EstIdx → TrainIdxsView
view_of views e = get_or views e.0 (view 0 0)

-- est_time_statuses[e].is_blocked()
abbrev pub blocked : List TrainIdxsView → EstIdx → Bool
blocked views e = is_blocked (view_of views e)

-- ---- pushes, each with its room (document 01, refusal 11)

-- train_idxs_blocking
unfoldable pub push_trains : List TrainIdx → List TrainIdx → Res (List TrainIdx)
push_trains pool ts = do
  room (leb (length pool + length ts) pool_room)
  ok (pool ++ ts)

-- disp_path_new
unfoldable pub push_node : List DispNode → DispNode → Res (List DispNode)
push_node new n = do
  room (within n.offset)
  ok (new ++ (n ∷ []))

-- div_nodes_new
unfoldable pub push_divs : ℕ → List DivergeNode → List DivergeNode → Res (List DivergeNode)
push_divs diverge_room divs ds = do
  room (leb (length divs + length ds) diverge_room)
  ok (divs ++ ds)

-- trains that diverge at a node (486-491, 519-525)
unfoldable pub diverging : ℕ → List TrainIdx → List DivergeNode
diverging node ts = map (λ t. record { train_idx = t; disp_node_idx = node }) ts
