-- What holds of the search of a round at the top of each turn, a record for each concern. Assumes nothing.
use Rattle.std.specs.Prelude.{ℕ, ◌+◌, ◌-◌, ◌*◌, ◌≤◌, ◌<◌, ◌≡◌, ◌⊎◌, Bool, true, false, not, List, ◌++◌, length, get_or, take}
use Rattle.link_rules.specs.LinkIdx.{no_train}
use Rattle.link_rules.specs.declared.link_idx.TrainIdx.{TrainIdx}
use Rattle.disp_structs.specs.Values.{view, is_blocked}
use Rattle.disp_structs.specs.declared.EstTime.{EstTime}
use Rattle.disp_structs.specs.declared.DispNode.{DispNode}
use Rattle.disp_structs.specs.declared.DivergeNode.{DivergeNode}
use Rattle.disp_structs.specs.declared.TrainIdxsView.{TrainIdxsView}
use Rattle.est_times.specs.Counts.{count_below, left_of}
use Rattle.free_path.specs.Base.{ok, at, before}
use Rattle.free_path.specs.TrainIdxsView.{pool_room}
use Rattle.update_definition.specs.State.{Round, Search, blocked}
use Rattle.update_definition.specs.Accepted.{Each, Chain, Leads, NodeAccepted, Sorted}
use Rattle.update_laws.specs.Turns.{SomeTrain}

-- ---- the stack

-- the path before idx_split, and the new nodes
abbrev pub stack : Round → Search → List DispNode
stack r s = take s.idx_split r.train.disp_path ++ s.disp_path_new

pub record StackGood (r : Round) (s : Search) : Type 0 where
  pub low : 1 ≤ s.idx_split
  pub high : s.idx_split < length r.train.disp_path
  pub steps : Chain (Leads r.train.est_times) (stack r s)

-- no est on it is blocked
abbrev pub StackOpen : Round → Search → Type 0
StackOpen r s = Each (λ (n : DispNode). blocked s.views n.est_idx ≡ false) (stack r s)

-- ---- new nodes: floats within 1e12, links below L, ests below E

abbrev pub NodesGood : ℕ → Round → Search → Type 0
NodesGood links r s = Each (NodeAccepted links (length r.train.est_times)) s.disp_path_new

-- ---- the pool and the views

-- not empty, in its room, and no train 0 but at its first place
pub record PoolGood (pool : List TrainIdx) : Type 0 where
  pub some : 1 ≤ length pool
  pub few : length pool ≤ pool_room
  pub trains : (i : ℕ) (t : TrainIdx) → 1 ≤ i → at pool i ≡ ok t → SomeTrain t

-- a view that blocks, into a pool of n trains
pub record Blocking (n : ℕ) (v : TrainIdxsView) : Type 0 where
  pub low : 1 ≤ v.idx_begin
  pub order : v.idx_begin ≤ v.idx_end
  pub high : v.idx_end ≤ n

-- an est's view is free or blocks
abbrev pub ViewGood : ℕ → TrainIdxsView → Type 0
ViewGood n v = (v ≡ view 0 0) ⊎ Blocking n v

-- e est records
pub record ViewsGood (e : ℕ) (s : Search) : Type 0 where
  pub pool : PoolGood s.train_idxs_blocking
  pub long : length s.views ≡ e
  pub each : (i : ℕ) → ViewGood (length s.train_idxs_blocking) (get_or s.views i (view 0 0))

-- ---- new diverge nodes

-- at a node from idx_split to idx_join_new, with a train
pub record NewDivGood (split join : ℕ) (d : DivergeNode) : Type 0 where
  pub low : split ≤ d.disp_node_idx
  pub high : d.disp_node_idx ≤ join
  pub train : SomeTrain d.train_idx

pub record NewDivsGood (r : Round) (s : Search) : Type 0 where
  pub first : at s.div_nodes_new 0 ≡ ok (record { train_idx = no_train; disp_node_idx = 0 })
  pub few : length s.div_nodes_new ≤ r.train.diverge_room
  pub sorted : Sorted s.div_nodes_new
  pub inner : (i : ℕ) (d : DivergeNode) → 1 ≤ i → at s.div_nodes_new i ≡ ok d → NewDivGood s.idx_split (s.idx_split + length s.disp_path_new) d

-- a new diverge node stands behind a node of the stack whose next est is blocked
abbrev pub DivsHeld : Round → Search → Type 0
DivsHeld r s = (i : ℕ) (d : DivergeNode) (n : DispNode) (x : EstTime) → 1 ≤ i → at s.div_nodes_new i ≡ ok d → at (stack r s) (d.disp_node_idx - 1) ≡ ok n → at r.train.est_times n.est_idx.0 ≡ ok x
    → blocked s.views x.idx_next ≡ true

-- ---- indices

pub record DivSplitGood (r : Round) (s : Search) : Type 0 where
  pub low : 1 ≤ s.div_idx_split
  pub high : s.div_idx_split < length r.train.div_nodes
  pub node : (d : DivergeNode) → before r.train.div_nodes s.div_idx_split ≡ ok d → d.disp_node_idx ≤ s.idx_split

abbrev pub SaveGood : Round → Search → Type 0
SaveGood r s = s.idx_save ≤ length r.train.disp_path

-- ---- what is left of the search, in turns

-- is the est at i not blocked?
abbrev pub open_at : List TrainIdxsView → ℕ → Bool
open_at views i = not (is_blocked (get_or views i (view 0 0)))

-- how many ests are not blocked
abbrev pub opens : Round → Search → ℕ
opens r s = count_below (length r.train.est_times) (open_at s.views)

-- how long the stack is: idx_join_new
abbrev pub depth : Search → ℕ
depth s = s.idx_split + length s.disp_path_new

-- by both of them
abbrev pub left : Round → Search → ℕ
left r s = left_of (length r.train.est_times) (opens r s) (depth s)

-- disp_node_idx_free rises by at most one a turn
abbrev pub FreeGood : Round → Search → Type 0
FreeGood r s = s.disp_node_idx_free + left r s ≤ 5 * length r.train.est_times

-- ---- all of it
pub record Good (links : ℕ) (r : Round) (s : Search) : Type 0 where
  pub stack-good : StackGood r s
  pub stack_open : StackOpen r s
  pub nodes-good : NodesGood links r s
  pub views-good : ViewsGood (length r.train.est_times) s
  pub divs-good : NewDivsGood r s
  pub divs-held : DivsHeld r s
  pub div_split-good : DivSplitGood r s
  pub save-good : SaveGood r s
  pub free-good : FreeGood r s
