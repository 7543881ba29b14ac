-- A train as the end of a round has it: in the bytes of an image, two columns of diverge nodes, and a header's numbers. Assumes nothing.
use Rattle.std.specs.Prelude.{ℕ, ◌+◌, ◌-◌, ◌^◌, ◌≤◌, ◌<◌, ◌≡◌, Bool, not, ◌&&◌, List, ◌++◌, ltb, leb, eqb, length, get_or, take, drop}
use Rattle.link_rules.specs.declared.link_idx.TrainIdx.{TrainIdx}
use Rattle.disp_structs.specs.Train.{Train}
use Rattle.disp_structs.specs.Values.{same_est}
use Rattle.disp_structs.specs.declared.EstIdx.{EstIdx}
use Rattle.disp_structs.specs.declared.EstTime.{EstTime}
use Rattle.disp_structs.specs.declared.DispNode.{DispNode}
use Rattle.image.specs.Image.{est_count, diverge_room, node_at, node_place}
use Rattle.image.specs.declared.codec.PathHeader.{PathHeader}
use Rattle.disp_structs.specs.declared.TrainIdxsView.{TrainIdxsView}
use Rattle.free_path.specs.Base.{Res, ok, ◌>>◌, need, room, walk_from, ◌>>=◌}
use Rattle.free_path.specs.Columns.{div_at, trains}
use Rattle.disp_structs.specs.Listed.{listed}
use Rattle.update_definition.specs.State.{Round, Search, Turn, ends, again, view_of, diverging, with_path, with_div_nodes, with_fixed, with_free}
use Rattle.update_definition.specs.ImageTrain.{train_of}
use Rattle.update_definition.specs.Look.{Here}
use Rattle.update_definition.specs.Join.{free_is_correct}
use Rattle.splice.specs.Parts.{DivsFit}
use Rattle.splice.specs.Flags.{Below}
use Rattle.splice.specs.declared.Reached.{Reached}

-- two images have the same length, and the same bytes before their path records: header and est records
pub record Kept (img was : List ℕ) : Type 0 where
  pub size : length img ≡ length was
  pub below : (i : ℕ) → i < node_place (est_count was) 0 → get_or img i 0 ≡ get_or was i 0

-- ---- where a search stands, as the numbers of p say

pub record Stands (img dt dn : List ℕ) (h : PathHeader) (p : Reached) (e : EstTime) (r : Round) (here : Here) (s : Search) : Type 0 where
  pub train : r.train ≡ train_of img dt dn h
  pub save : r.idx_split_save ≡ p.split_save
  pub split : s.idx_split ≡ p.split
  pub div_split_of : s.div_idx_split ≡ p.div_split
  pub free : s.disp_node_idx_free ≡ p.free
  pub join : here.idx_join_new ≡ p.join
  pub est : here.est_curr ≡ e

-- the new path and the new diverge nodes, and the current node
pub record Joins (fresh nt nn : List ℕ) (p : Reached) (n : DispNode) (here : Here) (s : Search) : Type 0 where
  pub path : s.disp_path_new ≡ listed p.new_count (node_at fresh)
  pub divs : s.div_nodes_new ≡ listed p.div_count (div_at nt nn)
  pub curr : here.disp_node_curr ≡ n

-- what a join may rely on: its lists have room in their arrays, each link of an Arrive node has a flag,
-- and the path that is left, wherever the old one has the next est, has at most as many nodes as there are est records
pub record JoinFits (img fresh dt dn nt nn : List ℕ) (h : PathHeader) (p : Reached) (next : EstIdx) : Type 0 where
  pub small : est_count img < 2 ^ 16
  pub path : h.path_count ≤ est_count img
  pub size : node_place (est_count img) (est_count img) ≤ length img
  pub new : p.split + p.new_count < 2 ^ 16
  pub room : node_place (est_count fresh) (est_count img) ≤ length fresh
  pub rest : (b : ℕ) → walk_from (λ x. same_est next x.est_idx) (listed h.path_count (node_at img)) p.split_save ≡ ok b → p.split ≤ b → p.split + p.new_count + (h.path_count - b) ≤ est_count img
  pub links : (i : ℕ) → i < h.path_count → Below (node_at img i).link_event
  pub new_links : (i : ℕ) → i < p.new_count → Below (node_at fresh i).link_event
  pub divs : DivsFit dt dn nt nn h.diverge_count p.div_count (diverge_room img) p.div_split p.join

-- what a splice of the path at base may rely on
pub record PathFits (img fresh : List ℕ) (h : PathHeader) (p : Reached) (base : ℕ) : Type 0 where
  pub small : est_count img < 2 ^ 16
  pub path : h.path_count ≤ est_count img
  pub size : node_place (est_count img) (est_count img) ≤ length img
  pub room : node_place (est_count fresh) (est_count img) ≤ length fresh
  pub first : p.split ≤ base
  pub inside : base ≤ h.path_count
  pub rest : p.split + p.new_count + (h.path_count - base) ≤ est_count img

-- the end of a join at base (600-631), for a train that has its offsets, its ends and its diverge nodes; d is the div_idx_split that is returned
unfoldable pub finish_at : Train → List DispNode → Reached → ℕ → ℕ → Res Turn
finish_at t new p base d = do
  let path = take p.split t.disp_path ++ new ++ drop base t.disp_path
  free_is_correct path p.free
  ok (ends (again (with_fixed (with_path t path) p.free) p.join d))

-- ---- a change of diverge nodes

-- the asserts (503-507): nothing new, and the old path and a diverge node at the split node
unfoldable pub at_split : (img : List ℕ) (n : ℕ) (p : Reached) (alt : EstIdx) (dn : List ℕ) (m : ℕ) → Bool
at_split img n p alt dn m =
    eqb p.new_count 0
    && (eqb p.div_count 1
    && (eqb p.join p.split
    && (ltb p.split n && (same_est alt (node_at img p.split).est_idx && (ltb p.div_split m && eqb p.split (get_or dn p.div_split 0))))))

-- where the old diverge nodes of the split node end (510-516)
unfoldable pub base_end : (img : List ℕ) (n : ℕ) (p : Reached) (alt : EstIdx) (dt dn : List ℕ) (m : ℕ) → Res ℕ
base_end img n p alt dt dn m = need (at_split img n p alt dn m) >> walk_from (λ d. not (eqb d.disp_node_idx p.split)) (listed m (div_at dt dn)) (p.div_split + 1)

-- the trains that are taken, in place of the diverge nodes up to k (518-531)
unfoldable pub change_at : Train → Reached → Res (List TrainIdx) → ℕ → Res Turn
change_at t p taken k = do
  ts ← taken
  let ds = take p.div_split t.div_nodes ++ diverging p.split ts ++ drop k t.div_nodes
  room (leb (length ds) t.diverge_room)
  ok (ends (again (with_free (with_div_nodes t ds) t.disp_node_idx_fixed) p.split (p.div_split + length ts)))

-- the pool, the view of the next est, the alternate, and how much is new
pub record Changes (pool : List ℕ) (count : ℕ) (other : EstIdx) (v : TrainIdxsView) (p : Reached) (here : Here) (s : Search) : Type 0 where
  pub train_idxs : s.train_idxs_blocking ≡ take count (trains pool)
  pub view : view_of s.views here.est_curr.idx_next ≡ v
  pub alt : here.est_curr.idx_next_alt ≡ other
  pub path : length s.disp_path_new ≡ p.new_count
  pub divs : length s.div_nodes_new ≡ p.div_count

-- what it may rely on: its lists have room in their arrays
pub record ChangeFits (img dt dn nt nn pool : List ℕ) (count : ℕ) (h : PathHeader) (p : Reached) : Type 0 where
  pub small : diverge_room img < 2 ^ 16
  pub held : h.diverge_count ≤ diverge_room img
  pub first : 0 < p.div_split
  pub inside : p.div_split < h.diverge_count
  pub split : p.split < 2 ^ 16
  pub train_room : diverge_room img ≤ length dt
  pub node_room : diverge_room img ≤ length dn
  pub new_trains : diverge_room img ≤ length nt
  pub new_nodes : diverge_room img ≤ length nn
  pub counted : count ≤ length pool
