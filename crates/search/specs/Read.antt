-- What the numbers and arrays of the search stand for: the lists, the round, the place and the answers of update_definition's definitions. Assumes nothing.
use Rattle.std.specs.Prelude.{◌≡◌, ℕ, ◌+◌, ◌≤◌, ◌<◌, Bool, not, List, ltb, eqb, length, get_or, take, Result, IfOk}
use Rattle.link_rules.specs.declared.link_idx.TrainIdx.{TrainIdx}
use Rattle.disp_structs.specs.Values.{view}
use Rattle.disp_structs.specs.Train.{Train}
use Rattle.disp_structs.specs.declared.EstIdx.{EstIdx}
use Rattle.disp_structs.specs.declared.DispNode.{DispNode}
use Rattle.disp_structs.specs.declared.DivergeNode.{DivergeNode}
use Rattle.disp_structs.specs.declared.TrainIdxsView.{TrainIdxsView}
use Rattle.free_path.specs.Base.{Res, ok, ◌>>=◌, ◌>>◌, need, at, before}
use Rattle.free_path.specs.Columns.{div_at, tr, trains}
use Rattle.free_path.specs.Halts.{answered, answered_by}
use Rattle.free_path.specs.declared.halt.Halt.{Halt}
use Rattle.disp_structs.specs.Listed.{listed}
use Rattle.image.specs.Image.{ests_of, path_of}
use Rattle.update_definition.specs.State as State
use Rattle.free_path.specs.Validate.{on_path}
use Rattle.update_definition.specs.Look as Look
use Rattle.search.specs.declared.Round.{Round}
use Rattle.search.specs.declared.Place.{Place}
use Rattle.search.specs.declared.look.Here.{Here}
use Rattle.search.specs.declared.look.Stored.{Stored}
use Rattle.update_definition.specs.declared.Move.{Move}

-- ---- lists

-- diverge nodes in two columns
abbrev pub divs_of : (n : ℕ) (ts ns : List ℕ) → List DivergeNode
divs_of n ts ns = listed n (div_at ts ns)

-- views in two columns
abbrev pub view_at : (begins ends : List ℕ) (i : ℕ) → TrainIdxsView
view_at begins ends i = view (get_or begins i 0) (get_or ends i 0)

abbrev pub views_of : (n : ℕ) (begins ends : List ℕ) → List TrainIdxsView
views_of n begins ends = listed n (view_at begins ends)

-- k trains of a column, from a on
abbrev pub trains_from : (col : List ℕ) (a k : ℕ) → List TrainIdx
trains_from col a k = listed k (λ j. tr (get_or col (a + j) 0))

-- ---- is_on_path as flags

abbrev pub on_flag : List ℕ → EstIdx → Bool
on_flag on e = not (eqb (get_or on e.0 0) 0)

-- the flags are those of a path
abbrev pub Marked : List ℕ → List DispNode → Type 0
Marked on path = (e : EstIdx) → on_flag on e ≡ on_path path e

-- ---- the round, the place of the search, and where it stands

-- what of the train no search reads is t's
abbrev pub round_train : (t : Train) (img dt dn : List ℕ) (r : Round) → Train
round_train t img dt dn r =
    record {
      est_times = ests_of img r.est_count;
      disp_path = path_of img r.path_count;
      div_nodes = divs_of r.diverge_count dt dn;
      disp_node_idx_fixed = r.disp_node_idx_fixed;
      disp_node_idx_free = t.disp_node_idx_free;
      disp_node_idx_front = t.disp_node_idx_front;
      disp_node_idx_back = t.disp_node_idx_back;
      dist_disp_path_search = t.dist_disp_path_search;
      dist_fixed_max = t.dist_fixed_max;
      train_idx = t.train_idx;
      diverge_room = r.diverge_room;
    }

abbrev pub round_of : (t : Train) (occ img dt dn : List ℕ) (r : Round) → State.Round
round_of t occ img dt dn r =
    record {
      train = round_train t img dt dn r;
      links_blocked = occ;
      train_idx_moved = r.train_idx_moved;
      offset_cancel = r.offset_cancel;
      idx_split_save = r.idx_split_save;
    }

abbrev pub search_of : Place → List DispNode → List DivergeNode → List TrainIdx → List TrainIdxsView → State.Search
search_of p new divs pool views =
    record {
      idx_split = p.idx_split;
      div_idx_split = p.div_idx_split;
      idx_save = p.idx_save;
      disp_node_idx_free = p.disp_node_idx_free;
      disp_path_new = new;
      div_nodes_new = divs;
      train_idxs_blocking = pool;
      views = views;
    }

abbrev pub here_of : Here → Look.Here
here_of h = record { idx_join_new = h.idx_join_new; disp_node_curr = h.disp_node_curr; est_curr = h.est_curr; est_next = h.est_next }

abbrev pub stored_of : Stored → Look.Stored
stored_of x = record { div_idx_split = x.div_idx_split; met = x.met }

-- ---- bounds

-- numbers of a place whose sums do not wrap
pub record Small (p : Place) : Type 0 where
  pub split : p.idx_split ≤ 512
  pub div_split_of : p.div_idx_split ≤ 1024
  pub save : p.idx_save ≤ 512
  pub free : p.disp_node_idx_free < 16384
  pub new : p.new_count < 16384
  pub divs : p.div_count ≤ 1024
  pub pool : p.pool_count ≤ 2048

-- the pool and the columns of views that are lent
pub record Arrays : Type 0 where
  pub pool : List ℕ
  pub begins : List ℕ
  pub ends : List ℕ

abbrev pub arrays : (pool begins ends : List ℕ) → Arrays
arrays pool begins ends = record { pool = pool; begins = begins; ends = ends }

-- they have room for 2,048 trains and the views of n est records
pub record Lent (n : ℕ) (a : Arrays) : Type 0 where
  pub est : n ≤ 512
  pub trains : length a.pool ≡ 2048
  pub first : n ≤ length a.begins
  pub last : n ≤ length a.ends

-- the search at a place, with n est records
abbrev pub search_in : ℕ → Place → List DispNode → List DivergeNode → Arrays → State.Search
search_in n p new divs a = search_of p new divs (take p.pool_count (trains a.pool)) (views_of n a.begins a.ends)

-- a place of which only div_idx_split and the pool's count may be others
abbrev pub place_with : Place → ℕ → ℕ → Place
place_with p div_split_of pool =
    record {
      idx_split = p.idx_split;
      div_idx_split = div_split_of;
      idx_save = p.idx_save;
      disp_node_idx_free = p.disp_node_idx_free;
      new_count = p.new_count;
      div_count = p.div_count;
      pool_count = pool;
    }

-- x and the arrays b are what f makes of the search at p with the arrays a, whatever the new path and the new diverge nodes are
pub record Steps (n : ℕ) (p : Place) (a : Arrays) (x : Result Place Halt) (b : Arrays) (f : State.Search → Res State.Search) : Type 0 where
  pub is : (new : List DispNode) (divs : List DivergeNode) → answered_by (λ q. search_in n q new divs b) x ≡ f (search_in n p new divs a)
  pub small : IfOk x Small
  pub kept : IfOk x (λ q. q ≡ place_with p q.div_idx_split q.pool_count)

-- ---- what a turn does up to its move

-- the assert on the diverge nodes before and at i (357-360)
abbrev pub rising : List DivergeNode → ℕ → Res (Unit {0})
rising divs i = before divs i >>= λ a. at divs i >>= λ b. need (ltb a.disp_node_idx b.disp_node_idx)

-- h is where the search stands, whatever the columns have that it does not read
abbrev pub Looks : (h : Result Here Halt) (img : List ℕ) (r : Round) (p : Place) (curr : DispNode) (ends dn : List ℕ) → Type 0
Looks h img r p curr ends dn =
    ((b t : List ℕ) → answered_by here_of h ≡ Look.look_from (ok curr) (p.idx_split + p.new_count) (ests_of img r.est_count) (views_of r.est_count b ends) (divs_of r.diverge_count t dn) p.div_idx_split)
    × IfOk h (λ x. x.idx_join_new ≤ p.idx_split + p.new_count)

-- disp_node_idx of div_nodes[i - 1]
abbrev pub node_before : List DivergeNode → ℕ → Res ℕ
node_before divs i = before divs i >>= λ d. ok d.disp_node_idx

-- the assert after the stored trains (393)
abbrev pub settle : List DivergeNode → ℕ → State.Search → Res State.Search
settle divs join s = before divs s.div_idx_split >>= λ b. need (ltb b.disp_node_idx join) >> ok s

-- ---- what the functions of a turn up to its move answer; what they bind, they do not read

-- the stored trains from div on block the next est: block_stored
abbrev pub BlocksStored : (dt : List ℕ) (r : Round) (h : Here) (p : Place) (div : ℕ) (a : Arrays) (x : Result Place Halt) (b : Arrays) → Type 0
BlocksStored dt r h p div a x b =
    (t : Train) (occ img dn : List ℕ) (met : Bool)
    → Steps r.est_count p a x b (λ s. Look.block_stored (round_of t occ img dt dn r) (here_of h) s (record { div_idx_split = div; met = met }))

-- f is take_stored or stored_trains, on the flags of the path
abbrev pub StepsStored : (f : State.Round → Look.Here → State.Search → Res State.Search) (dt dn on : List ℕ) (r : Round) (h : Here) (p : Place) (a : Arrays) (x : Result Place Halt) (b : Arrays) → Type 0
StepsStored f dt dn on r h p a x b =
    (t : Train) (occ img : List ℕ) → Marked on (path_of img r.path_count)
    → Steps r.est_count p a x b (λ s. f (round_of t occ img dt dn r) (here_of h) s)

-- y is q, and refused where the assert after the stored trains does not hold, of a search that stands at q
abbrev pub Settles : (dn : List ℕ) (m join : ℕ) (q : Place) (y : Result Place Halt) → Type 0
Settles dn m join q y =
    IfOk y (λ z. z ≡ q)
    × ((t : List ℕ) (standing : Place → State.Search) → (standing q).div_idx_split ≡ q.div_idx_split
    → answered_by standing y ≡ settle (divs_of m t dn) join (standing q))

-- x is meets_train of a search with that disp_node_idx_free
abbrev pub MeetsAt : (occ : List ℕ) (n : ℕ) (h : Here) (free : ℕ) (ends : List ℕ) (x : Bool) → Type 0
MeetsAt occ n h free ends x =
    (p : Place) (new : List DispNode) (divs : List DivergeNode) (pool : List TrainIdx) (b : List ℕ) → p.disp_node_idx_free ≡ free
    → x ≡ Look.meets_train occ (here_of h) (search_of p new divs pool (views_of n b ends))

-- occupied_next
abbrev pub StepsNext : (occ : List ℕ) (r : Round) (h : Here) (p : Place) (a : Arrays) (x : Result Place Halt) (b : Arrays) → Type 0
StepsNext occ r h p a x b = (t : Train) (img dt dn : List ℕ) → Steps r.est_count p a x b (λ s. Look.occupied_next (round_of t occ img dt dn r) (here_of h) s)

-- x is move_of, on the flags of the path
abbrev pub Chooses : (img on : List ℕ) (r : Round) (h : Here) (p : Place) (ends : List ℕ) (x : Result Move Halt) → Type 0
Chooses img on r h p ends x =
    (t : Train) (occ dt dn b : List ℕ) (new : List DispNode) (divs : List DivergeNode) (pool : List TrainIdx) → Marked on (path_of img r.path_count)
    → answered x ≡ Look.move_of (round_of t occ img dt dn r) (here_of h) (search_of p new divs pool (views_of r.est_count b ends))
