-- What the functions of a splice may rely on and what they answer. Assumes nothing.
use Rattle.std.specs.Prelude.{ℕ, ◌+◌, ◌-◌, ◌^◌, ◌≤◌, ◌<◌, ◌≡◌, Bool, List, ◌++◌, length, take, drop, Result, IfOk}
use Rattle.link_rules.specs.declared.link_idx.LinkIdx.{LinkIdx}
use Rattle.disp_structs.specs.Listed.{listed}
use Rattle.disp_structs.specs.Train.{Train}
use Rattle.disp_structs.specs.Values.{same_est}
use Rattle.disp_structs.specs.declared.EstIdx.{EstIdx}
use Rattle.disp_structs.specs.declared.EstTime.{EstTime}
use Rattle.disp_structs.specs.declared.DispNode.{DispNode}
use Rattle.disp_structs.specs.declared.Metres.{Metres}
use Rattle.disp_structs.specs.declared.TrainIdxsView.{TrainIdxsView}
use Rattle.image.specs.Image.{est_count, node_at, node_place}
use Rattle.image.specs.declared.codec.PathHeader.{PathHeader}
use Rattle.free_path.specs.Base.{Res, ok, part, walk_from}
use Rattle.free_path.specs.Columns.{div_at}
use Rattle.free_path.specs.Halts.{answered_by}
use Rattle.free_path.specs.declared.halt.Halt.{Halt}
use Rattle.free_path.specs.LinkOptType.{links_on_path}
use Rattle.update_definition.specs.State.{Round, Search, Turn, ends, again, with_path, with_front_back}
use Rattle.update_definition.specs.Look.{Here}
use Rattle.update_definition.specs.Moves.{change_diverge}
use Rattle.update_definition.specs.Join as Joined
use Rattle.update_definition.specs.Join.{move_front_back, update_free_path_helpers, update_div_nodes}
use Rattle.splice.specs.Read.{Kept, Stands, Joins, Changes, finish_at}
use Rattle.update_definition.specs.ImageTrain.{train_of}
use Rattle.splice.specs.Parts.{tail_moves, moves_of}
use Rattle.splice.specs.Flags.{Holds, Gives, Below, exchanged}
use Rattle.splice.specs.declared.Again.{Again}
use Rattle.splice.specs.declared.Reached.{Reached}
use Rattle.splice.specs.declared.diverge.Divs.{Divs}
use Rattle.splice.specs.declared.ends.Ends.{Ends}
use Rattle.splice.specs.declared.join.Sides.{Sides}

-- ---- links on the path

-- the link of each of n Arrive nodes has a flag
abbrev pub AllBelow : (img : List ℕ) (n : ℕ) → Type 0
AllBelow img n = (i : ℕ) → i < n → Below (node_at img i).link_event

-- the links of the nodes from a up to e of a path come or go, as b says
abbrev pub ExchangesRange : (flags img : List ℕ) (a e : ℕ) (b : Bool) (r : Result (Unit {0}) Halt) (flags₁ : List ℕ) → Type 0
ExchangesRange flags img a e b r flags₁ =
    (n : ℕ) (on : List LinkIdx) → e ≤ n → Holds flags on → AllBelow img n
    → Gives r flags₁ (exchanged b (links_on_path (part a e (listed n (node_at img)))) on)

-- ---- diverge nodes

-- m diverge nodes, of which those from at up to k give way to c others, have room in their columns
abbrev pub DivsRoom : (dt dn nt nn : List ℕ) (c at k m : ℕ) → Type 0
DivsRoom dt dn nt nn c at k m =
    (at ≤ m)
    × (k ≤ m)
    × (m ≤ length dt)
    × (m ≤ length dn)
    × (at + c + (m - k) ≤ length dt)
    × (at + c + (m - k) ≤ length dn)
    × (1 + c + (m - k) ≤ length nt)
    × (1 + c + (m - k) ≤ length nn)

-- div_nodes.splice(at..k, the c new ones behind their sentinel)
abbrev pub DivsSpliced : (dt dn nt nn : List ℕ) (c at k m : ℕ) (dt₁ dn₁ : List ℕ) → Type 0
DivsSpliced dt dn nt nn c at k m dt₁ dn₁ =
    listed (at + c + (m - k)) (div_at dt₁ dn₁) ≡ take at (listed m (div_at dt dn)) ++ listed c (λ i. div_at nt nn (1 + i)) ++ drop k (listed m (div_at dt dn))

-- r is update_div_nodes of m diverge nodes and c new ones
abbrev pub DivsUpdated : (dt dn nt nn : List ℕ) (m c room split base join : ℕ) (r : Result Divs Halt) (dt₁ dn₁ : List ℕ) → Type 0
DivsUpdated dt dn nt nn m c room split base join r dt₁ dn₁ =
    (answered_by (λ v. record { div_nodes = listed v.count (div_at dt₁ dn₁); div_idx_split = v.split }) r ≡ update_div_nodes room (listed m (div_at dt dn)) (listed c (div_at nt nn)) split base join)
    × IfOk r (λ v. v.count ≤ room)

-- ---- path nodes

-- n nodes, of which those from split up to base give way to k new ones, have room in their images
abbrev pub PathRoom : (img fresh : List ℕ) (n split base k : ℕ) → Type 0
PathRoom img fresh n split base k =
    (split ≤ base)
    × (base ≤ n)
    × (node_place (est_count img) n ≤ length img)
    × (node_place (est_count img) (split + k + (n - base)) ≤ length img)
    × (node_place (est_count fresh) k ≤ length fresh)

-- disp_path.splice(split..base, the k new nodes), r being how many of its nodes moved
abbrev pub PathSpliced : (img fresh : List ℕ) (n split base k r : ℕ) (img₁ : List ℕ) → Type 0
PathSpliced img fresh n split base k r img₁ =
    (listed (split + k + (n - base)) (node_at img₁) ≡ take split (listed n (node_at img)) ++ listed k (node_at fresh) ++ drop base (listed n (node_at img)))
    × Kept img₁ img
    × (r ≡ tail_moves base (split + k) (n - base))

-- *idx_min and *idx_max
abbrev pub ends_of : Ends → Joined.Ends
ends_of v = record { low = v.low; high = v.high }

-- both have room in 16 bits
abbrev pub Small : Ends → Type 0
Small v = (v.low < 2 ^ 16) × (v.high < 2 ^ 16)

-- r is move_front_back of each train with this path, front and back
abbrev pub SidesMoved : (img : List ℕ) (n : ℕ) (fresh : List ℕ) (k split base front back : ℕ) (r : Result Sides Halt) → Type 0
SidesMoved img n fresh k split base front back r =
    (t : Train) → t.disp_path ≡ listed n (node_at img) → t.disp_node_idx_front ≡ front → t.disp_node_idx_back ≡ back
    → answered_by (λ v. with_front_back t v.front v.back) r ≡ move_front_back t (listed k (node_at fresh)) split base

-- what update_free_path_helpers may rely on
abbrev pub HelpersFit : (img fresh : List ℕ) (h : PathHeader) (p : Reached) → Type 0
HelpersFit img fresh h p =
    (p.split + p.new_count < 2 ^ 16)
    × (node_place (est_count img) h.path_count ≤ length img)
    × AllBelow img h.path_count
    × AllBelow fresh p.new_count

-- x and the path that is left are update_free_path_helpers of each train with this path, front and back
abbrev pub HelpersDone : (img fresh : List ℕ) (h : PathHeader) (p : Reached) (base : ℕ) (change : Metres) (x : Result Sides Halt) (img₁ : List ℕ) → Type 0
HelpersDone img fresh h p base change x img₁ =
    ((t : Train) → t.disp_path ≡ listed h.path_count (node_at img) → t.disp_node_idx_front ≡ h.front → t.disp_node_idx_back ≡ h.back
    → answered_by (λ v. with_front_back (with_path t (listed h.path_count (node_at img₁))) v.front v.back) x ≡ update_free_path_helpers t (listed p.new_count (node_at fresh)) p.split base change)
    × Kept img₁ img
    × IfOk x (λ _. p.split ≤ base)

-- ---- the end of a round

-- the turn that a splice answers, in the image and the columns that it leaves
abbrev pub again_in : (a : Result Again Halt) (img dt dn : List ℕ) → Res Turn
again_in a img dt dn = answered_by (λ v. ends (again (train_of img dt dn v.header) v.split v.div_split)) a

-- the answer of a change that leaves total diverge nodes
abbrev pub changed_to : (h : PathHeader) (total split div_split_of : ℕ) → Again
changed_to h total split div_split_of =
    record {
      header = record { path_count = h.path_count; diverge_count = total; fixed = h.fixed; free = h.fixed; front = h.front; back = h.back };
      split = split;
      div_split = div_split_of;
      moves = 0;
    }

-- a is change_diverge of each search that stands there
abbrev pub ChangesTo : (img dt dn : List ℕ) (h : PathHeader) (p : Reached) (other : EstIdx) (v : TrainIdxsView) (pool : List ℕ) (count : ℕ) (a : Result Again Halt) (dt₁ dn₁ : List ℕ) → Type 0
ChangesTo img dt dn h p other v pool count a dt₁ dn₁ =
    ((R : Round) (H : Here) (S : Search) → Stands img dt dn h p H.est_curr R H S → Changes pool count other v p H S → again_in a img dt₁ dn₁ ≡ change_diverge R H S)
    × IfOk a (λ v. v.moves ≡ 0)

-- a is finish_at, whatever the diverge nodes are
abbrev pub FinishesAt : (img fresh : List ℕ) (h : PathHeader) (p : Reached) (base div_split_of : ℕ) (a : Result Again Halt) (img₁ : List ℕ) → Type 0
FinishesAt img fresh h p base div_split_of a img₁ =
    ((dt dn : List ℕ) → again_in a img₁ dt dn ≡ finish_at (train_of img dt dn h) (listed p.new_count (node_at fresh)) p base div_split_of)
    × Kept img₁ img
    × IfOk a (λ v. v.moves ≡ moves_of (p.split + p.new_count) h.path_count (ok base))

-- where the old path has the next est (578-582)
abbrev pub join_base : (img : List ℕ) (h : PathHeader) (p : Reached) (est : EstTime) → Res ℕ
join_base img h p est = walk_from (λ x. same_est est.idx_next x.est_idx) (listed h.path_count (node_at img)) p.split_save

-- a is f, the join at base, of each search that stands there; unless it is refused, it leaves header and est records as they are
abbrev pub JoinsTo : (f : Round → Here → Search → Res Turn) (base : Res ℕ) (h : PathHeader) (p : Reached) (curr : DispNode) (est : EstTime) (img fresh dt dn nt nn : List ℕ) (a : Result Again Halt) (img₁ dt₁ dn₁ : List ℕ) → Type 0
JoinsTo f base h p curr est img fresh dt dn nt nn a img₁ dt₁ dn₁ =
    ((R : Round) (H : Here) (S : Search) → Stands img dt dn h p est R H S → Joins fresh nt nn p curr H S → again_in a img₁ dt₁ dn₁ ≡ f R H S)
    × IfOk a (λ v. Kept img₁ img × (v.moves ≡ moves_of (p.split + p.new_count) h.path_count base))
