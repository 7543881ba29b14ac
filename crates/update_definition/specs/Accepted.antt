-- What passing refusals 6 to 9 says of a train (document 01, Update). Assumes nothing.
use Rattle.std.specs.Prelude.{ℕ, suc, ◌≤◌, ◌<◌, ◌≡◌, ◌⊎◌, Bool, true, false, not, ◌&&◌, ◌||◌, List, [], ◌∷◌, map, length, None}
use Rattle.std.specs.Float.Ieee.{lt}
use Rattle.link_rules.specs.LinkIdx.{no_train}
use Rattle.link_rules.specs.declared.link_idx.LinkIdx.{LinkIdx}
use Rattle.disp_structs.specs.Floats.{nought, in_reach}
use Rattle.disp_structs.specs.Values.{is_arrive, within, is_never}
use Rattle.disp_structs.specs.Train.{Train}
use Rattle.disp_structs.specs.declared.Metres.{Metres}
use Rattle.disp_structs.specs.declared.Seconds.{Seconds}
use Rattle.disp_structs.specs.declared.LinkEvent.{LinkEvent}
use Rattle.disp_structs.specs.declared.EstTime.{EstTime}
use Rattle.disp_structs.specs.declared.DispNode.{DispNode}
use Rattle.disp_structs.specs.declared.DivergeNode.{DivergeNode}
use Rattle.est_times.specs.Cycles.{first_on_cycle}
use Rattle.free_path.specs.Base.{ok, at, last}
use Rattle.free_path.specs.LinkOptType.{links_on_path, contains}

-- ---- lists

-- P holds of each entry
abbrev pub Each : {A : Type 0} → (A → Type 0) → List A → Type 0
Each {A} P xs = (i : ℕ) (x : A) → at xs i ≡ ok x → P x

-- R holds of each entry and the one behind it
abbrev pub Chain : {A : Type 0} → (A → A → Type 0) → List A → Type 0
Chain {A} R xs = (i : ℕ) (x y : A) → at xs i ≡ ok x → at xs (suc i) ≡ ok y → R x y

-- no link twice
abbrev pub Distinct : List LinkIdx → Type 0
Distinct [] = Unit {0}
Distinct (l ∷ ls) = (contains ls l ≡ false) × Distinct ls

-- ---- records (refusal 7); in_reach and within are false of a NaN and of an infinity

-- a link below L, and not 0 where an event is Arrive
pub record EventAccepted (links : ℕ) (v : LinkEvent) : Type 0 where
  pub link : v.link_idx.0 < links
  pub arrives : is_arrive v.est_type ≡ true → v.link_idx.0 ≡ 0 → ⊥

-- one of e est records
pub record EstAccepted (links e : ℕ) (x : EstTime) : Type 0 where
  pub dist : within x.dist_to_next ≡ true
  pub next : x.idx_next.0 < e
  pub alt : x.idx_next_alt.0 < e
  pub prev : x.idx_prev.0 < e
  pub prev_alt : x.idx_prev_alt.0 < e
  pub event : EventAccepted links x.link_event

-- +infinity, or finite and at most 1e12 in magnitude
abbrev pub time_accepted : Seconds → Bool
time_accepted t = is_never t || in_reach t.0

-- a path record beside e est records
pub record NodeAccepted (links e : ℕ) (n : DispNode) : Type 0 where
  pub reach : within n.offset ≡ true
  pub time : time_accepted n.time_pass ≡ true
  pub event : EventAccepted links n.link_event
  pub est : n.est_idx.0 < e

-- a distance setting: finite, at most 1e12, not negative; -0 is not negative
abbrev pub distance_accepted : Metres → Bool
distance_accepted d = within d && not (lt d.0 nought)

-- ---- est records (refusals 6 to 8)

abbrev pub nexts : List EstTime → List ℕ
nexts est = map (λ (x : EstTime). x.idx_next.0) est

abbrev pub alts : List EstTime → List ℕ
alts est = map (λ (x : EstTime). x.idx_next_alt.0) est

-- from 1 to 512, each accepted, on no cycle
pub record EstsAccepted (links : ℕ) (est : List EstTime) : Type 0 where
  pub some : 1 ≤ length est
  pub few : length est ≤ 512
  pub each : Each (EstAccepted links (length est)) est
  pub acyclic : first_on_cycle (nexts est) (alts est) (length est) ≡ None

-- ---- the path (refusals 6, 7 and 9)

-- a's est record x leads to b's by next or alt; to est 0 leads no step
pub record Leads (est : List EstTime) (a b : DispNode) : Type 0 where
  pub record_of : EstTime
  pub stands : at est a.est_idx.0 ≡ ok record_of
  pub some : b.est_idx.0 ≡ 0 → ⊥
  pub leads : (record_of.idx_next.0 ≡ b.est_idx.0) ⊎ (record_of.idx_next_alt.0 ≡ b.est_idx.0)

-- the last node's est record has next 0
abbrev pub EndsPath : List EstTime → List DispNode → Type 0
EndsPath est path = (n : DispNode) (x : EstTime) → last path ≡ ok n → at est n.est_idx.0 ≡ ok x → x.idx_next.0 ≡ 0

-- from 1 to E nodes: the first at est 0, each leads to the next, the last has no next, no Arrive link twice
pub record PathAccepted (links : ℕ) (est : List EstTime) (path : List DispNode) : Type 0 where
  pub some : 1 ≤ length path
  pub few : length path ≤ length est
  pub each : Each (NodeAccepted links (length est)) path
  pub starts : (n : DispNode) → at path 0 ≡ ok n → n.est_idx.0 ≡ 0
  pub steps : Chain (Leads est) path
  pub ends : EndsPath est path
  pub distinct : Distinct (links_on_path path)

-- ---- diverge nodes (refusals 6 and 9)

-- sorted by node alone
abbrev pub Sorted : List DivergeNode → Type 0
Sorted divs = Chain (λ (a b : DivergeNode). a.disp_node_idx ≤ b.disp_node_idx) divs

-- a node from 1 to n - 1, a train that is not 0
pub record InnerAccepted (n : ℕ) (d : DivergeNode) : Type 0 where
  pub low : 1 ≤ d.disp_node_idx
  pub high : d.disp_node_idx < n
  pub train : d.train_idx.0 ≡ 0 → ⊥

-- from 2 to room: first (0, 0), last at n, the path's length, between them inner ones, sorted
pub record DivsAccepted (n room : ℕ) (divs : List DivergeNode) : Type 0 where
  pub some : 2 ≤ length divs
  pub few : length divs ≤ room
  pub first : at divs 0 ≡ ok (record { train_idx = no_train; disp_node_idx = 0 })
  pub end : (d : DivergeNode) → last divs ≡ ok d → d.disp_node_idx ≡ n
  pub sorted : Sorted divs
  pub inner : (i : ℕ) (d : DivergeNode) → 1 ≤ i → suc i < length divs → at divs i ≡ ok d → InnerAccepted n d

-- ---- the train, its header (refusals 6 and 7) among it; links is L
pub record Accepted (links : ℕ) (t : Train) : Type 0 where
  pub ests : EstsAccepted links t.est_times
  pub path : PathAccepted links t.est_times t.disp_path
  pub divs : DivsAccepted (length t.disp_path) t.diverge_room t.div_nodes
  pub room : t.diverge_room ≤ 1024
  pub fixed : t.disp_node_idx_fixed ≤ length t.disp_path
  pub free : t.disp_node_idx_free ≤ length t.disp_path
  pub front : t.disp_node_idx_front < length t.disp_path
  pub back : t.disp_node_idx_back < length t.disp_path
  pub search : distance_accepted t.dist_disp_path_search ≡ true
  pub fixed_max : distance_accepted t.dist_fixed_max ≡ true
  pub train : t.train_idx.0 ≡ 0 → ⊥
