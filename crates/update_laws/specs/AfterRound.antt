-- What holds of a round that has ended. Assumes nothing.
use Rattle.std.specs.Prelude.{ℕ, ◌≤◌, ◌<◌, ◌≡◌, List, length}
use Rattle.link_rules.specs.declared.link_idx.TrainIdx.{TrainIdx}
use Rattle.disp_structs.specs.Train.{Train}
use Rattle.disp_structs.specs.declared.DivergeNode.{DivergeNode}
use Rattle.free_path.specs.Base.{ok, at, before}
use Rattle.update_definition.specs.State.{Turn, go_on, ends, Ended, at_end, blocked_at, again}
use Rattle.update_definition.specs.Update.{Status, Success, Blocked, Faulty, Refused}
use Rattle.update_definition.specs.Accepted.{Accepted}

-- the diverge nodes before k stand at split or below it, those from k on above it
pub record DivPoint (divs : List DivergeNode) (split k : ℕ) : Type 0 where
  pub low : 1 ≤ k
  pub high : k < length divs
  pub under : (d : DivergeNode) → before divs k ≡ ok d → d.disp_node_idx ≤ split
  pub over : (d : DivergeNode) → at divs k ≡ ok d → split < d.disp_node_idx

-- what an update does not change of a train
pub record SameTrip (t u : Train) : Type 0 where
  pub ests : u.est_times ≡ t.est_times
  pub train : u.train_idx ≡ t.train_idx
  pub search : u.dist_disp_path_search ≡ t.dist_disp_path_search
  pub fixed_max : u.dist_fixed_max ≡ t.dist_fixed_max
  pub room : u.diverge_room ≡ t.diverge_room

-- an accepted train of the same trip
pub record StaysAccepted (links : ℕ) (t u : Train) : Type 0 where
  pub accepted : Accepted links u
  pub same : SameTrip t u

-- what the loop over rounds has of the next round: idx_split on the path, and the diverge nodes divided there
pub record NextRound (u : Train) (split k : ℕ) : Type 0 where
  pub low : 1 ≤ split
  pub high : split < length u.disp_path
  pub point : DivPoint u.div_nodes split k

-- a round of t ends so
abbrev pub EndsGood : ℕ → Train → Ended → Type 0
EndsGood links t at_end = Unit {0}
EndsGood links t (blocked_at u holder) = StaysAccepted links t u
EndsGood links t (again u split k) = StaysAccepted links t u × NextRound u split k

-- P holds of how a turn ends the round
abbrev pub AtEnd : (Ended → Type 0) → Turn → Type 0
AtEnd P (go_on u) = Unit {0}
AtEnd P (ends e) = P e

-- an update of t with this status leaves u: refused the train itself, else a train of which L holds; of the holder of a blocked one H holds
abbrev pub Leaves : (Train → Type 0) → (TrainIdx → Type 0) → Train → Status → Train → Type 0
Leaves L H t Success u = L u
Leaves L H t (Blocked holder) u = L u × H holder
Leaves L H t (Faulty n) u = L u
Leaves L H t (Refused r) u = u ≡ t
