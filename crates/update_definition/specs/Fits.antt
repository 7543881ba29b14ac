-- What an image can hold of a train beyond what is accepted: floats of binary64, auth and the header's train in 16 bits (document 01, Layouts), and
-- in its diverge nodes trains up to a largest one. The largest train is a parameter of every law of an update. Assumes nothing.
use Rattle.std.specs.Prelude.{ℕ, ◌≤◌, ◌<◌, List, T, get_or}
use Rattle.std.specs.Float.{binary64}
use Rattle.std.specs.Float.Ieee.{fits}
use Rattle.link_rules.specs.declared.link_idx.TrainIdx.{TrainIdx}
use Rattle.disp_structs.specs.Train.{Train}
use Rattle.disp_structs.specs.declared.EstTime.{EstTime}
use Rattle.disp_structs.specs.declared.DispNode.{DispNode}
use Rattle.disp_structs.specs.declared.DivergeNode.{DivergeNode}
use Rattle.update_definition.specs.Accepted.{Each}

-- no entry of an occupancy is above top
abbrev pub TrainsUpTo : ℕ → List ℕ → Type 0
TrainsUpTo top occ = (i : ℕ) → get_or occ i 0 ≤ top

-- the trains that an update is given, in its occupancy and the moved one, are up to top
pub record TrainsWithin (top : ℕ) (occ : List ℕ) (moved : ℕ) : Type 0 where
  pub entries : TrainsUpTo top occ
  pub moved-low : moved ≤ top

-- a path record: its floats, and auth in 16 bits
pub record NodeFits (n : DispNode) : Type 0 where
  pub offset-fits : T (fits binary64 n.offset.0)
  pub time-fits : T (fits binary64 n.time_pass.0)
  pub auth : n.disp_auth_idx_entry < 65536

-- the whole train; P holds of the train of each diverge node
pub record FitsWith (P : TrainIdx → Type 0) (t : Train) : Type 0 where
  pub ests : Each (λ (x : EstTime). T (fits binary64 x.dist_to_next.0)) t.est_times
  pub nodes : Each NodeFits t.disp_path
  pub divs : Each (λ (d : DivergeNode). P d.train_idx) t.div_nodes
  pub train : t.train_idx.0 < 65536
  pub search : T (fits binary64 t.dist_disp_path_search.0)
  pub fixed_max : T (fits binary64 t.dist_fixed_max.0)

-- no diverge node has a train above top
abbrev pub Fits : ℕ → Train → Type 0
Fits top t = FitsWith (λ (x : TrainIdx). x.0 ≤ top) t
