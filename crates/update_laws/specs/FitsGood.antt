-- What holds of floats, auth and trains during an update: P holds of every train that it meets, as that it is up to the largest one, top.
-- Assumes nothing.
use Rattle.std.specs.Prelude.{ℕ, ◌≤◌, List, get_or}
use Rattle.link_rules.specs.declared.link_idx.TrainIdx.{TrainIdx}
use Rattle.disp_structs.specs.declared.DivergeNode.{DivergeNode}
use Rattle.update_definition.specs.State.{Round, Search, Ended, at_end, blocked_at, again}
use Rattle.update_definition.specs.Accepted.{Each}
use Rattle.update_definition.specs.Fits.{NodeFits, FitsWith}

-- P holds of the train of a diverge node
abbrev pub DivWith : (TrainIdx → Type 0) → DivergeNode → Type 0
DivWith P d = P d.train_idx

-- and of every entry of an occupancy, 0 where no train holds the link
abbrev pub EntriesWith : (TrainIdx → Type 0) → List ℕ → Type 0
EntriesWith P occ = (i : ℕ) → P (record { 0 = get_or occ i 0 })

-- the train of a round, and the trains that hold links
pub record RoundWith (P : TrainIdx → Type 0) (r : Round) : Type 0 where
  pub train : FitsWith P r.train
  pub held : EntriesWith P r.links_blocked

-- a search
pub record SearchWith (P : TrainIdx → Type 0) (s : Search) : Type 0 where
  pub pool : Each P s.train_idxs_blocking
  pub nodes : Each NodeFits s.disp_path_new
  pub divs : Each (DivWith P) s.div_nodes_new

-- how a round ends
abbrev pub EndsWith : (TrainIdx → Type 0) → Ended → Type 0
EndsWith P at_end = Unit {0}
EndsWith P (blocked_at u holder) = FitsWith P u × P holder
EndsWith P (again u split k) = FitsWith P u

-- ---- trains up to top

abbrev pub TrainFits : ℕ → TrainIdx → Type 0
TrainFits top t = t.0 ≤ top

abbrev pub RoundFits : ℕ → Round → Type 0
RoundFits top r = RoundWith (TrainFits top) r

abbrev pub SearchFits : ℕ → Search → Type 0
SearchFits top s = SearchWith (TrainFits top) s
