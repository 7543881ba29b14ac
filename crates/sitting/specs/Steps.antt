-- What the code of a replay gives, read as the definitions of Replay have it, and its loop over the steps. Assumes nothing.
use Rattle.std.specs.Prelude.{ℕ, ◌≤◌, ◌≡◌, List, map, length, replicate}
use Rattle.link_rules.specs.Network.{table_fits}
use Rattle.link_rules.specs.AdvanceRewind.{mark_of}
use Rattle.link_rules.specs.Refusals as Mark
use Rattle.yard_check.specs.Check.{checked_with}
use Rattle.yard_check.specs.Calls.{World, Outcome, run, run_all}
use Rattle.sitting.specs.Replay.{check_args, call_of, first_calls, mark_number, check_number, step_number, last_world, world_of, Replayed}
use Rattle.sitting.specs.declared.Step.{Step}
use Rattle.sitting.specs.declared.Judged.{Judged}

-- the table is judged, and there is room for the report
pub record Judges (table : List ℕ) (j : Judged) : Type 0 where
  pub fits : j.table ≡ table_fits table
  pub room : j.report ≤ 1260

-- the check of step s with n of its blocking links and a report of this length
pub record CheckMade (r : List ℕ) (s : Step) (n rows : ℕ) (yard occ : List ℕ) (x : ℕ) (yard' : List ℕ) : Type 0 where
  pub number : x ≡ check_number (checked_with yard occ (check_args r s n) (replicate rows 0)).answer
  pub yard-left : yard' ≡ (checked_with yard occ (check_args r s n) (replicate rows 0)).yard

pub record MarkMade (table : List ℕ) (s : Step) (occ : List ℕ) (x : ℕ) (occ' : List ℕ) : Type 0 where
  pub number : x ≡ mark_number (mark_of table occ (record { 0 = s.first }) (record { 0 = s.train })).answer
  pub occupancy-left : occ' ≡ (mark_of table occ (record { 0 = s.first }) (record { 0 = s.train })).occupancy

pub record StepMade (r : List ℕ) (rows : ℕ) (s : Step) (table occ yard : List ℕ) (x : ℕ) (occ' yard' : List ℕ) : Type 0 where
  pub number : x ≡ step_number (run (world_of table occ yard) (call_of r rows s))
  pub world : world_of table occ' yard' ≡ (run (world_of table occ yard) (call_of r rows s)).world

-- the outcomes of the first n steps
abbrev pub first_outcomes : (r : List ℕ) (rows : ℕ) (w : World) (n : ℕ) → List Outcome
first_outcomes r rows w n = run_all w (first_calls r rows n)

-- as many steps as the list has entries
pub record AllMade (r : List ℕ) (rows : ℕ) (table occ yard list occ' yard' list' : List ℕ) : Type 0 where
  pub world : world_of table occ' yard' ≡ last_world (world_of table occ yard) (first_outcomes r rows (world_of table occ yard) (length list))
  pub numbers : list' ≡ map step_number (first_outcomes r rows (world_of table occ yard) (length list))

-- what the code gives
abbrev pub replayed_of : (x : Mark.Answer) (yard occ list : List ℕ) → Replayed
replayed_of x yard occ list = record { answer = x; yard = yard; occupancy = occ; list = list }
