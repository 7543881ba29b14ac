-- A replay and its renumbered twin (document 02, Q-2, with demand 3 of document 01): they match after each step. Stated here, proved in proofs/TwinReplays.antt. Assumes nothing.
use Rattle.std.specs.Prelude.{◌≡◌, true, List, ℕ, ◌<◌, length, get_or}
use Rattle.link_rules.specs.Matching.{OccupanciesMatch}
use Rattle.image_fault.specs.declared.Widths.TheVariants.{Narrow}
use Rattle.yard_check.specs.YardMatch.{YardsMatch}
use Rattle.yard_check.specs.Calls.{World}
use Rattle.yard_check.specs.DemandThree.{OneYard, OfTypes, CallsMatch, Each, Premises, OutcomesMatch}
use Rattle.sitting.specs.Replay.{replay_fits, calls_of, report_length, outcomes_of, replay_of, Replayed}

-- the recorded calls of two recordings, with reports for each slot of their yards
abbrev pub RecordedMatch : (ℕ → ℕ) → (ℕ → ℕ) → List ℕ → List ℕ → World → World → Type 0
RecordedMatch p q r r' w w' = Each (CallsMatch p q) (calls_of r (report_length w.yard)) (calls_of r' (report_length w'.yard))

abbrev pub replay_in : List ℕ → World → List ℕ → Replayed
replay_in r w list = replay_of r w.table w.yard w.occupancy list

-- after each step the outcomes match; so the yards and occupancies that are left match, and the lists are the same
pub record ReplaysMatch (p q : ℕ → ℕ) (r r' : List ℕ) (w w' : World) (list list' : List ℕ) : Type 0 where
  pub steps : Each (OutcomesMatch p q) (outcomes_of r w) (outcomes_of r' w')
  pub answers : (replay_in r' w' list').answer ≡ (replay_in r w list).answer
  pub yards : YardsMatch p q (replay_in r w list).yard (replay_in r' w' list').yard
  pub occupancies : OccupanciesMatch p q (replay_in r w list).occupancy (replay_in r' w' list').occupancy
  pub lists : (replay_in r' w' list').list ≡ (replay_in r w list).list

-- two worlds are one yard under two numberings, two recordings that 19 does not refuse have the same calls renumbered, and each check of the first has demand 3's premises
abbrev pub TwinReplays : Type 0
TwinReplays =
    (p q : ℕ → ℕ) (r r' : List ℕ) (w w' : World) (list list' : List ℕ)
    → OneYard 65535 p q w w' → OfTypes Narrow w w' → ((i : ℕ) → get_or r i 0 < 256)
    → replay_fits r (length list) ≡ true → replay_fits r' (length list') ≡ true → RecordedMatch p q r r' w w'
    → Premises w (calls_of r (report_length w.yard))
    → ReplaysMatch p q r r' w w' list list'
