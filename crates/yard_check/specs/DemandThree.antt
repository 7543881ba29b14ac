-- Demand 3 (document 01): numbers don't matter. Two worlds are one yard under two numberings; the same calls, renumbered, give answers that match and
-- leave yards and occupancies that match, after each call of every list. The calls are over u16 entries or over u32 entries (document 02, Q-6).
-- Stated here, proved in proofs/DemandThree.antt. Assumes nothing.
use Rattle.std.specs.Prelude.{◌≡◌, true, List, [], ◌∷◌, ℕ, ◌-◌, ◌≤◌, ◌<◌, length, get_or}
use Rattle.link_rules.specs.Network.{link_count, table_fits}
use Rattle.link_rules.specs.Renumbering.{Renumbering, r_link, r_train}
use Rattle.link_rules.specs.Matching.{TablesMatch, OccupanciesMatch}
use Rattle.link_rules.specs.declared.link_idx.TrainIdx.{TrainIdx}
use Rattle.image_fault.specs.declared.Widths.{Widths}
use Rattle.image_fault.specs.declared.Widths.TheVariants.{Narrow, Either}
use Rattle.update_definition.specs.Fits.{TrainsUpTo}
use Rattle.yard_check.specs.Yard.{slot_count, yard_fits}
use Rattle.yard_check.specs.Check.{CheckArgs, largest_held, wide_rows, check_fault, row_at, checked_with}
use Rattle.yard_check.specs.YardMatch.{YardsMatch, ReportsMatch, AnswersMatch, NotRefused, ArgsMatch}
use Rattle.yard_check.specs.Calls.{World, Call, mark, check, Answered, marked, checked, Outcome, run, run_all}

-- ---- the two worlds before the first call

-- document 01's premises; top is the largest train
pub record OneYard (top : ℕ) (p q : ℕ → ℕ) (w w' : World) : Type 0 where
  -- links are permuted within 1 to L - 1; trains one to one on 1 to top, with 1 to S among themselves; other numbers stay themselves
  pub links : Renumbering (link_count w.table - 1) p
  pub trains : Renumbering top q
  pub slots : (t : ℕ) → t ≤ slot_count w.yard → q t ≤ slot_count w.yard
  -- the link tables, which mark accepts, match
  pub table : table_fits w.table ≡ true
  pub table' : table_fits w'.table ≡ true
  pub tables : TablesMatch p w.table w'.table
  -- the occupancies, of length L, match
  pub long : length w.occupancy ≡ link_count w.table
  pub occupancies : OccupanciesMatch p q w.occupancy w'.occupancy
  -- the yards, past 14, match. Document 01 has each image past 6 to 9 too, which is not needed
  pub yard : yard_fits w.yard ≡ true
  pub yard' : yard_fits w'.yard ≡ true
  pub yards : YardsMatch p q w.yard w'.yard

-- the largest train that is renumbered: of u16 entries 65,535; of u32 entries 999,999 where all images are wide, else 65,535
abbrev pub largest_in : Widths → (yard : List ℕ) → ℕ
largest_in Narrow yard = 65535
largest_in Either yard = largest_held yard

-- of u16 entries none is above 65,535; of u32 entries nothing is asked
abbrev pub EntriesOfType : Widths → List ℕ → Type 0
EntriesOfType Narrow occ = TrainsUpTo 65535 occ
EntriesOfType Either occ = Unit {0}

-- what the types say of the worlds of calls of these widths: yards are of u8
pub record OfTypes (v : Widths) (w w' : World) : Type 0 where
  pub bytes : (i : ℕ) → get_or w.yard i 0 < 256
  pub bytes' : (i : ℕ) → get_or w'.yard i 0 < 256
  pub entries : EntriesOfType v w.occupancy

-- ---- the calls

-- over the second yard link, train, moved train and blocking links are renumbered; all else and the lengths of the reports are the same
abbrev pub CallsMatch : (ℕ → ℕ) → (ℕ → ℕ) → Call → Call → Type 0
CallsMatch p q (mark v l t) (mark v' l' t') = (v' ≡ v) × (l' ≡ r_link p l) × (t' ≡ r_train q t)
CallsMatch p q (mark v l t) (check a r) = ⊥
CallsMatch p q (check a r) (mark v l t) = ⊥
CallsMatch p q (check a r) (check a' r') = ArgsMatch p q a a' × (length r' ≡ length r)

-- a train of u16 is up to 65,535
abbrev pub TrainOfType : Widths → TrainIdx → Type 0
TrainOfType Narrow t = t.0 ≤ 65535
TrainOfType Either t = Unit {0}

-- what the types say of a call: all calls of a list are over entries of one type, the round limit of a check is u16
abbrev pub CallOfTypes : Widths → Call → Type 0
CallOfTypes v (mark v' l t) = (v' ≡ v) × TrainOfType v t
CallOfTypes v (check a report) = (a.widths ≡ v) × (a.limit < 65536)

abbrev pub CallsOfTypes : Widths → List Call → Type 0
CallsOfTypes v [] = Unit {0}
CallsOfTypes v (c ∷ cs) = CallOfTypes v c × CallsOfTypes v cs

-- one by one, in lists of the same length
abbrev pub Each : {A : Type 0} → (A → A → Type 0) → List A → List A → Type 0
Each R [] [] = Unit {0}
Each R [] (y ∷ ys) = ⊥
Each R (x ∷ xs) [] = ⊥
Each R (x ∷ xs) (y ∷ ys) = R x y × Each R xs ys

-- ---- the premises over the first yard

-- a check that begins at slot 1, finds entry 0 of the occupancy empty, and reports no stray in any slot; without one of these numbers can matter
pub record Plain (yard occ : List ℕ) (a : CheckArgs) (report : List ℕ) : Type 0 where
  pub begin : a.begin ≡ 1
  pub zero_empty : get_or occ 0 0 ≡ 0
  pub strays : (t : ℕ) → 1 ≤ t → t ≤ slot_count yard → (row_at (wide_rows a.widths yard) (checked_with yard occ a report).report t).strays ≡ 0

-- each check that is not refused is such a one
abbrev pub Premise : World → Call → Type 0
Premise w (mark v l t) = Unit {0}
Premise w (check a report) = (check_fault w.yard w.occupancy a (length report)).number ≡ 0 → Plain w.yard w.occupancy a report

-- each call's on what the calls before it left
abbrev pub Premises : World → List Call → Type 0
Premises w [] = Unit {0}
Premises w (c ∷ cs) = Premise w c × Premises (run w c).world cs

-- ---- the claim

-- answers match, and so do the reports of a check that was not refused
abbrev pub AnsweredMatch : (ℕ → ℕ) → ℕ → Answered → Answered → Type 0
AnsweredMatch q slots (marked a) (marked b) = b ≡ a
AnsweredMatch q slots (marked a) (checked u b r) = ⊥
AnsweredMatch q slots (checked u a r) (marked b) = ⊥
AnsweredMatch q slots (checked u a r) (checked u' b s) = (u' ≡ u) × AnswersMatch a b × NotRefused (ReportsMatch q u slots r s) a

-- what two calls answer, and the occupancies and yards that they leave
pub record OutcomesMatch (p q : ℕ → ℕ) (o o' : Outcome) : Type 0 where
  pub answers : AnsweredMatch q (slot_count o.world.yard) o.answer o'.answer
  pub occupancies : OccupanciesMatch p q o.world.occupancy o'.world.occupancy
  pub yards : YardsMatch p q o.world.yard o'.world.yard

-- what is promised: for every largest train that the calls and all images hold
abbrev pub DemandThree : Type 0
DemandThree =
    (v : Widths) (top : ℕ) (p q : ℕ → ℕ) (w w' : World) (calls calls' : List Call)
    → top ≤ largest_in v w.yard → OneYard top p q w w' → OfTypes v w w' → Each (CallsMatch p q) calls calls' → CallsOfTypes v calls → Premises w calls
    → Each (OutcomesMatch p q) (run_all w calls) (run_all w' calls')
