-- Lists of calls (document 01, demand 3): mark, release and check, each on what the call before it left; over u16 entries, which take narrow images
-- alone, or over u32 entries (document 02, Q-6). Assumes nothing.
use Rattle.std.specs.Prelude.{Bool, List, [], ◌∷◌, ℕ}
use Rattle.link_rules.specs.AdvanceRewind.{Marked, mark_of}
use Rattle.link_rules.specs.declared.link_idx.LinkIdx.{LinkIdx}
use Rattle.link_rules.specs.declared.link_idx.TrainIdx.{TrainIdx}
use Rattle.link_rules.specs.Refusals as Mark
use Rattle.wide_occupancy.specs.WideOccupancy.{mark_wide_of}
use Rattle.image_fault.specs.declared.Widths.{Widths}
use Rattle.image_fault.specs.declared.Widths.TheVariants.{Narrow, Either}
use Rattle.yard_check.specs.Check.{CheckArgs, wide_rows, Answer, checked_with}

-- the one link table, the occupancy and the yard
pub record World : Type 0 where
  pub table : List ℕ
  pub occupancy : List ℕ
  pub yard : List ℕ

-- a mark, which releases where the train is 0; a check, with a report of its own
pub data Call : Type 0 where
  mark : Widths → LinkIdx → TrainIdx → Call
  check : CheckArgs → List ℕ → Call

-- the answer of a mark; of a check whether the report's records are wide, its answer, and the report that it leaves
pub data Answered : Type 0 where
  marked : Mark.Answer → Answered
  checked : (wide : Bool) → Answer → List ℕ → Answered

-- what a call answers, and what it leaves
pub record Outcome : Type 0 where
  pub answer : Answered
  pub world : World

abbrev pub mark_in : Widths → (table occ : List ℕ) → LinkIdx → TrainIdx → Marked
mark_in Narrow table occ l t = mark_of table occ l t
mark_in Either table occ l t = mark_wide_of table occ l t

unfoldable pub run : World → Call → Outcome
run w (mark v l t) =
    let m = mark_in v w.table w.occupancy l t in
    record { answer = marked m.answer; world = record { table = w.table; occupancy = m.occupancy; yard = w.yard } }
run w (check a report) =
    let c = checked_with w.yard w.occupancy a report in
    record { answer = checked (wide_rows a.widths w.yard) c.answer c.report; world = record { table = w.table; occupancy = w.occupancy; yard = c.yard } }

-- what each call of a list answers and leaves
unfoldable pub run_all : World → List Call → List Outcome
run_all w [] = []
run_all w (c ∷ cs) = let o = run w c in o ∷ run_all o.world cs
