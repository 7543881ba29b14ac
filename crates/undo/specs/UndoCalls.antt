-- Lists of calls with undo in them (change request Q-5): document 01's calls, checks that fill an undo record, and undos, each from a record just as an
-- earlier check of the list filled it. Assumes nothing.
use Rattle.std.specs.Prelude.{List, [], ◌∷◌, ◌++◌, ℕ, zero, suc, length, get_or}
use Rattle.yard_check.specs.Check.{CheckArgs, wide_rows}
use Rattle.yard_check.specs.Calls.{World, Call, Outcome, marked, checked, run}
use Rattle.undo.specs.Undo.{recorded_fault, recorded_with, undone}

-- a call of document 01; a check with a report and a record buffer of its own; an undo from the record that call k of the list filled, counted from 0
pub data UndoCall : Type 0 where
  call : Call → UndoCall
  recorded : CheckArgs → List ℕ → List ℕ → UndoCall
  undo : ℕ → UndoCall

-- what a call answers and leaves, and the undo record that it filled: no bytes where it filled none
pub record Ran : Type 0 where
  pub outcome : Outcome
  pub filled : List ℕ

abbrev pub with_yard : World → List ℕ → World
with_yard w yard = record { table = w.table; occupancy = w.occupancy; yard = yard }

-- by the number of the check's refusal
abbrev pub filled_by : ℕ → List ℕ → List ℕ
filled_by zero r = r
filled_by (suc n) r = []

-- rs has for each call before this one the record that it filled. An undo is done or refused, as a mark is; the occupancy is not rewound
unfoldable pub run_with : World → List (List ℕ) → UndoCall → Ran
run_with w rs (call c) = record { outcome = run w c; filled = [] }
run_with w rs (recorded a report r) =
    let c = recorded_with w.yard w.occupancy a report r in
    let f = recorded_fault w.yard w.occupancy a (length report) (length r) in
    record { outcome = record { answer = checked (wide_rows a.widths w.yard) c.answer c.report; world = with_yard w c.yard }; filled = filled_by f.number c.undo_record }
run_with w rs (undo k) =
    let u = undone w.yard (get_or rs k []) in
    record { outcome = record { answer = marked u.answer; world = with_yard w u.yard }; filled = [] }

-- what each call of a list answers and leaves
unfoldable pub run_all_with : World → List (List ℕ) → List UndoCall → List Outcome
run_all_with w rs [] = []
run_all_with w rs (c ∷ cs) = let o = run_with w rs c in o.outcome ∷ run_all_with o.outcome.world (rs ++ (o.filled ∷ [])) cs
