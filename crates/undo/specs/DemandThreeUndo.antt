-- Demand 3 over lists with undo in them (change request Q-5): they match under renumbering as well. Stated here, proved in proofs/DemandThreeUndo.antt, where
-- demand 3 follows from it as the lists without a record. Assumes nothing.
use Rattle.std.specs.Prelude.{◌≡◌, List, [], ◌∷◌, ◌++◌, ℕ, ◌≤◌, ◌<◌, length}
use Rattle.image_fault.specs.declared.Widths.{Widths}
use Rattle.yard_check.specs.YardMatch.{ArgsMatch}
use Rattle.yard_check.specs.Calls.{World}
use Rattle.yard_check.specs.DemandThree.{OneYard, largest_in, OfTypes, CallsMatch, CallOfTypes, Plain, Premise, Each, OutcomesMatch}
use Rattle.undo.specs.Undo.{recorded_fault}
use Rattle.undo.specs.UndoCalls.{UndoCall, call, recorded, undo, run_with, run_all_with}

-- a recorded check is renumbered as a check is, and the lengths of the record buffers are the same; an undo is from the record of the same call, its twin
abbrev pub UndoCallsMatch : (ℕ → ℕ) → (ℕ → ℕ) → UndoCall → UndoCall → Type 0
UndoCallsMatch p q (call c) (call c') = CallsMatch p q c c'
UndoCallsMatch p q (call c) (recorded a s r) = ⊥
UndoCallsMatch p q (call c) (undo k) = ⊥
UndoCallsMatch p q (recorded a s r) (call c) = ⊥
UndoCallsMatch p q (recorded a s r) (recorded a' s' r') = ArgsMatch p q a a' × (length s' ≡ length s) × (length r' ≡ length r)
UndoCallsMatch p q (recorded a s r) (undo k) = ⊥
UndoCallsMatch p q (undo k) (call c) = ⊥
UndoCallsMatch p q (undo k) (recorded a s r) = ⊥
UndoCallsMatch p q (undo k) (undo k') = k' ≡ k

-- what the types say, of a recorded check as of a check
abbrev pub UndoCallOfTypes : Widths → UndoCall → Type 0
UndoCallOfTypes v (call c) = CallOfTypes v c
UndoCallOfTypes v (recorded a report r) = (a.widths ≡ v) × (a.limit < 65536)
UndoCallOfTypes v (undo k) = Unit {0}

abbrev pub UndoCallsOfTypes : Widths → List UndoCall → Type 0
UndoCallsOfTypes v [] = Unit {0}
UndoCallsOfTypes v (c ∷ cs) = UndoCallOfTypes v c × UndoCallsOfTypes v cs

-- ---- the premises over the first yard: of each check that is not refused, as without a record; none of an undo

abbrev pub UndoPremise : World → UndoCall → Type 0
UndoPremise w (call c) = Premise w c
UndoPremise w (recorded a report r) = (recorded_fault w.yard w.occupancy a (length report) (length r)).number ≡ 0 → Plain w.yard w.occupancy a report
UndoPremise w (undo k) = Unit {0}

-- each call's on what the calls before it left
abbrev pub UndoPremises : World → List (List ℕ) → List UndoCall → Type 0
UndoPremises w rs [] = Unit {0}
UndoPremises w rs (c ∷ cs) = UndoPremise w c × UndoPremises (run_with w rs c).outcome.world (rs ++ ((run_with w rs c).filled ∷ [])) cs

-- ---- the claim: answers, reports, occupancies and yards match after each call

-- what is promised: for every largest train that the calls and all images hold
abbrev pub DemandThreeUndo : Type 0
DemandThreeUndo =
    (v : Widths) (top : ℕ) (p q : ℕ → ℕ) (w w' : World) (calls calls' : List UndoCall)
    → top ≤ largest_in v w.yard → OneYard top p q w w' → OfTypes v w w' → Each (UndoCallsMatch p q) calls calls' → UndoCallsOfTypes v calls → UndoPremises w [] calls
    → Each (OutcomesMatch p q) (run_all_with w [] calls) (run_all_with w' [] calls')
