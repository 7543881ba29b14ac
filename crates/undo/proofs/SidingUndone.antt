-- Demand 3 over lists with undo is not empty: the yards of SidingRenumbered and a list of four calls meet its premises; the recorded check in it changes a path,
-- the undo gives the yard back, and a second one is refused. Assumes nothing.
use mathlib.Core.Path.{◌≡◌, refl}
use mathlib.Core.Bool.{false}
use mathlib.Core.List.{List, [], ◌∷◌, map}
use Prim.Native.Nat.{ℕ, ◌*◌}
use native.Mathlib.Omega.{arith}
use lib.Dec.{lit<}
use lib.ListN.{replicate}
use Rattle.link_rules.specs.Refusals.{refused}
use Rattle.link_rules.specs.Refusals as TakenBack
use Rattle.free_path.specs.AnyOrder.{swap}
use Rattle.image_fault.specs.declared.Widths.TheVariants.{Narrow}
use Rattle.yard_check.specs.Check.{row_size}
use Rattle.yard_check.specs.Calls.{mark, Answered, marked, Outcome}
use Rattle.yard_check.specs.DemandThree.{Each, OutcomesMatch}
use Rattle.yard_check.proofs.Siding.{siding, diverted, plain, two_slots}
use Rattle.yard_check.proofs.SidingRenumbered.{swapped, first, second, world, two_cases, one-yard, of_types}
use Rattle.link_rules.specs.Octets.{put_bytes}
use Rattle.undo.specs.Undo.{with_numbers, with_old, with_written, room_fault, recorded_fault, recorded_with, numbers_fit, old_fits, was_written, undo_fits, undone}
use Rattle.undo.specs.UndoCalls.{UndoCall, call, recorded, undo, run_with, run_all_with}
use Rattle.undo.specs.DemandThreeUndo.{UndoCallsMatch, UndoCallsOfTypes, UndoPremises}
use Rattle.undo.proofs.DemandThreeUndo.{demand_three_undo}

-- train 2 marks link 3, the yard is checked with a record, and the check is taken back, twice
abbrev calls : List UndoCall
calls =
    call (mark Narrow (record { 0 = 3 }) (record { 0 = 2 }))
    ∷ recorded (record { widths = Narrow; blocking = 1 ∷ 3 ∷ []; moved = 2; begin = 1; local = false; limit = 5 }) (replicate (row_size false * 2) 255) (replicate 1250 7)
    ∷ undo 1
    ∷ undo 1
    ∷ []

abbrev calls' : List UndoCall
calls' =
    call (mark Narrow (record { 0 = 3 }) (record { 0 = 1 }))
    ∷ recorded (record { widths = Narrow; blocking = 3 ∷ 2 ∷ []; moved = 1; begin = 1; local = false; limit = 5 }) (replicate (row_size false * 2) 0) (replicate 1250 9)
    ∷ undo 1
    ∷ undo 1
    ∷ []

-- what the examples compute with
unfoldable undoing : ℕ
unfolding world put_bytes with_numbers with_old with_written room_fault recorded_fault recorded_with numbers_fit old_fits was_written undo_fits undone run_with run_all_with
undoing = 0

-- the yard after each call: the check moves train 1 over to the siding, and the first undo moves it back
yards-back :
    map (λ (o : Outcome). o.world.yard) (run_all_with first [] calls)
    ≡ two_slots 400 (siding 1 2 1 2) (plain 2 1 3)
    ∷ two_slots 400 (diverted 1 2 1 2) (plain 2 1 3)
    ∷ two_slots 400 (siding 1 2 1 2) (plain 2 1 3)
    ∷ two_slots 400 (siding 1 2 1 2) (plain 2 1 3)
    ∷ []
unfolding undoing
yards-back = refl

-- the last two calls
abbrev undos : List Outcome → List Answered
undos (a ∷ b ∷ os) = map (λ (o : Outcome). o.answer) os
undos (a ∷ []) = []
undos [] = []

undone_once : undos (run_all_with first [] calls) ≡ marked TakenBack.Done ∷ marked (TakenBack.Refused (refused 21 0)) ∷ []
unfolding undoing
undone_once = refl

-- ---- the premises

same_calls : Each (UndoCallsMatch swapped swapped) calls calls'
unfolding swapped
same_calls = ((refl, refl, refl), ((record { widths = refl; blocking = swap 2 3 []; moved = refl; begin = refl; local = refl; limit = refl }, refl, refl), (refl, (refl, tt))))

calls_of_types : UndoCallsOfTypes Narrow calls
calls_of_types = ((refl, omega arith), ((refl, lit< tt), (tt, (tt, tt))))

premises : UndoPremises first [] calls
unfolding undoing
premises = (tt, ((λ h. record { begin = refl; zero_empty = refl; strays = two_cases _ refl refl }), (tt, (tt, tt))))

matched : Each (OutcomesMatch swapped swapped) (run_all_with first [] calls) (run_all_with second [] calls')
matched = demand_three_undo Narrow 65535 swapped swapped first second calls calls' (omega arith) one-yard of_types same_calls calls_of_types premises
