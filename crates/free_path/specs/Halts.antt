-- Answers that may halt: the refusal's number of each reason. Assumes nothing.
use Rattle.std.specs.Prelude.{ℕ, Result, Ok, Err}
use Rattle.free_path.specs.Base.{Res, ok, no}
use Rattle.free_path.specs.declared.halt.Halt.{Halt}
use Rattle.free_path.specs.declared.halt.Halt.TheVariants.{NoRoom, Panic}

-- refusals 11 and 13 (document 01)
abbrev pub number_of : Halt → ℕ
number_of NoRoom = 11
number_of Panic = 13

-- an answer, or the number of the refusal
abbrev pub answered : {A : Type 0} → Result A Halt → Res A
answered (Ok a) = ok a
answered (Err h) = no (number_of h)

-- the same of an answer seen by a function
abbrev pub answered_by : {A B : Type 0} → (A → B) → Result A Halt → Res B
answered_by f (Ok a) = ok (f a)
answered_by f (Err h) = no (number_of h)
