-- A refusal (document 01): its number and its place; number 0 is none. The refusal of a call is the first in its chain. Assumes nothing.
use Rattle.std.specs.Prelude.{ℕ, Bool, cond, ◌==◌, Result, Ok, Err}
use Rattle.link_rules.specs.declared.refusal.Refusal.{Refusal}

abbrev pub no_refusal : Refusal
no_refusal = record { number = 0; place = 0 }

abbrev pub refused : (number place : ℕ) → Refusal
refused number place = record { number = number; place = place }

-- a, or b where a is none
abbrev pub or_else : Refusal → Refusal → Refusal
or_else a b = cond (a.number == 0) b a

-- refusal n with place 0 where a test fails
abbrev pub refused_unless : Bool → ℕ → Refusal
refused_unless fits n = cond fits no_refusal (refused n 0)

-- ---- what a call that may be refused answers: nothing, or its refusal

abbrev pub Answer : Type 0
Answer = Result (Unit {0}) Refusal

pattern abbrev pub Done : Answer
Done = Ok tt

pattern abbrev pub Refused : Refusal → Answer
Refused r = Err r

-- the answer of a call with this first refusal
unfoldable pub raised : Refusal → Answer
raised r = cond (r.number == 0) Done (Refused r)

-- refusal n with place 0 where a test fails, as an answer
abbrev pub refuse_unless : Bool → ℕ → Answer
refuse_unless fits n = cond fits Done (Refused (refused n 0))

-- the answer of a call with this first refusal, that answers a value where it is none
unfoldable pub raised_with : {A : Type 0} → Refusal → A → Result A Refusal
raised_with r a = cond (r.number == 0) (Ok a) (Err r)
