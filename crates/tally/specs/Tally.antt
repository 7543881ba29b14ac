-- The tally of an update (document 01): what it begins with, what a round, its search and the validation add, and the same within the
-- widths of the code. There a number that would not fit stays at the largest that does; `update_laws`, `TallyBounds.update-counts`,
-- bounds what an update counts, so that none does in an update. Assumes nothing.
use Rattle.std.specs.Prelude.{ℕ, ◌+◌, ◌-◌, cond, ltb, leb}
use Rattle.tally.specs.declared.Tally.{Tally}

-- at the start of an update, which counts strays
abbrev pub started : ℕ → Tally
started strays = record { rounds = 0; strays = strays; faults = 0; steps = 0 }

-- with one more round, which was entered and counted these strays
abbrev pub counted : Tally → ℕ → Tally
counted t strays = record { rounds = t.rounds + 1; strays = t.strays + strays; faults = t.faults; steps = t.steps }

-- with the errors that the validation found
abbrev pub faulted : Tally → ℕ → Tally
faulted t n = record { rounds = t.rounds; strays = t.strays; faults = t.faults + n; steps = t.steps }

-- with the entries into the search loop of a round (Q-9)
abbrev pub stepped : Tally → ℕ → Tally
stepped t n = record { rounds = t.rounds; strays = t.strays; faults = t.faults; steps = t.steps + n }

-- ---- within the widths

abbrev pub rounds_after : ℕ → ℕ
rounds_after n = cond (ltb n 65535) (n + 1) n

abbrev pub sum_of : (a b : ℕ) → ℕ
sum_of a b = cond (leb b (18446744073709551615 - a)) (a + b) 18446744073709551615

abbrev pub counted_round : (t : Tally) (strays faults : ℕ) → Tally
counted_round t strays faults = record { rounds = rounds_after t.rounds; strays = sum_of t.strays strays; faults = sum_of t.faults faults; steps = t.steps }

abbrev pub counted_faults : Tally → ℕ → Tally
counted_faults t faults = record { rounds = t.rounds; strays = t.strays; faults = sum_of t.faults faults; steps = t.steps }

abbrev pub counted_steps : Tally → ℕ → Tally
counted_steps t n = record { rounds = t.rounds; strays = t.strays; faults = t.faults; steps = sum_of t.steps n }
