-- How many numbers pass a test, and what is left of a search in depth, in turns. Assumes nothing.
use Rattle.std.specs.Prelude.{ℕ, zero, suc, ◌+◌, ◌-◌, ◌*◌, Bool, cond}

-- how many of the numbers below n pass
unfoldable pub count_below : (n : ℕ) (f : ℕ → Bool) → ℕ
count_below zero f = 0
count_below (suc n) f = cond (f n) (suc (count_below n f)) (count_below n f)

-- of e records u are not blocked, and d are on the stack
abbrev pub left_of : (e u d : ℕ) → ℕ
left_of e u d = 2 * u + (e - d)
