-- Refusal 8 of document 01: next and alt form a cycle; its place is the lowest est record on one. Assumes nothing.
-- The est records are the numbers below e. `next` and `alt` list their idx_next and idx_next_alt (est_times/mod.rs 29, 32),
-- where 0 is none; so is an index of e or more, which refusal 7 rules out before.
use Rattle.std.specs.Prelude.{ℕ, zero, suc, ◌+◌, Bool, true, false, cond, not, ◌&&◌, ◌||◌, List, ◌==◌, nat_lt, slice_index, Option, Some, None}

-- the record to which a leads by idxs, which is next or alt; 0 where there is none
unfoldable pub follow : (e : ℕ) (idxs : List ℕ) (a : ℕ) → ℕ
follow e idxs a = cond (nat_lt (slice_index idxs a) e) (slice_index idxs a) 0

-- t is some record, 0 being none, and it is b or passes the test
unfoldable pub via : (test : ℕ → Bool) (b t : ℕ) → Bool
via test b t = not (t == 0) && (t == b || test t)

-- from a one comes to b in at least one step and at most k
unfoldable pub reach : (next alt : List ℕ) (e k a b : ℕ) → Bool
reach next alt e zero a b = false
reach next alt e (suc k) a b =
    via (λ t. reach next alt e k t b) b (follow e next a) || via (λ t. reach next alt e k t b) b (follow e alt a)

-- a comes back to itself; e steps are enough, since there are e records
abbrev pub on_cycle : (next alt : List ℕ) (e a : ℕ) → Bool
on_cycle next alt e a = reach next alt e e a a

-- the first of the k numbers from i on that passes the test
unfoldable pub first_at : (test : ℕ → Bool) (k i : ℕ) → Option ℕ
first_at test zero i = None
first_at test (suc k) i = elim (test i) [ true ↦ Some i | false ↦ first_at test k (i + 1) ]

-- refusal 8 and its place
abbrev pub first_on_cycle : (next alt : List ℕ) (e : ℕ) → Option ℕ
first_on_cycle next alt e = first_at (on_cycle next alt e) e 0
