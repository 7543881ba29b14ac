-- Steps and walks over e est records: the words in which the laws of refusal 8 are stated. Assumes nothing.
use Rattle.std.specs.Prelude.{◌≡◌, ℕ, ◌+◌, ◌<◌, ◌⊎◌, List, slice_index}

-- record a steps to record b by next or alt; no step leads to 0
pub record Step (next alt : List ℕ) (e a b : ℕ) : Type 0 where
  pub from : a < e
  pub to : b < e
  pub some : b ≡ 0 → ⊥
  pub leads : (slice_index next a ≡ b) ⊎ (slice_index alt a ≡ b)

-- a walk of one step or more
pub data Walk (next alt : List ℕ) (e : ℕ) : ℕ → ℕ → Type 0 where
  last : {a b : ℕ} → Step next alt e a b → Walk next alt e a b
  then : {a t b : ℕ} → Step next alt e a t → Walk next alt e t b → Walk next alt e a b

-- each of the first d entries of s, but the last of them, steps to the next one
abbrev pub Steps : (next alt : List ℕ) (e : ℕ) (s : List ℕ) (d : ℕ) → Type 0
Steps next alt e s d = (i : ℕ) → i + 1 < d → Step next alt e (slice_index s i) (slice_index s (i + 1))
