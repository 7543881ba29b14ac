-- Answers with refusals, reads that may refuse, and walks. Nothing here is of trains. Assumes nothing.
use Rattle.std.specs.Prelude.{ℕ, zero, suc, ◌+◌, ◌-◌, Bool, true, false, cond, ◌&&◌, ◌||◌, List, [], ◌∷◌, length, take, drop, nat_le}

-- an answer, or the number of a refusal
pub data Res (A : Type 0) : Type 0 where
  ok : A → Res A
  no : ℕ → Res A

infixl 20 ◌>>=◌
infixl 20 ◌>>◌
module _ {A B : Type 0} where
  abbrev pub ◌>>=◌ : Res A → (A → Res B) → Res B
  ◌>>=◌ (ok a) f = f a
  ◌>>=◌ (no n) f = no n

  abbrev pub ◌>>◌ : Res A → Res B → Res B
  ◌>>◌ (ok a) r = r
  ◌>>◌ (no n) r = no n

-- the Rust goes on where the test holds, and panics where not: 13
abbrev pub need : Bool → Res (Unit {0})
need true = ok tt
need false = no 13

-- document 01's bounds on room: 11
abbrev pub room : Bool → Res (Unit {0})
room true = ok tt
room false = no 11

module _ {A : Type 0} where
  -- xs[i]
  unfoldable pub at : List A → ℕ → Res A
  at [] i = no 13
  at (x ∷ xs) zero = ok x
  at (x ∷ xs) (suc i) = at xs i

  -- xs[i - 1]
  abbrev pub before : List A → ℕ → Res A
  before xs zero = no 13
  before xs (suc i) = at xs i

  -- xs.last().unwrap()
  abbrev pub last : List A → Res A
  last xs = before xs (length xs)

  -- xs.pop()
  abbrev pub popped : List A → List A
  popped xs = take (length xs - 1) xs

  -- xs.is_empty()
  abbrev pub is_empty : List A → Bool
  is_empty [] = true
  is_empty (x ∷ xs) = false

  -- from b up to e
  abbrev pub part : ℕ → ℕ → List A → List A
  part b e xs = take (e - b) (drop b xs)

  -- &xs[b..e]
  unfoldable pub slice : List A → ℕ → ℕ → Res (List A)
  slice xs b e = do
    need (nat_le b e && nat_le e (length xs))
    ok (part b e xs)

  -- how many entries stand before the first that passes; 13 where none does: the Rust reads past the end
  unfoldable pub steps_to : (A → Bool) → List A → Res ℕ
  steps_to p [] = no 13
  steps_to p (x ∷ xs) = let r = (steps_to p xs >>= λ n. ok (suc n)) in cond (p x) (ok 0) r

  -- let mut j = i; while !p(xs[j]) { j += 1; } j
  unfoldable pub walk_from : (A → Bool) → List A → ℕ → Res ℕ
  walk_from p xs i = steps_to p (drop i xs) >>= λ n. ok (i + n)

  -- j = i - 1; while !p(xs[j]) { j -= 1; } j
  unfoldable pub walk_back : (A → Bool) → List A → ℕ → Res ℕ
  walk_back p xs zero = no 13
  walk_back p xs (suc k) = let r = walk_back p xs k in at xs k >>= λ x. cond (p x) (ok k) r

  -- how many entries stand before the first that passes, and all where none does
  unfoldable pub passes : (A → Bool) → List A → ℕ
  passes p [] = 0
  passes p (x ∷ xs) = let r = suc (passes p xs) in cond (p x) 0 r

  -- how many entries pass
  unfoldable pub count : (A → Bool) → List A → ℕ
  count p [] = 0
  count p (x ∷ xs) = cond (p x) 1 0 + count p xs

  -- does one pass?
  unfoldable pub any : (A → Bool) → List A → Bool
  any p [] = false
  any p (x ∷ xs) = p x || any p xs
