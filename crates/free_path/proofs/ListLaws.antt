-- Every entry of a list passes. Assumes nothing.
use Rattle.std.proofs.Common.{◌≡◌, ℕ, zero, suc, ◌+◌, ◌-◌, ◌<◌, ◌≤◌, List, [], ◌∷◌, ◌++◌, length, get_or, take, drop, subst, arith, length-drop, length-take-le, get_or-drop, get_or-take}
use Rattle.free_path.specs.Base.{part}

module _ {A : Type 0} (P : A → Type 0) where
  abbrev pub All : List A → Type 0
  All [] = Unit {0}
  All (x ∷ xs) = P x × All xs

  pub all_drop : (i : ℕ) (xs : List A) → All xs → All (drop i xs)
  all_drop zero xs h = h
  all_drop (suc i) [] h = tt
  all_drop (suc i) (x ∷ xs) h = all_drop i xs h.1

  pub all_take : (k : ℕ) (xs : List A) → All xs → All (take k xs)
  all_take zero xs h = tt
  all_take (suc k) [] h = tt
  all_take (suc k) (x ∷ xs) h = (h.0, all_take k xs h.1)

  -- what holds from f on holds from i on
  pub all_later : (f i : ℕ) (xs : List A) → f ≤ i → All (drop f xs) → All (drop i xs)
  all_later zero i xs l h = all_drop i xs h
  all_later (suc f) zero xs l h = absurd (omega arith)
  all_later (suc f) (suc i) [] l h = tt
  all_later (suc f) (suc i) (x ∷ xs) l h = all_later f i xs (omega arith) h

  pub all_append : (xs ys : List A) → All xs → All ys → All (xs ++ ys)
  all_append [] ys h k = k
  all_append (x ∷ xs) ys h k = (h.0, all_append xs ys h.1 k)

  pub all-at : (xs : List A) (i : ℕ) (d : A) → i < length xs → All xs → P (get_or xs i d)
  all-at [] i d l h = absurd (omega arith)
  all-at (x ∷ xs) zero d l h = h.0
  all-at (x ∷ xs) (suc i) d l h = all-at xs i d (omega arith) h.1

  -- what holds along a part holds at each index of it
  pub all_part : (xs : List A) (b e i : ℕ) (d : A) → e ≤ length xs → b ≤ i → i < e → All (part b e xs) → P (get_or xs i d)
  all_part xs b e i d m h k a =
      let z : b + (i - b) ≡ i = omega arith in
      let s : get_or (part b e xs) (i - b) d ≡ get_or xs i d = rw (get_or-take (e - b) (drop b xs) (i - b) d (omega arith), get_or-drop b xs (i - b) d, z) in
      subst P s (all-at (part b e xs) (i - b) d (omega (arith, length-take-le (e - b) (drop b xs) (omega (arith, length-drop b xs)))) a)
