-- An array with a count, and the list that it stands for: take n of it. Any element type; nothing here knows of trains. Assumes nothing.
use Rattle.std.proofs.Common.{◌≡◌, ℕ, zero, suc, ◌+◌, ◌-◌, ◌<◌, ◌≤◌, List, [], ◌∷◌, ◌++◌, map, length, get_or, take, drop, set, sym, refl, ap, ◌∙◌, add-one, arith, length-drop, length-take-le, get_or-take, take-take, take-suc-set}
use native.Mathlib.Nat.{sub-zero}
use lib.Seq.{take-nil, take-set-le}
use Rattle.free_path.specs.Base.{Res, ok, no, ◌>>=◌, at, last, popped, part}
use Rattle.free_path.specs.Columns.{answer}
use Rattle.free_path.proofs.WalkLaws.{at_in, at_out}

module _ {A : Type 0} where
  pub answer-no : (c : ℕ) (a : A) → (c ≡ 0 → ⊥) → answer c a ≡ no c
  answer-no zero a h = absurd (h refl)
  answer-no (suc c) a h = refl

  module _ (xs : List A) (n : ℕ) where
    -- length
    pub counted : n ≤ length xs → length (take n xs) ≡ n
    counted h = length-take-le n xs h

    -- push
    pub push : (a : A) → n < length xs → take (n + 1) (set xs n a) ≡ take n xs ++ (a ∷ [])
    push a h = rw (add-one) (take-suc-set xs n a h)

    -- a read, as a definition has it
    pub read : (i : ℕ) (d : A) → i < n → n ≤ length xs → at (take n xs) i ≡ ok (get_or xs i d)
    read i d h m = at_in (take n xs) i d (omega (arith, counted m)) ∙ ap ok (get_or-take n xs i d h)

    pub read_out : (i : ℕ) → n ≤ i → n ≤ length xs → at (take n xs) i ≡ no 13
    read_out i h m = at_out (take n xs) i (omega (arith, counted m))

    -- last and pop, at n + 1
    pub top : (d : A) → n < length xs → last (take (suc n) xs) ≡ ok (get_or xs n d)
    top d h = rw (length-take-le (suc n) xs (omega arith)) (at_in (take (suc n) xs) n d (omega (arith, length-take-le (suc n) xs (omega arith))) ∙ ap ok (get_or-take (suc n) xs n d (omega arith)))

    pub pop : n < length xs → popped (take (suc n) xs) ≡ take n xs
    pop h = let k : suc n - 1 ≡ n = omega arith in rw (length-take-le (suc n) xs (omega arith), k) (take-take n (suc n) xs (omega arith))

  drop-take : (b n : ℕ) (xs : List A) → drop b (take n xs) ≡ take (n - b) (drop b xs)
  drop-take zero n xs = rw sub-zero
  drop-take (suc b) zero xs = let k : 0 - suc b ≡ 0 = omega arith in rw k
  drop-take (suc b) (suc n) [] = sym (take-nil (suc n - suc b))
  drop-take (suc b) (suc n) (x ∷ xs) = let k : suc n - suc b ≡ n - b = omega arith in rw k (drop-take b n xs)

  -- a part below the count is a part of the array, and does not see what is set past it
  pub part-take : (xs : List A) (n b e : ℕ) → e ≤ n → part b e (take n xs) ≡ part b e xs
  part-take xs n b e h = rw (drop-take b n xs) (take-take (e - b) (n - b) (drop b xs) (omega arith))

  pub part-set : (xs : List A) (b e i : ℕ) (a : A) → e ≤ i → part b e (set xs i a) ≡ part b e xs
  part-set xs b e i a h = sym (part-take (set xs i a) e b e (omega arith)) ∙ ap (part b e) (take-set-le e xs i a h) ∙ part-take xs e b e (omega arith)

  pub length_part : (xs : List A) (b e : ℕ) → e ≤ length xs → length (part b e xs) ≡ e - b
  length_part xs b e h = length-take-le (e - b) (drop b xs) (omega (arith, length-drop b xs))

-- an array of numbers that stand for values: the one law more
pub map-set : {A B : Type 0} (f : A → B) (xs : List A) (i : ℕ) (a : A) → map f (set xs i a) ≡ set (map f xs) i (f a)
map-set f [] i a = refl
map-set f (x ∷ xs) zero a = refl
map-set f (x ∷ xs) (suc i) a = ap (λ r. f x ∷ r) (map-set f xs i a)

-- an answer handed on: a refusal as it is, an answer to what comes next
module _ {A B : Type 0} (c : ℕ) (a : A) {r : Res A} (f : A → Res B) (q : answer c a ≡ r) where
  pub bind_stop : (c ≡ 0 → ⊥) → (b : B) → answer c b ≡ (r >>= f)
  bind_stop h b = answer-no c b h ∙ ap (λ (x : Res A). x >>= f) (sym (answer-no c a h) ∙ q)

  pub bind_go : c ≡ 0 → f a ≡ (r >>= f)
  bind_go h = ap (λ (x : Res A). x >>= f) (ap (λ (n : ℕ). answer n a) (sym h) ∙ q)
