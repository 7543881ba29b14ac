-- One turn of each walk of Base, as a loop has it: what the test says at i, and what is left. Assumes nothing.
use Rattle.std.proofs.Common.{◌≡◌, ℕ, zero, suc, ◌+◌, ◌<◌, ◌≤◌, Bool, true, false, List, [], ◌∷◌, length, get_or, drop, sym, refl, ap, ◌∙◌, add-zero, add-one, arith, drop_of_length-le, drop-cons}
use Rattle.free_path.specs.Base.{Res, ok, no, ◌>>=◌, at, steps_to, walk_from, walk_back}

module _ {A : Type 0} where
  -- a read: the code tests the index, and reads
  pub at_in : (xs : List A) (i : ℕ) (d : A) → i < length xs → at xs i ≡ ok (get_or xs i d)
  unfolding at
  at_in [] i d h = absurd (omega (arith, h))
  at_in (x ∷ xs) zero d h = refl
  at_in (x ∷ xs) (suc i) d h = at_in xs i d (omega (arith, h))

  pub at_out : (xs : List A) (i : ℕ) → length xs ≤ i → at xs i ≡ no 13
  unfolding at
  at_out [] i h = refl
  at_out (x ∷ xs) zero h = absurd (omega (arith, h))
  at_out (x ∷ xs) (suc i) h = at_out xs i (omega (arith, h))

  module _ (p : A → Bool) (xs : List A) (i : ℕ) (d : A) where
    -- the walk up: it stops at i, goes on to i + 1, or runs off the end
    pub walk_stop : i < length xs → p (get_or xs i d) ≡ true → walk_from p xs i ≡ ok i
    unfolding walk_from steps_to
    walk_stop l h = rw (drop-cons xs i d l, h, add-zero)

    pub walk_on : i < length xs → p (get_or xs i d) ≡ false → walk_from p xs i ≡ walk_from p xs (i + 1)
    unfolding walk_from steps_to
    walk_on l h = rw (drop-cons xs i d l, h) (go (steps_to p (drop (suc i) xs)) ∙ ap (λ k. steps_to p (drop k xs) >>= λ n. ok (k + n)) (sym (add-one i)))
      where
        go : (m : Res ℕ) → ((m >>= λ n. ok (suc n)) >>= λ n. ok (i + n)) ≡ (m >>= λ n. ok (suc i + n))
        go (ok n) = ap ok (omega arith)
        go (no n) = refl

    pub walk_off : length xs ≤ i → walk_from p xs i ≡ no 13
    unfolding walk_from steps_to
    walk_off l = rw (drop_of_length-le xs l)

    -- the walk down, at i + 1: it stops at i, or goes on to i
    pub back_stop : i < length xs → p (get_or xs i d) ≡ true → walk_back p xs (suc i) ≡ ok i
    unfolding walk_back
    back_stop l h = rw (at_in xs i d l, h)

    pub back_on : i < length xs → p (get_or xs i d) ≡ false → walk_back p xs (suc i) ≡ walk_back p xs i
    unfolding walk_back
    back_on l h = rw (at_in xs i d l, h)
