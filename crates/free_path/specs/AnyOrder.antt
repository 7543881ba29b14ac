-- A list in another order, repeats kept. Assumes nothing.
use Rattle.std.specs.Prelude.{List, [], ◌∷◌}

pub data Perm (A : Type 0) : List A → List A → Type 0 where
  done : Perm A [] []
  keep : (x : A) {xs ys : List A} → Perm A xs ys → Perm A (x ∷ xs) (x ∷ ys)
  swap : (x y : A) (xs : List A) → Perm A (x ∷ (y ∷ xs)) (y ∷ (x ∷ xs))
  chain : {xs ys zs : List A} → Perm A xs ys → Perm A ys zs → Perm A xs zs
