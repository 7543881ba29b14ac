-- Laws of a list by number. Assumes nothing.
use mathlib.Core.Path.{◌≡◌, refl, sym, ap, ◌∙◌}
use mathlib.Core.Bool.{Bool, true, false}
use mathlib.Core.Logic.{◌⊎◌, inl, inr}
use mathlib.Core.List.{List, [], ◌∷◌, ◌++◌, map}
use Prim.Native.Nat.{ℕ, zero, suc, ◌≤◌, ◌<◌}
use native.Mathlib.Omega.{arith}
use native.Mathlib.Nat.{eq-or-lt_of_le}
use lib.Dec.{eqb}
use lib.ListN.{length, get_or, take, set, length-append, length-set, get_or-append}
use lib.Seq.{get_or_at, ext_get_or, take-append-le, take_all, get_or-set_same, get_or-set_other}
use borrow.Author.Tests.{eqb-true, eqb-false}
use Rattle.disp_structs.specs.Listed.{listed}

module _ {A : Type 0} where
  pub listed-length : (n : ℕ) (f : ℕ → A) → length (listed n f) ≡ n
  unfolding listed
  listed-length zero f = refl
  listed-length (suc n) f = length-append (listed n f) (f n ∷ []) ∙ omega (arith, listed-length n f)

  -- only what f reads below n counts
  pub listed_same : (n : ℕ) (f g : ℕ → A) → ((i : ℕ) → i < n → g i ≡ f i) → listed n g ≡ listed n f
  unfolding listed
  listed_same zero f g h = refl
  listed_same (suc n) f g h = rw (listed_same n f g (λ i k. h i (omega arith)), h n (omega arith))

  pub listed_at : (n : ℕ) (f : ℕ → A) (i : ℕ) (d : A) → i < n → get_or (listed n f) i d ≡ f i
  unfolding listed
  listed_at zero f i d h = absurd (omega arith)
  listed_at (suc n) f i d h = go (eq-or-lt_of_le h) (listed_at n f i d)
    where
      go : (suc i ≡ suc n) ⊎ (suc i < suc n) → (i < n → get_or (listed n f) i d ≡ f i) → get_or (listed (suc n) f) i d ≡ f i
      go (inl q) r = let e : i ≡ n = omega arith in rw e (get_or_at (listed n f) (f n) [] d n (listed-length n f))
      go (inr q) r = get_or-append (listed n f) (f n ∷ []) d i (omega (arith, listed-length n f)) ∙ r (omega arith)

  -- a prefix
  pub listed-take : (m n : ℕ) (f : ℕ → A) → m ≤ n → take m (listed n f) ≡ listed m f
  unfolding listed
  listed-take m zero f h = let e : m ≡ 0 = omega arith in rw e
  listed-take m (suc n) f h = go (eq-or-lt_of_le h) (listed-take m n f)
    where
      go : (m ≡ suc n) ⊎ (m < suc n) → (m ≤ n → take m (listed n f) ≡ listed m f) → take m (listed (suc n) f) ≡ listed m f
      go (inl q) r = rw q (take_all (suc n) (listed (suc n) f) (omega (arith, listed-length (suc n) f)))
      go (inr q) r = take-append-le m (listed n f) (f n ∷ []) (omega (arith, listed-length n f)) ∙ r (omega arith)

  -- a write inside
  pub listed-set : (n : ℕ) (f g : ℕ → A) (k : ℕ) (a : A) → k < n → ((i : ℕ) → i < n → (i ≡ k → ⊥) → g i ≡ f i) → g k ≡ a → listed n g ≡ set (listed n f) k a
  listed-set n f g k a l h q =
      ext_get_or a (listed n g) (set (listed n f) k a) (omega (arith, listed-length n g, listed-length n f, length-set (listed n f) k a))
      (λ i m. let j : i < n = omega (arith, listed-length n g) in listed_at n g i a j ∙ sym (go i j (eqb i k) refl))
    where
      go : (i : ℕ) → i < n → (t : Bool) → eqb i k ≡ t → get_or (set (listed n f) k a) i a ≡ g i
      go i j true e = let z = eqb-true i k e in rw (z, q) (get_or-set_same (listed n f) k a a (omega (arith, listed-length n f)))
      go i j false e = let z = eqb-false i k e in get_or-set_other (listed n f) k i a a z ∙ listed_at n f i a j ∙ sym (h i j z)

  -- a list is that of its entries
  pub listed-entries : (xs : List A) (d : A) → listed (length xs) (λ i. get_or xs i d) ≡ xs
  listed-entries xs d =
      ext_get_or d (listed (length xs) (λ i. get_or xs i d)) xs (listed-length (length xs) (λ i. get_or xs i d))
      (λ i h. listed_at (length xs) (λ j. get_or xs j d) i d (omega (arith, listed-length (length xs) (λ j. get_or xs j d))))

map-append : {A B : Type 0} (g : A → B) (xs ys : List A) → map g (xs ++ ys) ≡ map g xs ++ map g ys
map-append g [] ys = refl
map-append g (x ∷ xs) ys = ap (λ (l : List _). g x ∷ l) (map-append g xs ys)

pub listed-map : {A B : Type 0} (g : A → B) (n : ℕ) (f : ℕ → A) → map g (listed n f) ≡ listed n (λ i. g (f i))
unfolding listed
listed-map g zero f = refl
listed-map g (suc n) f = map-append g (listed n f) (f n ∷ []) ∙ ap (λ (l : List _). l ++ (g (f n) ∷ [])) (listed-map g n f)
