-- Values by number as a list: writes, pushes, prefixes and parts, beside the reads of free_path's ColumnLaws. Assumes nothing.
use mathlib.Core.Path.{◌≡◌, refl, sym, ap, ◌∙◌}
use mathlib.Core.Logic.{◌⊎◌, inl, inr, ⊎_elim}
use mathlib.Core.List.{List, [], ◌∷◌, ◌++◌}
use Prim.Native.Nat.{ℕ, zero, suc, ◌+◌, ◌-◌, ◌≤◌, ◌<◌}
use native.Mathlib.Omega.{arith}
use native.Mathlib.Numerals.{add-one}
use lib.ListN.{length, get_or, drop, set}
use lib.Seq.{ext_get_or, get_or-take, get_or-drop}
use Rattle.free_path.specs.Base.{part}
use Rattle.disp_structs.specs.Listed.{listed}
use Rattle.disp_structs.proofs.ListedLaws.{listed-length, listed_at, listed_same}
use Rattle.free_path.proofs.CountLaws.{length_part}

pub same_or_not : (x y : ℕ) → (x ≡ y) ⊎ (x ≡ y → ⊥)
same_or_not zero zero = inl refl
same_or_not zero (suc y) = inr (λ q. omega arith)
same_or_not (suc x) zero = inr (λ q. omega arith)
same_or_not (suc x) (suc y) = ⊎_elim (λ q. inl (ap suc q)) (λ q. inr (λ r. q (omega arith))) (same_or_not x y)

pub below_or_not : (x y : ℕ) → (x < y) ⊎ (y ≤ x)
below_or_not zero zero = inr (omega arith)
below_or_not zero (suc y) = inl (omega arith)
below_or_not (suc x) zero = inr (omega arith)
below_or_not (suc x) (suc y) = ⊎_elim (λ (q : x < y). inl (omega arith)) (λ (q : y ≤ x). inr (omega arith)) (below_or_not x y)

module _ {A : Type 0} where
  pub get_d_out : (xs : List A) (i : ℕ) (d : A) → length xs ≤ i → get_or xs i d ≡ d
  get_d_out [] i d h = refl
  get_d_out (x ∷ xs) zero d h = absurd (omega (arith, h))
  get_d_out (x ∷ xs) (suc i) d h = get_d_out xs i d (omega (arith, h))

  pub set_out : (xs : List A) (i : ℕ) (a : A) → length xs ≤ i → set xs i a ≡ xs
  set_out [] i a h = refl
  set_out (x ∷ xs) zero a h = absurd (omega (arith, h))
  set_out (x ∷ xs) (suc i) a h = ap (λ l. x ∷ l) (set_out xs i a (omega (arith, h)))

  -- push, with what else is written past n
  pub listed_push : (n : ℕ) (f g : ℕ → A) (a : A) → ((i : ℕ) → i < n → g i ≡ f i) → g n ≡ a → listed (n + 1) g ≡ listed n f ++ (a ∷ [])
  unfolding listed
  listed_push n f g a h q = rw (add-one, listed, listed_same n f g h, q)

  -- a part
  pub listed-part : (n : ℕ) (f : ℕ → A) (a e : ℕ) → a ≤ e → e ≤ n → part a e (listed n f) ≡ listed (e - a) (λ j. f (a + j))
  listed-part n f a e h m =
      ext_get_or (f 0) (part a e (listed n f)) (listed (e - a) (λ j. f (a + j)))
      (length_part (listed n f) a e (omega (arith, listed-length n f)) ∙ sym (listed-length (e - a) (λ j. f (a + j))))
      (λ i k.
      let l : i < e - a = omega (arith, length_part (listed n f) a e (omega (arith, listed-length n f))) in
      get_or-take (e - a) (drop a (listed n f)) i (f 0) l
      ∙ get_or-drop a (listed n f) i (f 0)
      ∙ listed_at n f (a + i) (f 0) (omega arith)
      ∙ sym (listed_at (e - a) (λ j. f (a + j)) i (f 0) l))
