-- Tests over the numbers below a bound: some passes, all pass. Assumes nothing.
use mathlib.Core.Path.{◌≡◌, refl, ap₂}
use mathlib.Core.Logic.{◌⊎◌, inl, inr}
use mathlib.Core.Bool.{Bool, true, false, ◌||◌, ◌&&◌}
use Prim.Native.Nat.{ℕ, zero, suc, ◌+◌, ◌<◌}
use native.Mathlib.Nat.{eq-or-lt_of_le}
use native.Mathlib.Numerals.{add-one}
use native.Mathlib.Omega.{arith}
use Rattle.link_rules.specs.Network.{all_below}
use Rattle.game.specs.Sets.{some_below}

or_left : (a b : Bool) → a ≡ true → (a || b) ≡ true
or_left a b h = rw h

or_right : (a b : Bool) → b ≡ true → (a || b) ≡ true
or_right true b h = refl
or_right false b h = h

-- ---- one more number
pub some_more : (n : ℕ) (f : ℕ → Bool) → some_below n f ≡ false → f n ≡ false → some_below (n + 1) f ≡ false
unfolding some_below
some_more n f h g = rw (add-one, h, g)

pub some-none : (f : ℕ → Bool) → some_below 0 f ≡ false
unfolding some_below
some-none f = refl

pub all_none : (f : ℕ → Bool) → all_below 0 f ≡ true
unfolding all_below
all_none f = refl

-- ---- some passes, from one that does
pub some-from : (n : ℕ) (f : ℕ → Bool) (i : ℕ) → i < n → f i ≡ true → some_below n f ≡ true
unfolding some_below
some-from zero f i l h = absurd (omega arith)
some-from (suc n) f i l h = go (eq-or-lt_of_le l) (λ m. some-from n f i m h)
  where
    go : (suc i ≡ suc n) ⊎ (suc i < suc n) → (i < n → some_below n f ≡ true) → (some_below n f || f n) ≡ true
    go (inl q) next = let e : n ≡ i = omega arith in rw e (or_right (some_below i f) (f i) h)
    go (inr q) next = or_left (some_below n f) (f n) (next (omega arith))

-- ---- tests that agree below the bound
pub some_same : (n : ℕ) (f g : ℕ → Bool) → ((i : ℕ) → i < n → f i ≡ g i) → some_below n f ≡ some_below n g
unfolding some_below
some_same zero f g h = refl
some_same (suc n) f g h = ap₂ ◌||◌ (some_same n f g (λ i l. h i (omega arith))) (h n (omega arith))

pub all_same : (n : ℕ) (f g : ℕ → Bool) → ((i : ℕ) → i < n → f i ≡ g i) → all_below n f ≡ all_below n g
unfolding all_below
all_same zero f g h = refl
all_same (suc n) f g h = ap₂ ◌&&◌ (all_same n f g (λ i l. h i (omega arith))) (h n (omega arith))
