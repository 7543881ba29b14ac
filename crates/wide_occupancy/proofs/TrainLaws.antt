-- The largest of the entries: as a loop finds it, and as a bound. Assumes nothing.
use mathlib.Core.Path.{◌≡◌}
use mathlib.Core.List.{List, [], ◌∷◌}
use Prim.Native.Nat.{ℕ, zero, suc, ◌+◌, max, ◌≤◌, ◌<◌}
use native.Mathlib.Omega.{arith}
use native.Mathlib.Numerals.{add-one}
use lib.ListN.{length, get_or, drop, drop_of_length-le}
use lib.Seq.{drop-cons}
use Rattle.wide_occupancy.specs.WideOccupancy.{largest}

-- ---- a walk over the entries, of which i are done and m is the largest

pub largest-turn : (xs : List ℕ) (i m : ℕ) → i < length xs → max m (largest (drop i xs)) ≡ max (max m (get_or xs i 0)) (largest (drop (i + 1) xs))
unfolding largest
largest-turn xs i m h = rw (drop-cons xs i 0 h, largest, add-one) (omega arith)

pub largest-end : (xs : List ℕ) (i m : ℕ) → length xs ≤ i → max m (largest (drop i xs)) ≡ m
unfolding largest
largest-end xs i m h = rw (drop_of_length-le xs h) (omega arith)

-- ---- a bound of every entry

abbrev pub UpTo : ℕ → List ℕ → Type 0
UpTo top occ = (i : ℕ) → get_or occ i 0 ≤ top

pub largest_bounds : (top : ℕ) (occ : List ℕ) → largest occ ≤ top → UpTo top occ
unfolding largest
largest_bounds top [] h i = omega arith
largest_bounds top (x ∷ xs) h zero = omega arith
largest_bounds top (x ∷ xs) h (suc i) = largest_bounds top xs (omega arith) i

pub bounded_largest : (top : ℕ) (occ : List ℕ) → UpTo top occ → largest occ ≤ top
unfolding largest
bounded_largest top [] b = omega arith
bounded_largest top (x ∷ xs) b = omega (arith, b 0, bounded_largest top xs (λ i. b (suc i)))
