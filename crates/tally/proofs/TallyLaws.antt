-- What a round and the validation add, where every number fits its width. Assumes nothing.
use mathlib.Core.Path.{◌≡◌, ap, ◌∙◌}
use Prim.Native.Nat.{ℕ, ◌+◌, ◌-◌, ◌<◌, ◌^◌}
use native.Mathlib.Omega.{arith}
use borrow.Author.Tests.{lt-ltb, le-leb}
use Rattle.tally.specs.Tally.{counted, faulted, stepped, rounds_after, sum_of, counted_round, counted_faults, counted_steps}
use Rattle.tally.specs.declared.Tally.{Tally}

rounds-within : (n : ℕ) → n + 1 < 2 ^ 16 → rounds_after n ≡ n + 1
rounds-within n fits = simp (lt-ltb n 65535 (omega (arith, fits)))

sum-within : (a b : ℕ) → a + b < 2 ^ 64 → sum_of a b ≡ a + b
sum-within a b fits = simp (le-leb b (18446744073709551615 - a) (omega (arith, fits)))

pub counted-within : (t : Tally) (strays : ℕ) → t.rounds + 1 < 2 ^ 16 → t.strays + strays < 2 ^ 64 → t.faults < 2 ^ 64
    → counted_round t strays 0 ≡ counted t strays
counted-within t strays r s f =
    let z : sum_of t.faults 0 ≡ t.faults = sum-within t.faults 0 (omega (arith, f)) ∙ (omega arith) in
    rw (rounds-within t.rounds r, sum-within t.strays strays s, z)

pub faulted-within : (t : Tally) (n : ℕ) → t.faults + n < 2 ^ 64 → counted_faults t n ≡ faulted t n
faulted-within t n f = rw (sum-within t.faults n f)

pub stepped_within : (t : Tally) (n : ℕ) → t.steps + n < 2 ^ 64 → counted_steps t n ≡ stepped t n
stepped_within t n f = rw (sum-within t.steps n f)

pub faulted-none : (t : Tally) → faulted t 0 ≡ t
faulted-none t = let z : t.faults + 0 ≡ t.faults = omega arith in ap (λ (n : ℕ). record { rounds = t.rounds; strays = t.strays; faults = n; steps = t.steps }) z
