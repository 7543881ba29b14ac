-- The first number that passes a test. Assumes nothing.
use Rattle.std.proofs.Common.{◌≡◌, ℕ, zero, suc, ◌+◌, ◌-◌, ◌<◌, ◌≤◌, Bool, true, false, ◌⊎◌, sym, refl, ◌∙◌, inl, inr, ⊎_elim, eq-or-lt_of_le, arith, Option, Some, None}
use Rattle.est_times.specs.Cycles.{first_at}
use Rattle.est_times.proofs.Counting.{two}

module _ (f : ℕ → Bool) where
  pub first_hit : (k i : ℕ) → f i ≡ true → first_at f (suc k) i ≡ Some i
  unfolding first_at
  first_hit k i h = rw (first_at, h)

  pub first_miss : (k i : ℕ) → f i ≡ false → first_at f (suc k) i ≡ first_at f k (i + 1)
  unfolding first_at
  first_miss k i h = rw (first_at, h)

  -- none is found: each fails the test
  pub first-none : (k i : ℕ) → first_at f k i ≡ None → (j : ℕ) → i ≤ j → j < i + k → f j ≡ false
  first-none zero i h j l m = absurd (omega arith)
  first-none (suc k) i h j l m = go (two (f i)) (eq-or-lt_of_le l) (λ g. first-none k (i + 1) g j)
    where
      go : (f i ≡ true) ⊎ (f i ≡ false) → (i ≡ j) ⊎ (i < j) → (first_at f k (i + 1) ≡ None → i + 1 ≤ j → j < i + 1 + k → f j ≡ false) → f j ≡ false
      go (inl t) q r = let z : ◌≡◌ {A = ℕ} 0 1 = cc (first_hit k i t) in absurd (omega arith)
      go (inr t) (inl q) r = cc
      go (inr t) (inr q) r = r (sym (first_miss k i t) ∙ h) (omega arith) (omega arith)

  -- each fails the test: none is found
  pub none_first : (k i : ℕ) → ((j : ℕ) → i ≤ j → j < i + k → f j ≡ false) → first_at f k i ≡ None
  unfolding first_at
  none_first zero i h = refl
  none_first (suc k) i h = first_miss k i (h i (omega arith) (omega arith)) ∙ none_first k (i + 1) (λ j l m. h j (omega arith) (omega arith))

  -- x is found: it passes, and none before it does
  pub first-at : (k i x : ℕ) → first_at f k i ≡ Some x → (x < i + k) × (f x ≡ true) × ((j : ℕ) → i ≤ j → j < x → f j ≡ false)
  unfolding first_at
  first-at zero i x h = let z : ◌≡◌ {A = ℕ} 0 1 = cc in absurd (omega arith)
  first-at (suc k) i x h = go (two (f i)) (λ g. first-at k (i + 1) x g)
    where
      go : (f i ≡ true) ⊎ (f i ≡ false) → (first_at f k (i + 1) ≡ Some x → (x < i + 1 + k) × (f x ≡ true) × ((j : ℕ) → i + 1 ≤ j → j < x → f j ≡ false))
          → (x < i + suc k) × (f x ≡ true) × ((j : ℕ) → i ≤ j → j < x → f j ≡ false)
      go (inl t) r = let q : i ≡ x = cc (first_hit k i t) in (omega arith, rw q at t, λ j l m. absurd (omega arith))
      go (inr t) r =
          let w = r (sym (first_miss k i t) ∙ h) in
          (omega (arith, w.0), w.1, λ j l m. ⊎_elim (λ q. rw q at t) (λ q. w.2 j (omega arith) m) (eq-or-lt_of_le l))

-- tests that agree find the same
pub first-same : (f g : ℕ → Bool) (k i : ℕ) → ((j : ℕ) → j < i + k → f j ≡ g j) → first_at f k i ≡ first_at g k i
unfolding first_at
first-same f g zero i h = refl
first-same f g (suc k) i h = ⊎_elim
    (λ t. first_hit f k i t ∙ sym (first_hit g k i (sym (h i (omega arith)) ∙ t)))
    (λ t. first_miss f k i t ∙ first-same f g k (i + 1) (λ j m. h j (omega arith)) ∙ sym (first_miss g k i (sym (h i (omega arith)) ∙ t)))
    (two (f i))

-- one turn of a scan of n numbers that has come to i, where the test of i gives t: what is still to come gives the whole answer r
module _ (f : ℕ → Bool) (n i : ℕ) {r : Option ℕ} (rest : first_at f (n - i) i ≡ r) where
  pub scan_hit : {t : Bool} → i < n → t ≡ f i → t ≡ true → Some i ≡ r
  scan_hit l q h = let e : n - i ≡ suc (n - (i + 1)) = omega arith in sym (first_hit f (n - (i + 1)) i (sym q ∙ h)) ∙ (rw e at rest)

  pub scan_miss : {t : Bool} → i < n → t ≡ f i → t ≡ false → first_at f (n - (i + 1)) (i + 1) ≡ r
  scan_miss l q h = let e : n - i ≡ suc (n - (i + 1)) = omega arith in sym (first_miss f (n - (i + 1)) i (sym q ∙ h)) ∙ (rw e at rest)

  pub scan-end : n ≤ i → None ≡ r
  unfolding first_at
  scan-end l = let e : n - i ≡ 0 = omega arith in rw e at rest
