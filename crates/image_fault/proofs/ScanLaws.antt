-- One turn of each scan, as a loop has it, and what a scan that finds nothing says of each index. Assumes nothing.
use mathlib.Core.Path.{◌≡◌, refl, sym, ap, ◌∙◌}
use mathlib.Core.Logic.{◌⊎◌, inl, inr}
use mathlib.Core.Bool.{Bool, true, false}
use Prim.Native.Nat.{ℕ, zero, suc, ◌+◌, ◌-◌, ◌≤◌, ◌<◌}
use native.Mathlib.Nat.{eq-or-lt_of_le}
use native.Mathlib.Omega.{arith}
use Rattle.image_fault.specs.ImageFault.{first_unfit}
use Rattle.link_rules.specs.Refusals.{no_refusal, refused, Done, Refused, raised}
use Rattle.link_rules.proofs.RefusalLaws.{raised_none, raised_some}

-- ---- the first index that does not fit

pub step_fit : (m : ℕ) (fits : ℕ → Bool) (k i : ℕ) → fits i ≡ true → first_unfit m fits (suc k) i ≡ first_unfit m fits k (i + 1)
unfolding first_unfit
step_fit m fits k i h = rw (first_unfit, h)

pub step_unfit : (m : ℕ) (fits : ℕ → Bool) (k i : ℕ) → fits i ≡ false → first_unfit m fits (suc k) i ≡ refused m i
unfolding first_unfit
step_unfit m fits k i h = rw (first_unfit, h)

module _ (m : ℕ) (fits : ℕ → Bool) (n i : ℕ) where
  pub first_fit : i < n → fits i ≡ true → first_unfit m fits (n - i) i ≡ first_unfit m fits (n - (i + 1)) (i + 1)
  first_fit l h = let e : n - i ≡ suc (n - (i + 1)) = omega arith in rw e (step_fit m fits (n - (i + 1)) i h)

  pub first-unfit : i < n → fits i ≡ false → first_unfit m fits (n - i) i ≡ refused m i
  first-unfit l h = let e : n - i ≡ suc (n - (i + 1)) = omega arith in rw e (step_unfit m fits (n - (i + 1)) i h)

  pub first-end : n ≤ i → first_unfit m fits (n - i) i ≡ no_refusal
  unfolding first_unfit
  first-end l = let e : n - i ≡ 0 = omega arith in rw e

  -- and so as an answer, where all before i fit
  module _ (before : first_unfit m fits (n - i) i ≡ first_unfit m fits n 0) where
    pub raised_unfit : (m ≡ 0 → ⊥) → i < n → fits i ≡ false → Refused (refused m i) ≡ raised (first_unfit m fits n 0)
    raised_unfit z l h = sym (raised_some (refused m i) z) ∙ ap raised (sym (first-unfit l h) ∙ before)

    pub raised_end : n ≤ i → Done ≡ raised (first_unfit m fits n 0)
    raised_end l = sym (raised_none no_refusal refl) ∙ ap raised (sym (first-end l) ∙ before)

-- where none is refused, each fits
pub first_clean : (m : ℕ) → 0 < m → (fits : ℕ → Bool) (k i : ℕ) → (first_unfit m fits k i).number ≡ 0 → (j : ℕ) → i ≤ j → j < i + k → fits j ≡ true
first_clean m z fits zero i h j l r = absurd (omega arith)
first_clean m z fits (suc k) i h j l r = go (fits i) refl (eq-or-lt_of_le l) (λ g. first_clean m z fits k (i + 1) g j)
  where
    go : (t : Bool) → fits i ≡ t → (i ≡ j) ⊎ (i < j) → ((first_unfit m fits k (i + 1)).number ≡ 0 → i + 1 ≤ j → j < i + 1 + k → fits j ≡ true) → fits j ≡ true
    go true e (inl q) next = rw (← q) e
    go true e (inr q) next = next (rw (step_fit m fits k i e) at h) (omega arith) (omega arith)
    go false e q next = let y : m ≡ 0 = rw (step_unfit m fits k i e) at h in absurd (omega arith)
