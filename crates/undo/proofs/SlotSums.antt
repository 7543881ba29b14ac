-- Sums over the slots, and the slot that another numbering calls u: a renumbering of the slots among themselves is onto, and keeps every sum. Assumes nothing.
use mathlib.Core.Path.{◌≡◌, refl, sym, ap, ap₂, ◌∙◌}
use mathlib.Core.Logic.{⊎_elim}
use mathlib.Core.Bool.{Bool, true, false, cond}
use Prim.Native.Nat.{ℕ, zero, suc, ◌+◌, ◌≤◌, ◌<◌, min}
use native.Mathlib.Nat.{eq-or-lt_of_le}
use native.Mathlib.Omega.{arith}
use lib.Dec.{ltb, eqb}
use borrow.Author.Tests.{eq-eqb, ltb-true, ltb-false}
use Rattle.link_rules.specs.Renumbering.{Renumbering}
use Rattle.yard_check.specs.Check.{how_many}
use Rattle.yard_check.proofs.SlotLaws.{some, many_renumbered}

-- of slots 1 to n
unfoldable pub sum_to : (ℕ → ℕ) → ℕ → ℕ
sum_to f zero = 0
sum_to f (suc n) = f (suc n) + sum_to f n

pub sum_same : (f g : ℕ → ℕ) (n : ℕ) → ((t : ℕ) → 1 ≤ t → t ≤ n → f t ≡ g t) → sum_to f n ≡ sum_to g n
unfolding sum_to
sum_same f g zero h = refl
sum_same f g (suc n) h = ap₂ (λ (a b : ℕ). a + b) (h (suc n) (omega arith) (omega arith)) (sum_same f g n (λ t l m. h t l (omega arith)))

-- ---- a sum is counted in layers: how many reach above m

layer : (x m : ℕ) → min x (suc m) ≡ cond (ltb m x) 1 0 + min x m
layer x m = go (ltb m x) refl
  where
    go : (b : Bool) → ltb m x ≡ b → min x (suc m) ≡ cond b 1 0 + min x m
    go true e = omega (arith, ltb-true m x e)
    go false e = omega (arith, ltb-false m x e)

one_layer : (f : ℕ → ℕ) (m n : ℕ) → sum_to (λ t. min (f t) (suc m)) n ≡ how_many (λ t. ltb m (f t)) n + sum_to (λ t. min (f t) m) n
unfolding sum_to how_many
one_layer f m zero = refl
one_layer f m (suc n) = omega (arith, layer (f (suc n)) m, one_layer f m n)

no_layer : (f : ℕ → ℕ) (n : ℕ) → sum_to (λ t. min (f t) 0) n ≡ 0
unfolding sum_to
no_layer f zero = refl
no_layer f (suc n) = omega (arith, no_layer f n)

-- ---- under a renumbering

-- some slot passes
pub record Passes (test : ℕ → Bool) (n : ℕ) : Type 0 where
  pub slot : ℕ
  pub low : 1 ≤ slot
  pub high : slot ≤ n
  pub passes : test slot ≡ true

one_passes : (test : ℕ → Bool) (n : ℕ) → 1 ≤ how_many test n → Passes test n
unfolding how_many
one_passes test zero h = absurd (omega arith)
one_passes test (suc n) h = go (test (suc n)) refl h (one_passes test n)
  where
    go : (b : Bool) → test (suc n) ≡ b → 1 ≤ cond b 1 0 + how_many test n → (1 ≤ how_many test n → Passes test n) → Passes test (suc n)
    go true e k r = record { slot = suc n; low = omega arith; high = omega arith; passes = e }
    go false e k r = let x = r (omega arith) in record { slot = x.slot; low = x.low; high = omega (arith, x.high); passes = x.passes }

passes-one : (test : ℕ → Bool) (n t : ℕ) → 1 ≤ t → t ≤ n → test t ≡ true → 1 ≤ how_many test n
unfolding how_many
passes-one test zero t l m e = absurd (omega arith)
passes-one test (suc n) t l m e =
    ⊎_elim
    (λ (k : t ≡ suc n). omega (arith, ap {B = ℕ} (λ (b : Bool). cond b 1 0) (ap test (sym k) ∙ e)))
    (λ (k : t < suc n). omega (arith, passes-one test n t l (omega arith) e))
    (eq-or-lt_of_le m)

module _ (top slots : ℕ) (q : ℕ → ℕ) (r : Renumbering top q) (among : (t : ℕ) → t ≤ slots → q t ≤ slots) where
  -- the slot that is called u
  pub slot-from : (u : ℕ) → 1 ≤ u → u ≤ slots → Passes (λ t. eqb (q t) u) slots
  slot-from u l m =
      one_passes (λ t. eqb (q t) u) slots
      (omega (arith, many_renumbered top slots q r among (λ t. eqb t u), passes-one (λ t. eqb t u) slots u l m (eq-eqb u u refl)))

  layers_renumbered : (f : ℕ → ℕ) (m : ℕ) → sum_to (λ t. min (f (q t)) m) slots ≡ sum_to (λ t. min (f t) m) slots
  layers_renumbered f zero = no_layer (λ t. f (q t)) slots ∙ sym (no_layer f slots)
  layers_renumbered f (suc m) =
      omega (arith, one_layer (λ t. f (q t)) m slots, one_layer f m slots, many_renumbered top slots q r among (λ t. ltb m (f t)), layers_renumbered f m)

  -- m is above each
  pub sum_renumbered : (f : ℕ → ℕ) (m : ℕ) → ((t : ℕ) → 1 ≤ t → t ≤ slots → f t ≤ m) → sum_to (λ t. f (q t)) slots ≡ sum_to f slots
  sum_renumbered f m h =
      sum_same (λ t. f (q t)) (λ t. min (f (q t)) m) slots (λ t l k. omega (arith, h (q t) (some top slots q r t l) (among t k)))
      ∙ (layers_renumbered f m ∙ sum_same (λ t. min (f t) m) f slots (λ t l k. omega (arith, h t l k)))
