-- Laws of tables of verdicts. Assumes nothing.
use mathlib.Core.Path.{◌≡◌, refl, ap, subst, ◌∙◌}
use mathlib.Core.Logic.{◌⊎◌, inl, inr}
use mathlib.Core.Bool.{Bool, true, false, not, cond}
use mathlib.Core.List.{List}
use Prim.Native.Nat.{ℕ, zero, suc, ◌+◌, ◌^◌, ◌<◌}
use native.Mathlib.Nat.{eq-or-lt_of_le}
use native.Mathlib.Omega.{arith}
use lib.Dec.{eqb}
use lib.ListN.{get_or, set, length}
use lib.Seq.{get_or-set_same, get_or-set_other}
use borrow.Author.Tests.{eq-eqb, ne_eqb}
use Rattle.game.specs.Sets.{shut_in, opened_in, won, Verdicts, all_openings, some_closing, judged_in}
use Rattle.game.proofs.Bounded.{some_same, all_same}
use Rattle.game.proofs.SetLaws.{shut-below, opened-below}

-- ---- one entry
module _ (t : List ℕ) (d e : ℕ) (q : d ≡ e) where
  pub lost_at : get_or t d 0 ≡ 0 → won t e ≡ false
  lost_at h = ap not (eq-eqb (get_or t e 0) 0 (subst (λ (x : ℕ). get_or t x 0 ≡ 0) q h))

  pub won-at : (get_or t d 0 ≡ 0 → ⊥) → won t e ≡ true
  won-at h = ap not (ne_eqb (get_or t e 0) 0 (subst (λ (x : ℕ). get_or t x 0 ≡ 0 → ⊥) q h))

marked : (b : Bool) → not (eqb (cond b 1 0) 0) ≡ b
marked true = refl
marked false = refl

-- ---- a table filled entry by entry
pub verdicts_none : (f : ℕ → Bool) (t : List ℕ) → Verdicts 0 f t
verdicts_none f t c l = absurd (omega arith)

module _ (n : ℕ) (f : ℕ → Bool) (t : List ℕ) (b : Bool) (l : n < length t) (q : b ≡ f n) (v : Verdicts n f t) where
  pub verdicts_more : Verdicts (n + 1) f (set t n (cond b 1 0))
  verdicts_more c h = go (eq-or-lt_of_le h)
    where
      go : (suc c ≡ n + 1) ⊎ (suc c < n + 1) → won (set t n (cond b 1 0)) c ≡ f c
      go (inl e) = let s : c ≡ n = omega arith in rw (s, get_or-set_same t n (cond b 1 0) 0 l) (marked b ∙ q)
      go (inr e) = let s : c < n = omega arith in rw (get_or-set_other t n c (cond b 1 0) 0 (omega arith)) (v c s)

-- ---- one turn: later are the verdicts with t turns left
module _ (k : ℕ) (wins : ℕ → Bool) (t : ℕ) (later answered second first : List ℕ)
    (v : Verdicts (2 ^ k) (judged_in k wins t) later)
    (x : Verdicts (2 ^ k) (all_openings k (won later)) answered)
    (y : Verdicts (2 ^ k) (some_closing k (won answered)) second)
    (z : Verdicts (2 ^ k) (some_closing k (won second)) first) where
  pub verdicts_turn : Verdicts (2 ^ k) (judged_in k wins (suc t)) first
  unfolding judged_in
  verdicts_turn c l =
      z c l
      ∙ some_same (k + 1) _ _ (λ a _.
      let la = shut-below k c a l in
      y (shut_in k c a) la
      ∙ some_same (k + 1) _ _ (λ b _.
      let lb = shut-below k (shut_in k c a) b la in
      x (shut_in k (shut_in k c a) b) lb
      ∙ all_same (k + 1) _ _ (λ i _. v (opened_in k (shut_in k (shut_in k c a) b) i) (opened-below k (shut_in k (shut_in k c a) b) i lb))))

pub verdicts_now : (k : ℕ) (wins : List ℕ) → Verdicts (2 ^ k) (judged_in k (won wins) 0) wins
unfolding judged_in
verdicts_now k wins c l = refl

-- ---- the judgement asks the last verdicts only of sets below 2 ^ k: a table of 2 ^ k verdicts serves
pub judged-same : (k : ℕ) (f g : ℕ → Bool) → ((c : ℕ) → c < 2 ^ k → f c ≡ g c) → (t c : ℕ) → c < 2 ^ k → judged_in k f t c ≡ judged_in k g t c
unfolding judged_in
judged-same k f g h zero c l = h c l
judged-same k f g h (suc t) c l =
    some_same (k + 1) _ _ (λ a _.
    some_same (k + 1) _ _ (λ b _.
    all_same (k + 1) _ _ (λ i _.
    judged-same k f g h t (opened_in k (shut_in k (shut_in k c a) b) i)
    (opened-below k (shut_in k (shut_in k c a) b) i (shut-below k (shut_in k c a) b (shut-below k c a l))))))
