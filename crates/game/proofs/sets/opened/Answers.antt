use mathlib.Core.Path.{◌≡◌, sym, subst, ◌∙◌, ap}
use Prim.Native.Nat.{ℕ, ◌-◌, ◌/◌, ◌%◌, ◌^◌, ◌≤◌, ◌<◌}
use native.Mathlib.Omega.{arith}
use Rattle.game.proofs.SetLaws.{opened-none, opened_open, opened-shut, power_in}
use Rattle.game.proofs.sets.opened.Goals as goal

-- `sets::opened` meets its contract, by the laws of `SetLaws`. Assumes nothing.
pub returns-then-k-i : goal.returns-then-k-i
returns-then-k-i c = let a = c.args in
    (sym (opened-none a.k a.c a.i c.if-k-i.true), c.requires.1)

pub returns-then-c-p-eq0 : goal.returns-then-c-p-eq0
returns-then-c-p-eq0 c = let a = c.args in
    let p = c.power-p in
    let o : a.c / 2 ^ a.i % 2 ≡ 0 = subst (λ (x : ℕ). a.c / x % 2 ≡ 0) p.ensures.0 c.if-c-p-eq0.true in
    let l : a.i < a.k = omega arith in
    (sym (opened_open a.k a.c a.i o), c.requires.1)

pub overflow_sub-result : goal.overflow_sub-result
overflow_sub-result c = let a = c.args in
    let p = c.power-p in
    let o : a.c / 2 ^ a.i % 2 ≡ 0 → ⊥ = subst (λ (x : ℕ). a.c / x % 2 ≡ 0 → ⊥) p.ensures.0 c.if-c-p-eq0.false in
    let l : a.i < a.k = omega arith in
    subst (λ (x : ℕ). x ≤ a.c) (sym p.ensures.0) (power_in a.k a.c a.i o)

pub returns : goal.returns
returns c = let a = c.args in
    let p = c.power-p in
    let o : a.c / 2 ^ a.i % 2 ≡ 0 → ⊥ = subst (λ (x : ℕ). a.c / x % 2 ≡ 0 → ⊥) p.ensures.0 c.if-c-p-eq0.false in
    let l : a.i < a.k = omega arith in
    (ap (λ (x : ℕ). a.c - x) p.ensures.0 ∙ sym (opened-shut a.k a.c a.i l o), omega arith)
