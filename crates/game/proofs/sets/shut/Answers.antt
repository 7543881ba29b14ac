use mathlib.Core.Path.{◌≡◌, sym, subst, ◌∙◌, ap}
use Prim.Native.Nat.{ℕ, ◌+◌, ◌/◌, ◌%◌, ◌^◌, ◌<◌}
use native.Mathlib.Omega.{arith}
use Rattle.game.proofs.SetLaws.{shut_none, shut_open, shut-shut, room, power_fits}
use Rattle.game.proofs.sets.shut.Goals as goal

-- `sets::shut` meets its contract, by the laws of `SetLaws`. Assumes nothing.
pub returns-then-k-i : goal.returns-then-k-i
returns-then-k-i c = let a = c.args in
    (sym (shut_none a.k a.c a.i c.if-k-i.true), c.requires.1)

pub overflow_add-result : goal.overflow_add-result
overflow_add-result c = omega (arith, power_fits c.args.k (omega arith))

pub returns-then-c-p-eq0 : goal.returns-then-c-p-eq0
returns-then-c-p-eq0 c = let a = c.args in
    let p = c.power-p in
    let o : a.c / 2 ^ a.i % 2 ≡ 0 = subst (λ (x : ℕ). a.c / x % 2 ≡ 0) p.ensures.0 c.if-c-p-eq0.true in
    let l : a.i < a.k = omega arith in (
      ap (λ (x : ℕ). a.c + x) p.ensures.0 ∙ sym (shut_open a.k a.c a.i l o),
      subst (λ (x : ℕ). a.c + x < 2 ^ a.k) (sym p.ensures.0) (room a.k a.c a.i l (omega arith) o),
    )

pub returns : goal.returns
returns c = let a = c.args in
    let p = c.power-p in
    let o : a.c / 2 ^ a.i % 2 ≡ 0 → ⊥ = subst (λ (x : ℕ). a.c / x % 2 ≡ 0 → ⊥) p.ensures.0 c.if-c-p-eq0.false in
    let l : a.i < a.k = omega arith in
    (sym (shut-shut a.k a.c a.i o), c.requires.1)
