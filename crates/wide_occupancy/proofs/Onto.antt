-- A renumbering leaves no number out: every number is the renumbered one of some number. Assumes nothing.
use mathlib.Core.Path.{◌≡◌, refl, sym, ap, ◌∙◌}
use mathlib.Core.Bool.{Bool, true, false, cond}
use Prim.Native.Nat.{ℕ, zero, suc, ◌≤◌}
use native.Mathlib.Omega.{arith}
use lib.Dec.{eqb}
use borrow.Author.Tests.{eqb-true, eqb-false, eq-eqb, ne_eqb}
use Rattle.link_rules.specs.Renumbering.{Renumbering}

-- x and y exchanged
abbrev exchanged : (x y a : ℕ) → ℕ
exchanged x y a = cond (eqb a x) y (cond (eqb a y) x a)

-- where y goes
at_second : (x y : ℕ) → exchanged x y y ≡ x
at_second x y = go (eqb y x) refl
  where
    go : (u : Bool) → eqb y x ≡ u → cond u y (cond (eqb y y) x y) ≡ x
    go true e = eqb-true y x e
    go false e = ap (λ (v : Bool). cond v x y) (eq-eqb y y refl)

at_first : (x y : ℕ) → exchanged x y x ≡ y
at_first x y = ap (λ (v : Bool). cond v y (cond (eqb x y) x x)) (eq-eqb x x refl)

at_other : (x y a : ℕ) → (a ≡ x → ⊥) → (a ≡ y → ⊥) → exchanged x y a ≡ a
at_other x y a h k = ap (λ (v : Bool). cond v y (cond (eqb a y) x a)) (ne_eqb a x h) ∙ ap (λ (v : Bool). cond v x a) (ne_eqb a y k)

twice : (x y a : ℕ) → exchanged x y (exchanged x y a) ≡ a
twice x y a = go (eqb a x) refl (eqb a y) refl
  where
    go : (u : Bool) → eqb a x ≡ u → (v : Bool) → eqb a y ≡ v → exchanged x y (exchanged x y a) ≡ a
    go true e v f = let q : a ≡ x = eqb-true a x e in rw q (ap (exchanged x y) (at_first x y) ∙ at_second x y)
    go false e true f = let q : a ≡ y = eqb-true a y f in rw q (ap (exchanged x y) (at_second x y) ∙ at_first x y)
    go false e false f = ap (exchanged x y) (at_other x y a (eqb-false a x e) (eqb-false a y f)) ∙ at_other x y a (eqb-false a x e) (eqb-false a y f)

-- by the numbers below n: the last of them is exchanged with where it goes
onto_below : (n : ℕ) (p : ℕ → ℕ) → ((a b : ℕ) → p a ≡ p b → a ≡ b) → ((a : ℕ) → n ≤ a → p a ≡ a) → (b : ℕ) → (a : ℕ) × (p a ≡ b)
onto_below zero p one above b = (b, above b (omega arith))
onto_below (suc n) p one above b =
    let back = exchanged n (p n) in
    let found = onto_below n (λ a. back (p a)) (λ a c e. one a c (sym (twice n (p n) (p a)) ∙ ap back e ∙ twice n (p n) (p c))) stays (back b) in
    (found.0, sym (twice n (p n) (p found.0)) ∙ ap back found.1 ∙ twice n (p n) b)
  where
    stays : (a : ℕ) → n ≤ a → exchanged n (p n) (p a) ≡ a
    stays a h = go (eqb a n) refl
      where
        go : (u : Bool) → eqb a n ≡ u → exchanged n (p n) (p a) ≡ a
        go true e = let q : a ≡ n = eqb-true a n e in rw q (at_second n (p n))
        go false e =
            let other : a ≡ n → ⊥ = eqb-false a n e in
            let far : suc n ≤ a = omega (arith, other) in
            ap (exchanged n (p n)) (above a far) ∙ at_other n (p n) a other (λ k. other (one a n (above a far ∙ k)))

pub onto : (top : ℕ) (p : ℕ → ℕ) → Renumbering top p → (b : ℕ) → (a : ℕ) × (p a ≡ b)
onto top p r = onto_below (suc top) p r.one-to-one (λ a h. r.above_stays a (omega arith))
