-- What an answer that is no refusal tells of the parts that gave it. Assumes nothing.
use mathlib.Core.Path.{◌≡◌, refl}
use mathlib.Core.Logic.{◌⊎◌, inl, inr}
use mathlib.Core.Bool.{Bool, true, false, cond, ◌&&◌}
use mathlib.Core.List.{List}
use Prim.Native.Nat.{ℕ, zero, suc, ◌-◌, ◌≤◌}
use native.Mathlib.Omega.{arith}
use lib.Dec.{leb}
use lib.ListN.{length}
use borrow.Author.Tests.{leb-true}
use Rattle.free_path.specs.Base.{Res, ok, no, ◌>>=◌, ◌>>◌, need, room, at, before, part, slice}

pub no_ok : {A B : Type 0} {n : ℕ} {a : A} → ◌≡◌ {A = Res A} (no n) (ok a) → B
no_ok h = let z : ◌≡◌ {A = ℕ} 0 1 = cc in absurd (omega arith)

pub ok_same : {A : Type 0} {a b : A} → ◌≡◌ {A = Res A} (ok a) (ok b) → a ≡ b
ok_same h = cc

module _ {A B : Type 0} where
  pub bind_ok : (m : Res A) {f : A → Res B} {b : B} → (m >>= f) ≡ ok b → (a : A) × (m ≡ ok a) × (f a ≡ ok b)
  bind_ok (ok a) h = (a, refl, h)
  bind_ok (no n) h = no_ok h

  pub then_ok : (m : Res A) {r : Res B} {b : B} → (m >> r) ≡ ok b → (a : A) × (m ≡ ok a) × (r ≡ ok b)
  then_ok (ok a) h = (a, refl, h)
  then_ok (no n) h = no_ok h

module _ {B : Type 0} where
  pub need-ok : (t : Bool) {r : Res B} {b : B} → (need t >> r) ≡ ok b → (t ≡ true) × (r ≡ ok b)
  need-ok true h = (refl, h)
  need-ok false h = no_ok h

  pub room-ok : (t : Bool) {r : Res B} {b : B} → (room t >> r) ≡ ok b → (t ≡ true) × (r ≡ ok b)
  room-ok true h = (refl, h)
  room-ok false h = no_ok h

pub cond_cases : {A : Type 0} (t : Bool) {x y z : A} → cond t x y ≡ z → ((t ≡ true) × (x ≡ z)) ⊎ ((t ≡ false) × (y ≡ z))
cond_cases true h = inl (refl, h)
cond_cases false h = inr (refl, h)

module _ {A : Type 0} where
  pub before-ok : (xs : List A) (i : ℕ) {x : A} → before xs i ≡ ok x → (1 ≤ i) × (at xs (i - 1) ≡ ok x)
  before-ok xs zero h = no_ok h
  before-ok xs (suc i) h = let q : suc i - 1 ≡ i = omega arith in (omega arith, rw q h)

  pub slice-ok : (xs : List A) (b e : ℕ) {ys : List A} → slice xs b e ≡ ok ys → (b ≤ e) × (e ≤ length xs) × (part b e xs ≡ ys)
  unfolding slice
  slice-ok xs b e h =
      let w = need-ok (leb b e && leb e (length xs)) h in
      let z = both (leb b e) (leb e (length xs)) w.0 in
      (leb-true b e z.0, leb-true e (length xs) z.1, ok_same w.1)
    where
      both : (s t : Bool) → (s && t) ≡ true → (s ≡ true) × (t ≡ true)
      both true true q = (refl, refl)
      both true false q = let z : ◌≡◌ {A = ℕ} 0 1 = cc in absurd (omega arith)
      both false t q = let z : ◌≡◌ {A = ℕ} 0 1 = cc in absurd (omega arith)
