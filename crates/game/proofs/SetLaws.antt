-- Laws of closing and opening one link of a set. Assumes nothing.
use mathlib.Core.Path.{◌≡◌, refl}
use mathlib.Core.Bool.{Bool, true, false, and-false}
use Prim.Native.Nat.{ℕ, suc, ◌+◌, ◌-◌, ◌/◌, ◌%◌, ◌^◌, ◌≤◌, ◌<◌}
use native.Mathlib.Nat.{add-div_right, div-eq_of_lt, div-lt_iff_lt-mul, one-le-pow, pow-le-pow_right, two-pow-succ}
use native.Mathlib.Omega.{arith}
use mathlib.Core.List.{List, [], ◌∷◌}
use lib.Dec.{ltb, eqb}
use lib.ListN.{get_or}
use lib.Pow.{pow-add, shr_lt}
use borrow.Author.Tests.{lt-ltb, le-ltb, eq-eqb, ne_eqb, ltb-true, ltb-false, eqb-true, eqb-false}
use Rattle.link_rules.specs.Network.{all_below}
use Rattle.link_rules.proofs.TableLaws.{all-at}
use Rattle.game.specs.Sets.{shut_in, opened_in}

-- the powers of 2 up to 2 ^ 8
abbrev pub powers : List ℕ
powers = 1 ∷ 2 ∷ 4 ∷ 8 ∷ 16 ∷ 32 ∷ 64 ∷ 128 ∷ 256 ∷ []

pub powers_are : (i : ℕ) → i < 9 → get_or powers i 0 ≡ 2 ^ i
unfolding all_below
powers_are i l = eqb-true (get_or powers i 0) (2 ^ i) (all-at (λ j. eqb (get_or powers j 0) (2 ^ j)) 9 i refl l)

pub power_some : (i : ℕ) → 0 < 2 ^ i
power_some i = one-le-pow i 2 (omega arith)

pub power_fits : (i : ℕ) → i ≤ 8 → 2 ^ i ≤ 256
power_fits i h = pow-le-pow_right {n = 2} (omega arith) h

module _ (k c i : ℕ) where
  pub shut_none : k ≤ i → shut_in k c i ≡ c
  unfolding shut_in
  shut_none h = rw (le-ltb i k h)

  pub opened-none : k ≤ i → opened_in k c i ≡ c
  unfolding opened_in
  opened-none h = rw (le-ltb i k h)

  pub shut_open : i < k → c / 2 ^ i % 2 ≡ 0 → shut_in k c i ≡ c + 2 ^ i
  unfolding shut_in
  shut_open h o = rw (lt-ltb i k h, eq-eqb (c / 2 ^ i % 2) 0 o)

  pub shut-shut : (c / 2 ^ i % 2 ≡ 0 → ⊥) → shut_in k c i ≡ c
  unfolding shut_in
  shut-shut o = rw (ne_eqb (c / 2 ^ i % 2) 0 o, and-false (ltb i k))

  pub opened_open : c / 2 ^ i % 2 ≡ 0 → opened_in k c i ≡ c
  unfolding opened_in
  opened_open o = rw (eq-eqb (c / 2 ^ i % 2) 0 o, and-false (ltb i k))

  pub opened-shut : i < k → (c / 2 ^ i % 2 ≡ 0 → ⊥) → opened_in k c i ≡ c - 2 ^ i
  unfolding opened_in
  opened-shut h o = rw (lt-ltb i k h, ne_eqb (c / 2 ^ i % 2) 0 o)

  -- a link that is closed has its power in the set
  pub power_in : (c / 2 ^ i % 2 ≡ 0 → ⊥) → 2 ^ i ≤ c
  power_in o = go (ltb c (2 ^ i)) refl
    where
      go : (t : Bool) → ltb c (2 ^ i) ≡ t → 2 ^ i ≤ c
      go false e = ltb-false c (2 ^ i) e
      go true e = let q : c / 2 ^ i ≡ 0 = div-eq_of_lt (ltb-true c (2 ^ i) e) in absurd (o (rw q refl))

-- a link that is open can be closed: the set stays below the power
room_at : (j c i : ℕ) → c < 2 ^ (suc j + i) → c / 2 ^ i % 2 ≡ 0 → c + 2 ^ i < 2 ^ (suc j + i)
room_at j c i l o =
    let p : 0 < 2 ^ i = power_some i in
    let q : c / 2 ^ i < 2 ^ suc j = shr_lt (suc j) i l in
    let d : 2 ^ suc j ≡ 2 ^ j + 2 ^ j = two-pow-succ j in
    let m : (c + 2 ^ i) / 2 ^ i ≡ c / 2 ^ i + 1 = add-div_right c p in
    let n : (c + 2 ^ i) / 2 ^ i < 2 ^ suc j = omega arith in
    rw (pow-add 2 (suc j) i) ((div-lt_iff_lt-mul p).0 n)

pub room : (k c i : ℕ) → i < k → c < 2 ^ k → c / 2 ^ i % 2 ≡ 0 → c + 2 ^ i < 2 ^ k
room k c i h l o =
    let e : k ≡ suc (k - suc i) + i = omega arith in
    rw e (room_at (k - suc i) c i (rw e at l) o)

-- closing and opening keep a set below 2 ^ k
pub shut-below : (k c i : ℕ) → c < 2 ^ k → shut_in k c i < 2 ^ k
shut-below k c i l = go (ltb i k) refl (eqb (c / 2 ^ i % 2) 0) refl
  where
    go : (t : Bool) → ltb i k ≡ t → (u : Bool) → eqb (c / 2 ^ i % 2) 0 ≡ u → shut_in k c i < 2 ^ k
    go false e u f = rw (shut_none k c i (ltb-false i k e)) l
    go true e true f =
        let h = ltb-true i k e in
        let o = eqb-true (c / 2 ^ i % 2) 0 f in
        rw (shut_open k c i h o) (room k c i h l o)
    go true e false f = rw (shut-shut k c i (eqb-false (c / 2 ^ i % 2) 0 f)) l

pub opened-below : (k c i : ℕ) → c < 2 ^ k → opened_in k c i < 2 ^ k
opened-below k c i l = go (ltb i k) refl (eqb (c / 2 ^ i % 2) 0) refl
  where
    go : (t : Bool) → ltb i k ≡ t → (u : Bool) → eqb (c / 2 ^ i % 2) 0 ≡ u → opened_in k c i < 2 ^ k
    go false e u f = rw (opened-none k c i (ltb-false i k e)) l
    go true e true f = rw (opened_open k c i (eqb-true (c / 2 ^ i % 2) 0 f)) l
    go true e false f = rw (opened-shut k c i (ltb-true i k e) (eqb-false (c / 2 ^ i % 2) 0 f)) (omega arith)
