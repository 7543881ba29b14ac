-- How many slots pass a test, under a renumbering of the slots. Assumes nothing.
use mir.Val.{bool_byte}
use mathlib.Core.Path.{◌≡◌, refl, sym, ap, ap₂, ◌∙◌}
use mathlib.Core.Logic.{⊎_elim}
use mathlib.Core.Bool.{Bool, true, false, cond, not}
use Prim.Native.Nat.{ℕ, zero, suc, ◌+◌, ◌≤◌, ◌<◌}
use native.Mathlib.Nat.{eq-or-lt_of_le}
use native.Mathlib.Numerals.{add-one}
use native.Mathlib.Omega.{arith}
use lib.Dec.{leb, eqb}
use borrow.Author.Tests.{eq-eqb, ne_eqb, leb-true, leb-false, le-leb, lt-leb}
use Rattle.link_rules.specs.Renumbering.{Renumbering}
use Rattle.yard_check.specs.Check.{how_many}

abbrev pub bit : Bool → ℕ
bit t = cond t 1 0

-- as u32::from gives it
pub bit_from : (t : Bool) → bool_byte t ≡ bit t
bit_from true = refl
bit_from false = refl

bit_not : (t : Bool) → bit t + bit (not t) ≡ 1
bit_not true = refl
bit_not false = refl

pub bit-few : (t : Bool) → bit t ≤ 1
bit-few true = omega arith
bit-few false = omega arith

pub many_few : (f : ℕ → Bool) (n : ℕ) → how_many f n ≤ n
unfolding how_many
many_few f zero = omega arith
many_few f (suc n) = omega (arith, many_few f n, bit-few (f (suc n)))

-- one slot more
pub many_more : (f : ℕ → Bool) (n : ℕ) → how_many f (n + 1) ≡ bit (f (n + 1)) + how_many f n
unfolding how_many
many_more f n = rw (add-one n, how_many)

pub many_start : (f : ℕ → Bool) → how_many f 0 ≡ 0
unfolding how_many
many_start f = refl

-- all pass, and none
pub many_all : (f : ℕ → Bool) (n : ℕ) → how_many f n ≡ n → (t : ℕ) → 1 ≤ t → t ≤ n → f t ≡ true
unfolding how_many
many_all f zero e t l m = absurd (omega arith)
many_all f (suc n) e t l m = go (f (suc n)) refl (λ k x. many_all f n k t l x)
  where
    go : (b : Bool) → f (suc n) ≡ b → (how_many f n ≡ n → t ≤ n → f t ≡ true) → f t ≡ true
    go false k lower = absurd (omega (arith, e, ap bit k, many_few f n))
    go true k lower = ⊎_elim (λ (x : t ≡ suc n). rw x k) (λ (x : t < suc n). lower (omega (arith, e, ap bit k)) (omega arith)) (eq-or-lt_of_le m)

pub many_none : (f : ℕ → Bool) (n : ℕ) → how_many f n ≡ 0 → (t : ℕ) → 1 ≤ t → t ≤ n → f t ≡ false
unfolding how_many
many_none f zero e t l m = absurd (omega arith)
many_none f (suc n) e t l m = go (f (suc n)) refl (λ k x. many_none f n k t l x)
  where
    go : (b : Bool) → f (suc n) ≡ b → (how_many f n ≡ 0 → t ≤ n → f t ≡ false) → f t ≡ false
    go true k lower = absurd (omega (arith, e, ap bit k))
    go false k lower = ⊎_elim (λ (x : t ≡ suc n). rw x k) (λ (x : t < suc n). lower (omega (arith, e)) (omega arith)) (eq-or-lt_of_le m)

-- the same test
pub many_same : (f g : ℕ → Bool) (n : ℕ) → ((t : ℕ) → 1 ≤ t → t ≤ n → f t ≡ g t) → how_many f n ≡ how_many g n
unfolding how_many
many_same f g zero h = refl
many_same f g (suc n) h = ap₂ (λ (a b : ℕ). a + b) (ap bit (h (suc n) (omega arith) (omega arith))) (many_same f g n (λ t a b. h t a (omega arith)))

-- those that pass and those that do not
both_many : (f : ℕ → Bool) (n : ℕ) → how_many f n + how_many (λ t. not (f t)) n ≡ n
unfolding how_many
both_many f zero = omega arith
both_many f (suc n) = omega (arith, both_many f n, bit_not (f (suc n)))

-- all slots but u
abbrev without : (ℕ → Bool) → ℕ → ℕ → Bool
without f u t = cond (eqb t u) false (f t)

without_other : (f : ℕ → Bool) (u t : ℕ) → (t ≡ u → ⊥) → without f u t ≡ f t
without_other f u t h = ap (λ (x : Bool). cond x false (f t)) (ne_eqb t u h)

one_out : (f : ℕ → Bool) (u n : ℕ) → 1 ≤ u → u ≤ n → how_many f n ≡ bit (f u) + how_many (without f u) n
unfolding how_many
one_out f u zero a b = absurd (omega arith)
one_out f u (suc n) a b = ⊎_elim last (λ l. lower (one_out f u n a (omega arith)) l) (eq-or-lt_of_le b)
  where
    last : u ≡ suc n → bit (f (suc n)) + how_many f n ≡ bit (f u) + (bit (without f u (suc n)) + how_many (without f u) n)
    last e =
        let z : without f u (suc n) ≡ false = ap (λ (x : Bool). cond x false (f (suc n))) (eq-eqb (suc n) u (sym e)) in
        let s = many_same f (without f u) n (λ t l m. sym (without_other f u t (λ k. omega arith))) in
        omega (arith, s, ap bit z, ap (λ (t : ℕ). bit (f t)) e)

    lower : how_many f n ≡ bit (f u) + how_many (without f u) n → u < suc n → bit (f (suc n)) + how_many f n ≡ bit (f u) + (bit (without f u (suc n)) + how_many (without f u) n)
    lower i l = omega (arith, i, ap bit (without_other f u (suc n) (λ k. omega arith)))

module _ (top slots : ℕ) (q : ℕ → ℕ) (r : Renumbering top q) where
  -- no slot becomes 0
  pub some : (t : ℕ) → 1 ≤ t → 1 ≤ q t
  some zero h = absurd (omega arith)
  some (suc t) h = go (q (suc t)) refl
    where
      go : (x : ℕ) → q (suc t) ≡ x → 1 ≤ x
      go zero e = absurd (omega (arith, r.one-to-one (suc t) 0 (e ∙ sym r.zero_stays)))
      go (suc x) e = omega arith

  many_under : (f : ℕ → Bool) (n : ℕ) → ((t : ℕ) → t ≤ n → q t ≤ slots) → how_many (λ t. f (q t)) n ≤ how_many f slots
  unfolding how_many
  many_under f zero h = omega arith
  many_under f (suc n) h =
      let u = q (suc n) in
      let s = many_same (λ t. f (q t)) (λ t. without f u (q t)) n (λ t l m. sym (without_other f u (q t) (λ k. omega (arith, r.one-to-one t (suc n) k)))) in
      omega (arith, s, many_under (without f u) n (λ t l. h t (omega arith)), one_out f u slots (some (suc n) (omega arith)) (h (suc n) (omega arith)))

  module _ (among : (t : ℕ) → t ≤ slots → q t ≤ slots) where
    -- as many pass under another numbering
    pub many_renumbered : (f : ℕ → Bool) → how_many (λ t. f (q t)) slots ≡ how_many f slots
    many_renumbered f =
        omega (arith, many_under f slots among, many_under (λ t. not (f t)) slots among, both_many f slots, both_many (λ t. f (q t)) slots)

    all_many : (f : ℕ → Bool) (n : ℕ) → ((t : ℕ) → t ≤ n → f t ≡ true) → how_many f n ≡ n
    unfolding how_many
    all_many f zero h = refl
    all_many f (suc n) h = omega (arith, ap bit (h (suc n) (omega arith)), all_many f n (λ t l. h t (omega arith)))

    -- no other number becomes a slot's
    others : (t : ℕ) → slots < t → slots < q t
    others t h = go (leb (q t) slots) refl
      where
        f : ℕ → Bool
        f x = not (eqb x (q t))

        go : (b : Bool) → leb (q t) slots ≡ b → slots < q t
        go false e = leb-false (q t) slots e
        go true e =
            let l = leb-true (q t) slots e in
            let all = all_many (λ x. f (q x)) slots (λ x m. ap not (ne_eqb (q x) (q t) (λ k. omega (arith, r.one-to-one x t k)))) in
            let one = one_out (λ x. not (f x)) (q t) slots (some t (omega arith)) l in
            let here : not (f (q t)) ≡ true = ap (λ (x : Bool). not (not x)) (eq-eqb (q t) (q t) refl) in
            absurd (omega (arith, all, many_renumbered f, both_many f slots, one, ap bit here))

    pub leb_slots : (t : ℕ) → leb (q t) slots ≡ leb t slots
    leb_slots t = go (leb t slots) refl
      where
        go : (b : Bool) → leb t slots ≡ b → leb (q t) slots ≡ b
        go true e = le-leb (q t) slots (among t (leb-true t slots e))
        go false e = lt-leb (q t) slots (others t (leb-false t slots e))
