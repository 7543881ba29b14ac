-- Tests over the links of a list, or none. Assumes nothing.
use mathlib.Core.Path.{◌≡◌, refl, sym, ap, subst, ◌∙◌}
use mathlib.Core.Bool.{Bool, true, false, ◌||◌, ◌&&◌}
use mathlib.Core.List.{List, [], ◌∷◌}
use Prim.Native.Nat.{ℕ, zero, suc, ◌+◌}
use native.Mathlib.Numerals.{add-one}
use native.Mathlib.Omega.{arith}
use lib.Dec.{eqb}
use lib.ListN.{get_or, length}
use borrow.Author.Tests.{eqb-true}
use Rattle.link_rules.specs.Network.{all_below}
use Rattle.free_path.specs.Base.{any}
use Rattle.game.specs.Game.{is_listed, every, choices}
use Rattle.game.specs.Sets.{some_below}

clash : {A : Type 0} → false ≡ true → A
clash e = let z : ◌≡◌ {A = ℕ} 0 1 = cc in absurd (omega arith)

pub or_right : (a b : Bool) → b ≡ true → (a || b) ≡ true
or_right true b k = refl
or_right false b k = k

-- ---- some passes: from one that does, and back
pub any-from : (f : ℕ → Bool) (xs : List ℕ) (x : ℕ) → is_listed xs x ≡ true → f x ≡ true → any f xs ≡ true
unfolding any
any-from f [] x m h = clash m
any-from f (y ∷ ys) x m h = go (eqb x y) refl (any-from f ys x)
  where
    go : (t : Bool) → eqb x y ≡ t → (is_listed ys x ≡ true → f x ≡ true → any f ys ≡ true) → (f y || any f ys) ≡ true
    go true e next = let q : x ≡ y = eqb-true x y e in let g : f y ≡ true = subst (λ (z : ℕ). f z ≡ true) q h in rw g
    go false e next = or_right (f y) (any f ys) (next (rest e) h)
      where
        rest : eqb x y ≡ false → is_listed ys x ≡ true
        rest e = sym (ap (λ (b : Bool). b || is_listed ys x) e) ∙ m

pub any_which : (f : ℕ → Bool) (xs : List ℕ) → any f xs ≡ true → (x : ℕ) × (f x ≡ true)
unfolding any
any_which f [] h = clash h
any_which f (y ∷ ys) h = go (f y) refl (any_which f ys)
  where
    go : (t : Bool) → f y ≡ t → (any f ys ≡ true → (x : ℕ) × (f x ≡ true)) → (x : ℕ) × (f x ≡ true)
    go true e next = (y, e)
    go false e next = next (sym (ap (λ (b : Bool). b || any f ys) e) ∙ h)

-- ---- all pass
pub every-from : (f : ℕ → Bool) (xs : List ℕ) → ((x : ℕ) → f x ≡ true) → every f xs ≡ true
unfolding every
every-from f [] h = refl
every-from f (x ∷ xs) h = rw (h x, every-from f xs h)

pub every-each : (f : ℕ → Bool) (xs : List ℕ) → every f xs ≡ true → (x : ℕ) → is_listed xs x ≡ true → f x ≡ true
unfolding every any
every-each f [] h x m = clash m
every-each f (y ∷ ys) h x m = go (f y) refl (eqb x y) refl (λ k. every-each f ys k x)
  where
    go : (a : Bool) → f y ≡ a → (t : Bool) → eqb x y ≡ t → (every f ys ≡ true → is_listed ys x ≡ true → f x ≡ true) → f x ≡ true
    go false d t e next = clash (sym (ap (λ (b : Bool). b && every f ys) d) ∙ h)
    go true d true e next = let q : x ≡ y = eqb-true x y e in subst (λ (z : ℕ). f z ≡ true) (sym q) d
    go true d false e next = next (sym (ap (λ (b : Bool). b && every f ys) d) ∙ h) (sym (ap (λ (b : Bool). b || is_listed ys x) e) ∙ m)

-- ---- the same tests over the places of the list, the place behind the last being none

some_first : (n : ℕ) (f : ℕ → Bool) → some_below (suc n) f ≡ (f 0 || some_below n (λ i. f (suc i)))
unfolding some_below
some_first zero f = or-none (f 0)
  where
    or-none : (a : Bool) → (false || a) ≡ (a || false)
    or-none true = refl
    or-none false = refl
some_first (suc n) f = ap (λ (b : Bool). b || f (suc n)) (some_first n f) ∙ or_assoc (f 0) (some_below n (λ i. f (suc i))) (f (suc n))
  where
    or_assoc : (a b c : Bool) → ((a || b) || c) ≡ (a || (b || c))
    or_assoc true b c = refl
    or_assoc false b c = refl

all_first : (n : ℕ) (f : ℕ → Bool) → all_below (suc n) f ≡ (f 0 && all_below n (λ i. f (suc i)))
unfolding all_below
all_first zero f = and_none (f 0)
  where
    and_none : (a : Bool) → (true && a) ≡ (a && true)
    and_none true = refl
    and_none false = refl
all_first (suc n) f = ap (λ (b : Bool). b && f (suc n)) (all_first n f) ∙ and_assoc (f 0) (all_below n (λ i. f (suc i))) (f (suc n))
  where
    and_assoc : (a b c : Bool) → ((a && b) && c) ≡ (a && (b && c))
    and_assoc true b c = refl
    and_assoc false b c = refl

some_behind : (f : ℕ → Bool) (xs : List ℕ) → some_below (suc (length xs)) (λ i. f (get_or xs i 0)) ≡ any f (choices xs)
unfolding some_below any
some_behind f [] = or-none (f 0)
  where
    or-none : (a : Bool) → (false || a) ≡ (a || false)
    or-none true = refl
    or-none false = refl
some_behind f (x ∷ xs) = some_first (suc (length xs)) (λ i. f (get_or (x ∷ xs) i 0)) ∙ ap (λ (b : Bool). f x || b) (some_behind f xs) ∙ turn (f x) (f 0) (any f xs)
  where
    turn : (a b c : Bool) → (a || (b || c)) ≡ (b || (a || c))
    turn true true c = refl
    turn true false c = refl
    turn false true c = refl
    turn false false c = refl

all_behind : (f : ℕ → Bool) (xs : List ℕ) → all_below (suc (length xs)) (λ i. f (get_or xs i 0)) ≡ every f (choices xs)
unfolding all_below every
all_behind f [] = and_none (f 0)
  where
    and_none : (a : Bool) → (true && a) ≡ (a && true)
    and_none true = refl
    and_none false = refl
all_behind f (x ∷ xs) = all_first (suc (length xs)) (λ i. f (get_or (x ∷ xs) i 0)) ∙ ap (λ (b : Bool). f x && b) (all_behind f xs) ∙ turn (f x) (f 0) (every f xs)
  where
    turn : (a b c : Bool) → (a && (b && c)) ≡ (b && (a && c))
    turn true true c = refl
    turn true false c = refl
    turn false true c = refl
    turn false false c = refl

pub some_choice : (f : ℕ → Bool) (xs : List ℕ) → some_below (length xs + 1) (λ i. f (get_or xs i 0)) ≡ any f (choices xs)
some_choice f xs = ap (λ (n : ℕ). some_below n (λ i. f (get_or xs i 0))) (add-one (length xs)) ∙ some_behind f xs

pub all_choices : (f : ℕ → Bool) (xs : List ℕ) → all_below (length xs + 1) (λ i. f (get_or xs i 0)) ≡ every f (choices xs)
all_choices f xs = ap (λ (n : ℕ). all_below n (λ i. f (get_or xs i 0))) (add-one (length xs)) ∙ all_behind f xs
