-- Laws of `all` and `any` over the numbers below an end, and over a slice. Assumes nothing.
use Rattle.std.proofs.Common.{◌≡◌, ℕ, zero, suc, ◌+◌, ◌<◌, Bool, true, false, not, ◌&&◌, List, [], ◌∷◌, length, get_or, sym, refl, ap, ap₂, ◌∙◌, arith}
use Rattle.std.specs.Prelude.{Option, ◌||◌}
use Rattle.std.specs.declared.ops.Range.{Range}
use Rattle.std.specs.Fn.{Called}
use Rattle.std.specs.Iterator.{YieldsThen}
use Rattle.std.specs.List.{list_all, list_any, range_with_len, FoldsTo}
use Rattle.std.specs.Option.{MatchOption}
use Rattle.std.proofs.lemmas.Iterator.{YieldsList, YieldsList-from_range}
use Rattle.std.proofs.lemmas.Iterator.Search.{all_from_yields_List, any_from_yields_List}
use Rattle.std.proofs.iter.Yields.{nat_range_steps}
use denote.Param.Members.{Mut}
use Rattle.link_rules.specs.Network.{all_below}

pub all_same : (n : ℕ) (f g : ℕ → Bool) → ((i : ℕ) → i < n → f i ≡ g i) → all_below n f ≡ all_below n g
unfolding all_below
all_same zero f g h = refl
all_same (suc n) f g h = ap₂ ◌&&◌ (all_same n f g (λ i l. h i (omega arith))) (h n (omega arith))

and_first : (a : Bool) → (true && a) ≡ (a && true)
and_first true = refl
and_first false = refl

pub and_third : (a b c : Bool) → ((a && b) && c) ≡ (a && (b && c))
and_third true b c = refl
and_third false b c = refl

-- the first number, then the others
pub all_front : (n : ℕ) (f : ℕ → Bool) → all_below (suc n) f ≡ (f 0 && all_below n (λ i. f (suc i)))
unfolding all_below
all_front zero f = and_first (f 0)
all_front (suc n) f = ap (λ (b : Bool). b && f (suc n)) (all_front n f) ∙ and_third (f 0) (all_below n (λ i. f (suc i))) (f (suc n))

pub all_of_range : (test : ℕ → Bool) (a n : ℕ) → list_all test (range_with_len a n) ≡ all_below n (λ i. test (a + i))
unfolding all_below
all_of_range test a zero = refl
all_of_range test a (suc n) =
    ap₂ ◌&&◌ (ap test (omega arith)) (all_of_range test (a + 1) n ∙ all_same n (λ i. test (a + 1 + i)) (λ i. test (a + suc i)) (λ i l. ap test (omega arith)))
    ∙ sym (all_front n (λ i. test (a + i)))

pub any_of_all : {A : Type 0} (test : A → Bool) (xs : List A) → list_any test xs ≡ not (list_all (λ x. not (test x)) xs)
any_of_all test [] = refl
any_of_all test (x ∷ xs) = ap (λ b. test x || b) (any_of_all test xs) ∙ turned (test x) (list_all (λ y. not (test y)) xs)
  where
    turned : (a b : Bool) → (a || not b) ≡ not (not a && b)
    turned true b = refl
    turned false b = refl

-- every element of a slice
pub all_of_list : (test : ℕ → Bool) (xs : List ℕ) → list_all test xs ≡ all_below (length xs) (λ i. test (get_or xs i 0))
unfolding all_below
all_of_list test [] = refl
all_of_list test (x ∷ xs) = ap (λ b. test x && b) (all_of_list test xs) ∙ sym (all_front (length xs) (λ i. test (get_or (x ∷ xs) i 0)))

-- ---- what `(0..n).all(f)` and `(0..n).any(f)` answer, by what each call of f does. The answer of a function that ends in one:
-- returns c = all_ran (λ i. TEST) c.args.n c.all.ensures.ran (λ x b q k. search (rules, tests))

-- each call of f at x answers test x, and leaves f
abbrev pub Computes : {F : Type 0} (g : Mut F (ℕ × Unit {0}) Bool) (f : F) (test : ℕ → Bool) → Type 0
Computes {F} g f test = (x : ℕ) (b : Bool) (q : F) → Called g f (x, tt) b q → (q ≡ f) × (b ≡ test x)

below : (n : ℕ) → YieldsList nat_range_steps (λ x. x) (record { start = 0; end = n }) (range_with_len 0 n)
below n = YieldsList-from_range 0 n n refl (omega arith)

module _ {F : Type 0} {g : Mut F (ℕ × Unit {0}) Bool} {u : Range ℕ} {f : F} {r : Bool} (test : ℕ → Bool) (n : ℕ) where
  pub all_ran : (xs : List ℕ) × (o : Option ℕ) × (j : F) × YieldsThen nat_range_steps (record { start = 0; end = n }) xs o u × FoldsTo (λ p x q. Called g p (x, tt) true q) f xs j
      × MatchOption o (r ≡ true) (λ x. (r ≡ false) × ((h : F) × Called g j (x, tt) false h)) → Computes g f test → r ≡ all_below n test
  all_ran ran each = all_from_yields_List test u f r ran (below n) each ∙ all_of_range test 0 n ∙ all_same n (λ i. test (0 + i)) test (λ i l. ap test (omega arith))

  pub any_ran : (xs : List ℕ) × (o : Option ℕ) × (j : F) × YieldsThen nat_range_steps (record { start = 0; end = n }) xs o u × FoldsTo (λ p x q. Called g p (x, tt) false q) f xs j
      × MatchOption o (r ≡ false) (λ x. (r ≡ true) × ((h : F) × Called g j (x, tt) true h)) → Computes g f test → r ≡ not (all_below n (λ i. not (test i)))
  any_ran ran each =
      any_from_yields_List test u f r ran (below n) each
      ∙ any_of_all test (range_with_len 0 n)
      ∙ ap not (all_of_range (λ i. not (test i)) 0 n ∙ all_same n (λ i. not (test (0 + i))) (λ i. not (test i)) (λ i l. ap (λ k. not (test k)) (omega arith)))
