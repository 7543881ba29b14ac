-- What `find` over a range answers, as the walks of Base have it. Assumes nothing.
use Rattle.std.proofs.Common.{◌≡◌, length-drop, ℕ, zero, suc, ◌+◌, ◌-◌, ◌<◌, ◌≤◌, Bool, true, false, cond, Result, Ok, Err, Option, None, Some, List, [], ◌∷◌, map, length, take, drop, sym, refl, ap, ◌∙◌, add-one, arith}
use Rattle.std.specs.declared.ops.Range.{Range}
use Rattle.std.specs.Fn.{CalledAt}
use Rattle.std.specs.Bool.{⊤}
use Rattle.std.specs.Iterator.{YieldsThen}
use Rattle.std.specs.List.{find, range_with_len, FoldsTo}
use Rattle.std.specs.Option.{MatchOption, ok_or, unwrap_or, option_map}
use Rattle.std.proofs.lemmas.Iterator.{YieldsList-from_range}
use Rattle.std.proofs.lemmas.Iterator.Search.{find_from_yields_List}
use Rattle.std.proofs.lemmas.List.FromFn.{take-map-range_with_len}
use Rattle.std.proofs.iter.Yields.{nat_range_steps}
use denote.Param.Members.{Mut}
use denote.Ref.{Bor}
use Rattle.disp_structs.specs.Listed.{listed}
use Rattle.disp_structs.proofs.ListedLaws.{listed-length}
use Rattle.free_path.specs.Base.{Res, ok, no, ◌>>=◌, part, steps_to, walk_from, passes}
use Rattle.free_path.specs.Halts.{number_of, answered}
use Rattle.free_path.specs.declared.halt.Halt.{Halt}
use Rattle.free_path.specs.declared.halt.Halt.TheVariants.{Panic}
use Rattle.free_path.proofs.MapLaws.{steps_to-map, passes-map}
use Rattle.free_path.proofs.ColumnLaws.{listed-from, listed-end}

-- ---- what the entries from a number on are

module _ {A : Type 0} (f : ℕ → A) (n : ℕ) where
  pub listed-range : (k b : ℕ) → n - b ≡ k → drop b (listed n f) ≡ map f (range_with_len b k)
  listed-range zero b e = listed-end n f b (omega arith)
  listed-range (suc k) b e = listed-from n f b (omega arith) ∙ ap (λ (x : List A). f b ∷ x) (ap (λ (i : ℕ). drop i (listed n f)) (sym (add-one b)) ∙ listed-range k (b + 1) (omega arith))

  pub part-range : (b e : ℕ) → e ≤ n → part b e (listed n f) ≡ map f (range_with_len b (e - b))
  part-range b e h = ap (take (e - b)) (listed-range (n - b) b refl) ∙ take-map-range_with_len f b (n - b) (e - b) (omega arith)

-- ---- the first that passes

option_id : (r : Option ℕ) → option_map (λ x. x) r ≡ r
option_id None = refl
option_id (Some x) = refl

-- a function that ends in `(a..b).find(f)`: find_ran (λ i. TEST) _ _ _ c.find.ensures.ran (λ x b q k. search (rules, tests))
module _ {F : Type 0} {g : Mut F (Bor ℕ × Unit {0}) Bool} {f : F} {r : Option ℕ} (test : ℕ → Bool) (a b : ℕ) (u : Range ℕ) where
  pub find_ran : (xs : List ℕ) × (j : F) × YieldsThen nat_range_steps (record { start = a; end = b }) xs r u × FoldsTo (λ p x q. CalledAt g p x false q) f xs j
      × MatchOption r ⊤ (λ x. (h : F) × CalledAt g j x true h) → ((x : ℕ) (v : Bool) (q : F) → CalledAt g f x v q → (q ≡ f) × (v ≡ test x)) → r ≡ find test (range_with_len a (b - a))
  find_ran ran each = sym (option_id r) ∙ find_from_yields_List test u f r ran (YieldsList-from_range a b (b - a) refl refl) each

module _ (p : ℕ → Bool) where
  found-steps : (a k : ℕ) → answered (ok_or (find p (range_with_len a k)) Panic) ≡ (steps_to p (range_with_len a k) >>= λ m. ok (a + m))
  unfolding steps_to
  found-steps a zero = refl
  found-steps a (suc k) = go (p a) (found-steps (a + 1) k)
    where
      more : (m : Res ℕ) → (m >>= λ n. ok (a + 1 + n)) ≡ ((m >>= λ n. ok (suc n)) >>= λ n. ok (a + n))
      more (ok n) = ap ok (omega arith)
      more (no n) = refl

      go : (t : Bool) → answered (ok_or (find p (range_with_len (a + 1) k)) Panic) ≡ (steps_to p (range_with_len (a + 1) k) >>= λ m. ok (a + 1 + m))
          → answered (ok_or (cond t (Some a) (find p (range_with_len (a + 1) k))) Panic) ≡ (cond t (ok 0) (steps_to p (range_with_len (a + 1) k) >>= λ n. ok (suc n)) >>= λ m. ok (a + m))
      go true h = ap ok (omega arith)
      go false h = h ∙ more (steps_to p (range_with_len (a + 1) k))

  found-passes : (a k e : ℕ) → a + k ≡ e → unwrap_or (find p (range_with_len a k)) e ≡ a + passes p (range_with_len a k)
  unfolding passes
  found-passes a zero e h = omega arith
  found-passes a (suc k) e h = go (p a) (found-passes (a + 1) k e (omega arith))
    where
      go : (t : Bool) → unwrap_or (find p (range_with_len (a + 1) k)) e ≡ a + 1 + passes p (range_with_len (a + 1) k)
          → unwrap_or (cond t (Some a) (find p (range_with_len (a + 1) k))) e ≡ a + cond t 0 (suc (passes p (range_with_len (a + 1) k)))
      go true i = omega arith
      go false i = i ∙ omega arith

module _ {A : Type 0} (p : A → Bool) (f : ℕ → A) (n : ℕ) where
  walk_ran : (i : ℕ) → answered (ok_or (find (λ j. p (f j)) (range_with_len i (n - i))) Panic) ≡ walk_from p (listed n f) i
  unfolding walk_from
  walk_ran i =
      found-steps (λ j. p (f j)) i (n - i)
      ∙ ap (λ (m : Res ℕ). m >>= λ k. ok (i + k)) (sym (steps_to-map f (λ j. p (f j)) p (λ j. refl) (range_with_len i (n - i))) ∙ ap (steps_to p) (sym (listed-range f n (n - i) i refl)))

  -- as `.ok_or(Halt::Panic)` has it
  pub walk_found : (i : ℕ) {o : Result ℕ Halt} {r : Option ℕ} → o ≡ ok_or r Panic → r ≡ find (λ j. p (f j)) (range_with_len i (n - i)) → answered o ≡ walk_from p (listed n f) i
  walk_found i q e = ap answered (q ∙ ap (λ (t : Option ℕ). ok_or t Panic) e) ∙ walk_ran i

  -- as `.unwrap_or(e)` has it
  pub passes_ran : (i e : ℕ) → i ≤ e → e ≤ n → unwrap_or (find (λ j. p (f j)) (range_with_len i (e - i))) e ≡ i + passes p (part i e (listed n f))
  passes_ran i e h m =
      found-passes (λ j. p (f j)) i (e - i) e (omega arith)
      ∙ ap (λ (k : ℕ). i + k) (sym (passes-map f (λ j. p (f j)) p (λ j. refl) (range_with_len i (e - i))) ∙ ap (passes p) (sym (part-range f n i e m)))

-- ---- an answer that may halt, where it did and where it did not

module _ {A : Type 0} {o : Result A Halt} {r : Res A} (q : answered o ≡ r) where
  pub halted : {h : Halt} → o ≡ Err h → no (number_of h) ≡ r
  halted e = sym (ap answered e) ∙ q

  pub went : {a : A} → o ≡ Ok a → ok a ≡ r
  went e = sym (ap answered e) ∙ q

-- ---- a walk that finds one finds it among the entries

steps-in : {A : Type 0} (p : A → Bool) (xs : List A) (k : ℕ) → ok k ≡ steps_to p xs → k < length xs
unfolding steps_to
steps-in p [] k e = let z : ⊥ = cc in absurd z
steps-in p (x ∷ xs) k e = go (p x) (steps_to p xs) (steps-in p xs) e
  where
    go : (t : Bool) (m : Res ℕ) → ((j : ℕ) → ok j ≡ m → j < length xs) → ok k ≡ cond t (ok 0) (m >>= λ n. ok (suc n)) → k < suc (length xs)
    go true m h q = let z : k ≡ 0 = cc in omega arith
    go false (ok n) h q = let z : k ≡ suc n = cc in let l : n < length xs = h n refl in omega arith
    go false (no n) h q = let z : ⊥ = cc in absurd z

pub walk-in : {A : Type 0} (p : A → Bool) (f : ℕ → A) (n i k : ℕ) → ok k ≡ walk_from p (listed n f) i → (i ≤ k) × (k < n)
unfolding walk_from
walk-in p f n i k e = go (steps_to p (drop i (listed n f))) (λ j q. steps-in p (drop i (listed n f)) j q) e
  where
    go : (m : Res ℕ) → ((j : ℕ) → ok j ≡ m → j < length (drop i (listed n f))) → ok k ≡ (m >>= λ j. ok (i + j)) → (i ≤ k) × (k < n)
    go (ok j) h q =
        let z : k ≡ i + j = cc in
        let l : j < length (drop i (listed n f)) = h j refl in
        let d : length (drop i (listed n f)) ≡ n - i = length-drop i (listed n f) ∙ ap (λ (t : ℕ). t - i) (listed-length n f) in
        (omega arith, omega arith)
    go (no m) h q = let z : ⊥ = cc in absurd z
