-- Reads of a list, and what holds of each entry or of neighbours, over the operations of the update. Assumes nothing.
use mathlib.Core.Path.{◌≡◌, refl, sym, ap, subst, ◌∙◌}
use mathlib.Core.Logic.{◌⊎◌, inl, inr, ⊎_elim}
use mathlib.Core.Bool.{Bool, true, false}
use mathlib.Core.List.{List, [], ◌∷◌, ◌++◌, map}
use Prim.Native.Nat.{ℕ, zero, suc, ◌+◌, ◌-◌, ◌≤◌, ◌<◌}
use native.Mathlib.Omega.{arith}
use lib.ListN.{length, get_or, take, drop, set}
use Rattle.free_path.specs.Base.{ok, at, last, steps_to, walk_from, walk_back}
use Rattle.update_definition.specs.Accepted.{Each, Chain}
use Rattle.update_laws.proofs.Answers.{no_ok, ok_same, bind_ok, cond_cases}

module _ {A : Type 0} where
  -- ---- reads

  pub at-below : (xs : List A) (i : ℕ) {x : A} → at xs i ≡ ok x → i < length xs
  unfolding at
  at-below [] i h = no_ok h
  at-below (x ∷ xs) zero h = omega arith
  at-below (x ∷ xs) (suc i) h = omega (arith, at-below xs i h)

  pub at_some : (xs : List A) (i : ℕ) → i < length xs → (x : A) × (at xs i ≡ ok x)
  unfolding at
  at_some [] i h = absurd (omega arith)
  at_some (x ∷ xs) zero h = (x, refl)
  at_some (x ∷ xs) (suc i) h = at_some xs i (omega arith)

  pub at_get_d : (xs : List A) (i : ℕ) (d : A) {x : A} → at xs i ≡ ok x → get_or xs i d ≡ x
  unfolding at
  at_get_d [] i d h = no_ok h
  at_get_d (x ∷ xs) zero d h = ok_same h
  at_get_d (x ∷ xs) (suc i) d h = at_get_d xs i d h

  pub at_left : (xs ys : List A) (i : ℕ) → i < length xs → at (xs ++ ys) i ≡ at xs i
  unfolding at
  at_left [] ys i h = absurd (omega arith)
  at_left (x ∷ xs) ys zero h = refl
  at_left (x ∷ xs) ys (suc i) h = at_left xs ys i (omega arith)

  -- behind the first list
  pub at_right : (xs ys : List A) (i : ℕ) → length xs ≤ i → at (xs ++ ys) i ≡ at ys (i - length xs)
  unfolding at
  at_right [] ys i h = let q : i - 0 ≡ i = omega arith in rw q
  at_right (x ∷ xs) ys zero h = absurd (omega arith)
  at_right (x ∷ xs) ys (suc i) h = let q : suc i - suc (length xs) ≡ i - length xs = omega arith in rw q (at_right xs ys i (omega arith))

  pub at_take : (n : ℕ) (xs : List A) (i : ℕ) → i < n → at (take n xs) i ≡ at xs i
  unfolding at
  at_take zero xs i h = absurd (omega arith)
  at_take (suc n) [] i h = refl
  at_take (suc n) (x ∷ xs) zero h = refl
  at_take (suc n) (x ∷ xs) (suc i) h = at_take n xs i (omega arith)

  pub take_below : (n : ℕ) (xs : List A) (i : ℕ) {x : A} → at (take n xs) i ≡ ok x → (i < n) × (at xs i ≡ ok x)
  unfolding at
  take_below zero xs i h = no_ok h
  take_below (suc n) [] i h = no_ok h
  take_below (suc n) (x ∷ xs) zero h = (omega arith, h)
  take_below (suc n) (x ∷ xs) (suc i) h = let w = take_below n xs i h in (omega (arith, w.0), w.1)

  pub at_drop : (n : ℕ) (xs : List A) (i : ℕ) → at (drop n xs) i ≡ at xs (n + i)
  unfolding at
  at_drop zero xs i = let q : 0 + i ≡ i = omega arith in rw q
  at_drop (suc n) [] i = refl
  at_drop (suc n) (x ∷ xs) i = let q : suc n + i ≡ suc (n + i) = omega arith in rw q (at_drop n xs i)

  pub at_set : (xs : List A) (i : ℕ) (v : A) (j : ℕ) {x : A} → at (set xs i v) j ≡ ok x → (at xs j ≡ ok x) ⊎ (x ≡ v)
  unfolding at
  at_set [] i v j h = no_ok h
  at_set (y ∷ xs) zero v zero h = inr (sym (ok_same h))
  at_set (y ∷ xs) zero v (suc j) h = inl h
  at_set (y ∷ xs) (suc i) v zero h = inl h
  at_set (y ∷ xs) (suc i) v (suc j) h = at_set xs i v j h

  pub set_other : (xs : List A) (i : ℕ) (v : A) (j : ℕ) → (j ≡ i → ⊥) → at (set xs i v) j ≡ at xs j
  unfolding at
  set_other [] i v j h = refl
  set_other (y ∷ xs) zero v zero h = absurd (h refl)
  set_other (y ∷ xs) zero v (suc j) h = refl
  set_other (y ∷ xs) (suc i) v zero h = refl
  set_other (y ∷ xs) (suc i) v (suc j) h = set_other xs i v j (λ q. h (ap suc q))

  pub set_same : (xs : List A) (i : ℕ) (v : A) → i < length xs → at (set xs i v) i ≡ ok v
  unfolding at
  set_same [] i v h = absurd (omega arith)
  set_same (y ∷ xs) zero v h = refl
  set_same (y ∷ xs) (suc i) v h = set_same xs i v (omega arith)

  -- one entry at the end
  pub at_push : (xs : List A) (a : A) (i : ℕ) {x : A} → at (xs ++ (a ∷ [])) i ≡ ok x → ((i < length xs) × (at xs i ≡ ok x)) ⊎ ((i ≡ length xs) × (a ≡ x))
  unfolding at
  at_push [] a zero h = inr (refl, ok_same h)
  at_push [] a (suc i) h = no_ok h
  at_push (y ∷ xs) a zero h = inl (omega arith, h)
  at_push (y ∷ xs) a (suc i) h = ⊎_elim (λ w. inl (omega (arith, w.0), w.1)) (λ w. inr (ap suc w.0, w.1)) (at_push xs a i h)

  -- ---- each

  pub each_append : (P : A → Type 0) (xs ys : List A) → Each P xs → Each P ys → Each P (xs ++ ys)
  unfolding at
  each_append P [] ys p q i x h = q i x h
  each_append P (a ∷ xs) ys p q zero x h = p 0 x h
  each_append P (a ∷ xs) ys p q (suc i) x h = each_append P xs ys (λ i x h. p (suc i) x h) q i x h

  pub each-one : (P : A → Type 0) (a : A) → P a → Each P (a ∷ [])
  unfolding at
  each-one P a p zero x h = rw (ok_same h) at p
  each-one P a p (suc i) x h = no_ok h

  pub each_none : (P : A → Type 0) → Each P []
  unfolding at
  each_none P i x h = no_ok h

  pub each-cons : (P : A → Type 0) (a : A) (xs : List A) → P a → Each P xs → Each P (a ∷ xs)
  unfolding at
  each-cons P a xs p q zero x h = subst P (ok_same h) p
  each-cons P a xs p q (suc i) x h = q i x h

  pub each_take : (P : A → Type 0) (n : ℕ) (xs : List A) → Each P xs → Each P (take n xs)
  each_take P n xs p i x h = p i x (take_below n xs i h).1

  pub each-drop : (P : A → Type 0) (n : ℕ) (xs : List A) → Each P xs → Each P (drop n xs)
  each-drop P n xs p i x h = p (n + i) x (sym (at_drop n xs i) ∙ h)

  -- ---- neighbours

  pub chain-take : (R : A → A → Type 0) (n : ℕ) (xs : List A) → Chain R xs → Chain R (take n xs)
  chain-take R n xs c i x y h k = c i x y (take_below n xs i h).1 (take_below n xs (suc i) k).1

  pub chain-drop : (R : A → A → Type 0) (n : ℕ) (xs : List A) → Chain R xs → Chain R (drop n xs)
  chain-drop R n xs c i x y h k =
      let q : n + suc i ≡ suc (n + i) = omega arith in
      c (n + i) x y (sym (at_drop n xs i) ∙ h) (ap (at xs) (sym q) ∙ sym (at_drop n xs (suc i)) ∙ k)

  pub chain-one : (R : A → A → Type 0) (a : A) → Chain R (a ∷ [])
  unfolding at
  chain-one R a i x y h k = no_ok k

  pub chain_cons : (R : A → A → Type 0) (a b : A) (xs : List A) → R a b → Chain R (b ∷ xs) → Chain R (a ∷ (b ∷ xs))
  unfolding at
  chain_cons R a b xs p q zero x y h k = subst (λ (z : A). R z y) (ok_same h) (subst (λ (z : A). R a z) (ok_same k) p)
  chain_cons R a b xs p q (suc i) x y h k = q i x y h k

  -- the last of xs and the first of ys are neighbours
  abbrev pub Meet : (A → A → Type 0) → List A → List A → Type 0
  Meet R xs ys = (x y : A) → last xs ≡ ok x → at ys 0 ≡ ok y → R x y

  pub chain-append : (R : A → A → Type 0) (xs ys : List A) → Chain R xs → Chain R ys → Meet R xs ys → Chain R (xs ++ ys)
  unfolding at
  chain-append R [] ys c d m i x y h k = d i x y h k
  chain-append R (a ∷ []) ys c d m zero x y h k = m x y h k
  chain-append R (a ∷ []) ys c d m (suc i) x y h k = d i x y h k
  chain-append R (a ∷ (b ∷ xs)) ys c d m zero x y h k = c 0 x y h k
  chain-append R (a ∷ (b ∷ xs)) ys c d m (suc i) x y h k = chain-append R (b ∷ xs) ys (λ i x y h k. c (suc i) x y h k) d m i x y h k

  -- ---- last

  pub last-below : (xs : List A) {x : A} → last xs ≡ ok x → 0 < length xs
  last-below [] h = no_ok h
  last-below (a ∷ xs) h = omega arith

  pub last-at : (xs : List A) (i : ℕ) {x : A} → suc i ≡ length xs → at xs i ≡ ok x → last xs ≡ ok x
  last-at xs i q h = rw (← q) h

  pub at_last : (xs : List A) {x : A} → last xs ≡ ok x → at xs (length xs - 1) ≡ ok x
  at_last [] h = no_ok h
  at_last (a ∷ xs) h = let q : suc (length xs) - 1 ≡ length xs = omega arith in rw q h

  pub last-append : (xs ys : List A) → 0 < length ys → last (xs ++ ys) ≡ last ys
  unfolding at
  last-append [] ys l = refl
  last-append (a ∷ []) [] l = absurd (omega arith)
  last-append (a ∷ []) (b ∷ ys) l = refl
  last-append (a ∷ (b ∷ xs)) ys l = last-append (b ∷ xs) ys l

  pub last_push : (xs : List A) (a : A) → last (xs ++ (a ∷ [])) ≡ ok a
  unfolding at
  last_push xs a = last-append xs (a ∷ []) (omega arith)

  -- ---- walks

  steps-ok : (p : A → Bool) (xs : List A) (n : ℕ) → steps_to p xs ≡ ok n → (x : A) × (at xs n ≡ ok x) × (p x ≡ true)
  unfolding at steps_to
  steps-ok p [] n h = no_ok h
  steps-ok p (x ∷ xs) n h = ⊎_elim
      (λ w. (x, ap (at (x ∷ xs)) (sym (ok_same w.1)), w.0))
      (λ w. let v = bind_ok (steps_to p xs) w.1 in let r = steps-ok p xs v.0 v.1 in (r.0, ap (at (x ∷ xs)) (sym (ok_same v.2)) ∙ r.1, r.2))
      (cond_cases (p x) h)

  -- where a walk stops
  pub walk_ok : (p : A → Bool) (xs : List A) (i : ℕ) {k : ℕ} → walk_from p xs i ≡ ok k → (x : A) × (at xs k ≡ ok x) × (p x ≡ true) × (i ≤ k)
  unfolding walk_from
  walk_ok p xs i {k} h =
      let v = bind_ok (steps_to p (drop i xs)) h in
      let r = steps-ok p (drop i xs) v.0 v.1 in
      let q : i + v.0 ≡ k = ok_same v.2 in
      (r.0, ap (at xs) (sym q) ∙ sym (at_drop i xs v.0) ∙ r.1, r.2, omega arith)

  -- what it passes fails the test
  steps-before : (p : A → Bool) (xs : List A) (n : ℕ) → steps_to p xs ≡ ok n → (j : ℕ) (x : A) → j < n → at xs j ≡ ok x → p x ≡ false
  unfolding at steps_to
  steps-before p [] n h j x l q = no_ok h
  steps-before p (y ∷ xs) n h zero x l q = ⊎_elim
      (λ w. absurd (omega (arith, ok_same w.1)))
      (λ w. ap p (sym (ok_same q)) ∙ w.0)
      (cond_cases (p y) h)
  steps-before p (y ∷ xs) n h (suc j) x l q = ⊎_elim
      (λ w. absurd (omega (arith, ok_same w.1)))
      (λ w. let v = bind_ok (steps_to p xs) w.1 in steps-before p xs v.0 v.1 j x (omega (arith, ok_same v.2)) q)
      (cond_cases (p y) h)

  pub walk_before : (p : A → Bool) (xs : List A) (i : ℕ) {k : ℕ} → walk_from p xs i ≡ ok k → (j : ℕ) (x : A) → i ≤ j → j < k → at xs j ≡ ok x → p x ≡ false
  unfolding walk_from
  walk_before p xs i {k} h j x l m q =
      let v = bind_ok (steps_to p (drop i xs)) h in
      let z : i + (j - i) ≡ j = omega arith in
      steps-before p (drop i xs) v.0 v.1 (j - i) x (omega (arith, ok_same v.2)) (at_drop i xs (j - i) ∙ ap (at xs) z ∙ q)

  pub back-ok : (p : A → Bool) (xs : List A) (n : ℕ) {k : ℕ} → walk_back p xs n ≡ ok k → (x : A) × (at xs k ≡ ok x) × (p x ≡ true) × (k < n)
  unfolding walk_back
  back-ok p xs zero h = no_ok h
  back-ok p xs (suc n) {k} h =
      let v = bind_ok (at xs n) h in ⊎_elim
      (λ w. let q : n ≡ k = ok_same w.1 in (v.0, ap (at xs) (sym q) ∙ v.1, w.0, omega arith))
      (λ w. let r = back-ok p xs n w.1 in (r.0, r.1, r.2, omega (arith, r.3)))
      (cond_cases (p v.0) v.2)

pub at_map : {A B : Type 0} (f : A → B) (xs : List A) (i : ℕ) {y : B} → at (map f xs) i ≡ ok y → (x : A) × (at xs i ≡ ok x) × (f x ≡ y)
unfolding at
at_map f [] i h = no_ok h
at_map f (x ∷ xs) zero h = (x, refl, ok_same h)
at_map f (x ∷ xs) (suc i) h = at_map f xs i h

pub map_at : {A B : Type 0} (f : A → B) (xs : List A) (i : ℕ) {x : A} → at xs i ≡ ok x → at (map f xs) i ≡ ok (f x)
unfolding at
map_at f [] i h = no_ok h
map_at f (y ∷ xs) zero h = ap (λ z. ok (f z)) (ok_same h)
map_at f (y ∷ xs) (suc i) h = map_at f xs i h
