-- How the tools of Base go with a map of the entries: one law for each, which every renumbering cites. Assumes nothing.
use Rattle.std.proofs.Common.{◌≡◌, ℕ, zero, suc, ◌-◌, Bool, true, false, cond, ◌&&◌, leb, List, [], ◌∷◌, ◌++◌, map, length, take, drop, set, refl, ap, ◌∙◌}
use lib.ListN.{length-map}
use Rattle.free_path.specs.Base.{Res, ok, no, ◌>>=◌, ◌>>◌, need, room, at, before, last, popped, is_empty, part, slice, steps_to, walk_from, walk_back, passes, count, any}

abbrev pub map_res : {A B : Type 0} → (A → B) → Res A → Res B
map_res f (ok a) = ok (f a)
map_res f (no n) = no n

-- a map by nothing
pub map-id : {A : Type 0} (m m' : Res A) → m' ≡ map_res (λ x. x) m → m' ≡ m
map-id (ok a) m' h = h
map-id (no n) m' h = h

pub id-map : {A : Type 0} (m m' : Res A) → m' ≡ m → m' ≡ map_res (λ x. x) m
id-map (ok a) m' h = h
id-map (no n) m' h = h

-- ---- a block, statement by statement

module _ {A A' B B' : Type 0} where
  -- x ← m, where the second m is the first one's map
  pub bind-map : (f : A → A') (g : B → B') (m : Res A) (m' : Res A') (k : A → Res B) (k' : A' → Res B') → m' ≡ map_res f m → ((a : A) → k' (f a) ≡ map_res g (k a)) → (m' >>= k') ≡ map_res g (m >>= k)
  bind-map f g (ok a) m' k k' e h = ap (λ x. x >>= k') e ∙ h a
  bind-map f g (no n) m' k k' e h = ap (λ x. x >>= k') e

module _ {A B B' : Type 0} where
  -- x ← m, the same m in both
  pub bind_same : (g : B → B') (m m' : Res A) (k : A → Res B) (k' : A → Res B') → m' ≡ m → ((a : A) → k' a ≡ map_res g (k a)) → (m' >>= k') ≡ map_res g (m >>= k)
  bind_same g (ok a) m' k k' e h = ap (λ x. x >>= k') e ∙ h a
  bind_same g (no n) m' k k' e h = ap (λ x. x >>= k') e

  -- m, and the rest
  pub then_map : (g : B → B') (m m' : Res A) (r : Res B) (r' : Res B') → m' ≡ m → r' ≡ map_res g r → (m' >> r') ≡ map_res g (m >> r)
  then_map g (ok a) m' r r' e h = ap (λ x. x >> r') e ∙ h
  then_map g (no n) m' r r' e h = ap (λ x. x >> r') e

module _ {B B' : Type 0} (g : B → B') where
  -- a test, and the rest
  pub need-map : (t t' : Bool) (r : Res B) (r' : Res B') → t' ≡ t → r' ≡ map_res g r → (need t' >> r') ≡ map_res g (need t >> r)
  need-map true t' r r' e h = ap (λ x. need x >> r') e ∙ h
  need-map false t' r r' e h = ap (λ x. need x >> r') e

  pub room-map : (t t' : Bool) (r : Res B) (r' : Res B') → t' ≡ t → r' ≡ map_res g r → (room t' >> r') ≡ map_res g (room t >> r)
  room-map true t' r r' e h = ap (λ x. room x >> r') e ∙ h
  room-map false t' r r' e h = ap (λ x. room x >> r') e

  -- a choice
  pub cond_map : (t t' : Bool) (x y : B) (x' y' : B') → t' ≡ t → x' ≡ g x → y' ≡ g y → cond t' x' y' ≡ g (cond t x y)
  cond_map true t' x y x' y' e h k = ap (λ b. cond b x' y') e ∙ h
  cond_map false t' x y x' y' e h k = ap (λ b. cond b x' y') e ∙ k

-- ---- reads and walks

module _ {A B : Type 0} (f : A → B) where
  pub at_map : (xs : List A) (i : ℕ) → at (map f xs) i ≡ map_res f (at xs i)
  unfolding at
  at_map [] i = refl
  at_map (x ∷ xs) zero = refl
  at_map (x ∷ xs) (suc i) = at_map xs i

  pub before-map : (xs : List A) (i : ℕ) → before (map f xs) i ≡ map_res f (before xs i)
  before-map xs zero = refl
  before-map xs (suc i) = at_map xs i

  pub last-map : (xs : List A) → last (map f xs) ≡ map_res f (last xs)
  last-map xs = ap (before (map f xs)) (length-map xs f) ∙ before-map xs (length xs)

  pub take-map : (n : ℕ) (xs : List A) → take n (map f xs) ≡ map f (take n xs)
  take-map zero xs = refl
  take-map (suc n) [] = refl
  take-map (suc n) (x ∷ xs) = ap (λ ys. f x ∷ ys) (take-map n xs)

  pub drop-map : (n : ℕ) (xs : List A) → drop n (map f xs) ≡ map f (drop n xs)
  drop-map zero xs = refl
  drop-map (suc n) [] = refl
  drop-map (suc n) (x ∷ xs) = drop-map n xs

  pub append-map : (xs ys : List A) → map f xs ++ map f ys ≡ map f (xs ++ ys)
  append-map [] ys = refl
  append-map (x ∷ xs) ys = ap (λ zs. f x ∷ zs) (append-map xs ys)

  pub popped-map : (xs : List A) → popped (map f xs) ≡ map f (popped xs)
  popped-map xs = ap (λ n. take (n - 1) (map f xs)) (length-map xs f) ∙ take-map (length xs - 1) xs

  pub is_empty-map : (xs : List A) → is_empty (map f xs) ≡ is_empty xs
  is_empty-map [] = refl
  is_empty-map (x ∷ xs) = refl

  pub set-map : (xs : List A) (i : ℕ) (x : A) → set (map f xs) i (f x) ≡ map f (set xs i x)
  set-map [] i x = refl
  set-map (y ∷ ys) zero x = refl
  set-map (y ∷ ys) (suc i) x = ap (λ zs. f y ∷ zs) (set-map ys i x)

  pub slice-map : (xs : List A) (a b : ℕ) → slice (map f xs) a b ≡ map_res (map f) (slice xs a b)
  unfolding slice
  slice-map xs a b =
      need-map (map f) (leb a b && leb b (length xs)) (leb a b && leb b (length (map f xs))) (ok (take (b - a) (drop a xs))) (ok (take (b - a) (drop a (map f xs))))
      (ap (λ n. leb a b && leb b n) (length-map xs f))
      (ap ok (ap (take (b - a)) (drop-map a xs) ∙ take-map (b - a) (drop a xs)))

  pub part-map : (b e : ℕ) (xs : List A) → part b e (map f xs) ≡ map f (part b e xs)
  part-map b e xs = ap (take (e - b)) (drop-map b xs) ∙ take-map (e - b) (drop b xs)

  -- a walk by a test that sees through the map
  module _ (p : A → Bool) (p' : B → Bool) (h : (x : A) → p' (f x) ≡ p x) where
    pub steps_to-map : (xs : List A) → steps_to p' (map f xs) ≡ steps_to p xs
    unfolding steps_to
    steps_to-map [] = refl
    steps_to-map (x ∷ xs) = rw (h x, steps_to-map xs)

    pub walk_from-map : (xs : List A) (i : ℕ) → walk_from p' (map f xs) i ≡ walk_from p xs i
    unfolding walk_from
    walk_from-map xs i = rw (drop-map i xs, steps_to-map (drop i xs))

    pub count_map : (xs : List A) → count p' (map f xs) ≡ count p xs
    unfolding count
    count_map [] = refl
    count_map (x ∷ xs) = rw (h x, count_map xs)

    pub any-map : (xs : List A) → any p' (map f xs) ≡ any p xs
    unfolding any
    any-map [] = refl
    any-map (x ∷ xs) = rw (h x, any-map xs)

    pub passes-map : (xs : List A) → passes p' (map f xs) ≡ passes p xs
    unfolding passes
    passes-map [] = refl
    passes-map (x ∷ xs) = rw (h x, passes-map xs)

    pub walk_back-map : (xs : List A) (i : ℕ) → walk_back p' (map f xs) i ≡ walk_back p xs i
    unfolding walk_back
    walk_back-map xs zero = refl
    walk_back-map xs (suc k) = rw (at_map xs k, walk_back-map xs k) (go (at xs k))
      where
        go : (m : Res A) → (map_res f m >>= λ x. cond (p' x) (ok k) (walk_back p xs k)) ≡ (m >>= λ x. cond (p x) (ok k) (walk_back p xs k))
        go (ok x) = rw (h x)
        go (no n) = refl
