-- The laws of refusal 8: what its place tells, and what an image has that passes it. Assumes nothing.
-- They hold of any two lists and any e. Crates above cite them.
use Rattle.std.proofs.Common.{◌≡◌, ℕ, zero, suc, ◌+◌, ◌-◌, ◌<◌, ◌≤◌, min, Bool, true, false, ◌||◌, ◌↔◌, List, length, get_or, take, set, refl, ap, ap₂, ⊎_elim, add-one, arith, get_or-set_other, get_or-take, get_or-set_same, Some, None}
use native.Mathlib.Nat.{min-eq_left}
use Rattle.est_times.specs.Cycles.{follow, via, reach, on_cycle, first_on_cycle}
use Rattle.est_times.specs.Walks.{Step, Walk, Steps}
use Rattle.est_times.specs.Walks.Walk.{last}
use Rattle.est_times.specs.Counts.{count_below}
use Rattle.est_times.proofs.Counting.{two, clash, same_or_not, count_lt, count_bound}
use Rattle.est_times.proofs.FirstAt.{first-none, none_first, first-at, first-same}
use Rattle.est_times.proofs.WalkLaws.{reach_walk, walk_reach, walk_from, walk_more, walk_rises, follow-below}

module _ (next alt : List ℕ) (e : ℕ) where
  -- a record passes the test exactly where a walk leads from it to itself
  pub on-cycle : (a : ℕ) → a < e → (on_cycle next alt e a ≡ true) ↔ Walk next alt e a a
  on-cycle a l = (reach_walk next alt e e a a l, walk_reach next alt e)

  -- the place is a record on a cycle, and no lower one is
  pub place_sound : (i : ℕ) → first_on_cycle next alt e ≡ Some i → (i < e) × Walk next alt e i i × ((j : ℕ) → j < i → Walk next alt e j j → ⊥)
  place_sound i h =
      let w = first-at (on_cycle next alt e) e 0 i h in
      (omega (arith, w.0), reach_walk next alt e e i i (omega (arith, w.0)) w.1, λ j l k. clash (on_cycle next alt e j) (walk_reach next alt e k) (w.2 j (omega arith) l))

  -- where there is no place, no record is on a cycle
  pub none_sound : first_on_cycle next alt e ≡ None → (j : ℕ) → Walk next alt e j j → ⊥
  none_sound h j k =
      clash (on_cycle next alt e j) (walk_reach next alt e k) (first-none (on_cycle next alt e) e 0 h j (omega arith) (omega (arith, walk_from next alt e k)))

  -- a rank that rises along every step shows that there is no cycle
  pub rank_none : (rank : ℕ → ℕ) → ((a b : ℕ) → Step next alt e a b → rank a < rank b) → first_on_cycle next alt e ≡ None
  rank_none rank up = none_first (on_cycle next alt e) e 0 λ j l m. ⊎_elim
      (λ t. absurd (omega (arith, walk_rises next alt e rank up {a = j} {b = j} (reach_walk next alt e e j j (omega arith) t))))
      (λ t. t)
      (two (on_cycle next alt e j))

  -- and where there is none, there is such a rank: how many records lead to a by one step or more
  abbrev pub rank_of : ℕ → ℕ
  rank_of a = count_below e (λ x. reach next alt e e x a)

  module _ (none : first_on_cycle next alt e ≡ None) where
    off : (a : ℕ) → a < e → reach next alt e e a a ≡ false
    off a l = first-none (on_cycle next alt e) e 0 none a (omega arith) (omega arith)

    pub rank_rises : (a b : ℕ) → Step next alt e a b → rank_of a < rank_of b
    rank_rises a b g = count_lt e (λ x. reach next alt e e x a) (λ x. reach next alt e e x b)
        (λ x k t. walk_reach next alt e (walk_more next alt e (reach_walk next alt e e x a k t) g))
        a g.from (off a g.from) (walk_reach next alt e (last g))

    pub rank_below : (a : ℕ) → a < e → rank_of a < e
    rank_below a l = omega (arith, count_lt e (λ x. reach next alt e e x a) (λ _. true) (λ x k t. refl) a l (off a l) refl, count_bound e (λ _. true))

    -- d records, each of which steps to the next one
    module _ (s : List ℕ) (d : ℕ) (first : get_or s 0 0 < e) (steps : Steps next alt e s d) where
      pub steps-below : (i : ℕ) → i < d → get_or s i 0 < e
      steps-below zero l = first
      steps-below (suc i) l = rw add-one at (steps i (omega arith)).to

      steps_rise : (i k : ℕ) → i + k < d → rank_of (get_or s i 0) + k ≤ rank_of (get_or s (i + k) 0)
      steps_rise i zero l = let q : i + 0 ≡ i = omega arith in let r : rank_of (get_or s (i + 0) 0) ≡ rank_of (get_or s i 0) = ap (λ (n : ℕ). rank_of (get_or s n 0)) q in omega arith
      steps_rise i (suc k) l =
          let f = rank_rises (get_or s (i + k) 0) (get_or s (i + k + 1) 0) (steps (i + k) (omega arith)) in
          let q : i + k + 1 ≡ i + suc k = omega arith in
          let f' : rank_of (get_or s (i + k) 0) < rank_of (get_or s (i + suc k) 0) = rw q at f in
          omega (arith, f', steps_rise i k (omega arith))

      -- they are distinct
      pub steps-distinct : (i j : ℕ) → i < j → j < d → get_or s i 0 ≡ get_or s j 0 → ⊥
      steps-distinct i j l m q =
          let p : i + (j - i) ≡ j = omega arith in
          let f : rank_of (get_or s i 0) + (j - i) ≤ rank_of (get_or s j 0) = rw p at (steps_rise i (j - i) (omega arith)) in
          let r : rank_of (get_or s i 0) ≡ rank_of (get_or s j 0) = rw q in
          omega arith

      steps_deep : (i : ℕ) → i < d → i ≤ rank_of (get_or s i 0)
      steps_deep i l =
          let z : 0 + i ≡ i = omega arith in
          let f : rank_of (get_or s 0 0) + i ≤ rank_of (get_or s i 0) = rw z at (steps_rise 0 i (omega arith)) in
          omega arith

      -- and at most e
      pub steps-few : d ≤ e
      steps-few = go d refl
        where
          go : (n : ℕ) → n ≡ d → d ≤ e
          go zero q = omega arith
          go (suc n) q = omega (arith, steps_deep n (omega arith), rank_below (get_or s n 0) (steps-below n (omega arith)))

      -- a record to which the last one steps finds room
      pub push_room : (b : ℕ) → 0 < d → Step next alt e (get_or s (d - 1) 0) b → d < e
      push_room b l g = omega (arith, steps_deep (d - 1) (omega arith), rank_rises (get_or s (d - 1) 0) b g, rank_below b g.to)

-- one more at the end
pub steps_push : (next alt : List ℕ) (e : ℕ) (s : List ℕ) (d b : ℕ) → d < length s → 0 < d → Step next alt e (get_or s (d - 1) 0) b
    → Steps next alt e s d → Steps next alt e (set s d b) (d + 1)
steps_push next alt e s d b l p g h i m = ⊎_elim
    (λ q. let z : d - 1 ≡ i = omega arith in rw (get_or-set_other s d i b 0 (λ y. omega arith), q, get_or-set_same s d b 0 l) (rw z at g))
    (λ q. rw (get_or-set_other s d i b 0 (λ y. omega arith), get_or-set_other s d (i + 1) b 0 q) (h i (omega arith)))
    (same_or_not (i + 1) d)

-- and one less
pub steps_pop : (next alt : List ℕ) (e : ℕ) (s : List ℕ) (d : ℕ) → Steps next alt e s (d + 1) → Steps next alt e s d
steps_pop next alt e s d h i m = h i (omega arith)

-- ---- only the first e entries count
module _ (next alt next' alt' : List ℕ) (e : ℕ)
    (sn : (i : ℕ) → i < e → get_or next i 0 ≡ get_or next' i 0) (sa : (i : ℕ) → i < e → get_or alt i 0 ≡ get_or alt' i 0) where
  via-same : (f g : ℕ → Bool) (b t u : ℕ) → t ≡ u → f t ≡ g t → via f b t ≡ via g b u
  unfolding via
  via-same f g b t u p q = rw (← p, via, q)

  follow-same : (xs ys : List ℕ) (a : ℕ) → get_or xs a 0 ≡ get_or ys a 0 → follow e xs a ≡ follow e ys a
  unfolding follow
  follow-same xs ys a h = rw h

  reach-same : (k a b : ℕ) → a < e → reach next alt e k a b ≡ reach next' alt' e k a b
  unfolding reach
  reach-same zero a b l = refl
  reach-same (suc k) a b l = ap₂ (λ (x y : Bool). x || y)
      (via-same (λ t. reach next alt e k t b) (λ t. reach next' alt' e k t b) b _ _ (follow-same next next' a (sn a l)) (reach-same k (follow e next a) b (follow-below e next a (omega arith))))
      (via-same (λ t. reach next alt e k t b) (λ t. reach next' alt' e k t b) b _ _ (follow-same alt alt' a (sa a l)) (reach-same k (follow e alt a) b (follow-below e alt a (omega arith))))

  -- lists that agree below e have the same answer
  pub cycle_same : first_on_cycle next alt e ≡ first_on_cycle next' alt' e
  cycle_same = first-same (on_cycle next alt e) (on_cycle next' alt' e) e 0 (λ j m. reach-same e j j (omega arith))

-- so do a list of e entries and an array that holds them before any padding
pub cycle_take : (next alt : List ℕ) (e : ℕ) → first_on_cycle (take e next) (take e alt) e ≡ first_on_cycle next alt e
cycle_take next alt e = cycle_same (take e next) (take e alt) next alt e (λ i l. rw get_or-take) (λ i l. rw get_or-take)

-- what cycle_at answers of e records that the arrays have room for
pub cycle_room : (next alt : List ℕ) (e : ℕ) → e ≤ 512 → first_on_cycle next alt (min e 512) ≡ first_on_cycle next alt e
cycle_room next alt e l = rw (min-eq_left l)
