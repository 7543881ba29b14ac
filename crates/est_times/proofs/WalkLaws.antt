-- The test `reach` and walks: each says what the other says. Assumes nothing.
use Rattle.std.proofs.Common.{◌≡◌, ℕ, zero, suc, ◌<◌, ◌≤◌, Bool, true, false, ◌||◌, eqb, ltb, ◌⊎◌, List, get_or, sym, refl, ap, ◌∙◌, inl, inr, ⊎_elim, arith, ltb-false, ltb-true, le-ltb, lt-ltb, eq-eqb, ne_eqb, eqb-true}
use borrow.Author.Tests.{eqb-false}
use Rattle.est_times.specs.Cycles.{follow, via, reach}
use Rattle.est_times.specs.Walks.{Step, Walk}
use Rattle.est_times.specs.Walks.Walk.{last, then}
use Rattle.est_times.proofs.Counting.{two, clash, Within, still}

-- ---- one step

-- an index below e is the record led to
pub follow-is : (e : ℕ) (idxs : List ℕ) (a : ℕ) → get_or idxs a 0 < e → follow e idxs a ≡ get_or idxs a 0
unfolding follow
follow-is e idxs a l = rw (lt-ltb (get_or idxs a 0) e l)

-- any other is none
pub follow-none : (e : ℕ) (idxs : List ℕ) (a : ℕ) → e ≤ get_or idxs a 0 → follow e idxs a ≡ 0
unfolding follow
follow-none e idxs a l = rw (le-ltb (get_or idxs a 0) e l)

below_or_not : (e : ℕ) (idxs : List ℕ) (a : ℕ) → (get_or idxs a 0 < e) ⊎ (e ≤ get_or idxs a 0)
below_or_not e idxs a = ⊎_elim (λ t. inl (ltb-true (get_or idxs a 0) e t)) (λ t. inr (ltb-false (get_or idxs a 0) e t)) (two (ltb (get_or idxs a 0) e))

pub follow-below : (e : ℕ) (idxs : List ℕ) (a : ℕ) → 0 < e → follow e idxs a < e
follow-below e idxs a l = ⊎_elim (λ m. omega (arith, follow-is e idxs a m)) (λ m. omega (arith, follow-none e idxs a m)) (below_or_not e idxs a)

-- what is led to, and is not 0, stands in the list and is below e
follow_out : (e : ℕ) (idxs : List ℕ) (a b : ℕ) → follow e idxs a ≡ b → (b ≡ 0 → ⊥) → (get_or idxs a 0 ≡ b) × (b < e)
follow_out e idxs a b q n = ⊎_elim
    (λ m. let z = follow-is e idxs a m in (sym z ∙ q, omega arith))
    (λ m. absurd (n (sym q ∙ follow-none e idxs a m)))
    (below_or_not e idxs a)

module _ {next alt : List ℕ} {e a b : ℕ} where
  pub step_in : a < e → (b ≡ 0 → ⊥) → (follow e next a ≡ b) ⊎ (follow e alt a ≡ b) → Step next alt e a b
  step_in l n (inl q) = let w = follow_out e next a b q n in record { from = l; to = w.1; some = n; leads = inl w.0 }
  step_in l n (inr q) = let w = follow_out e alt a b q n in record { from = l; to = w.1; some = n; leads = inr w.0 }

  pub step_out : Step next alt e a b → (follow e next a ≡ b) ⊎ (follow e alt a ≡ b)
  step_out g = ⊎_elim
      (λ q. inl (follow-is e next a (omega (arith, g.to)) ∙ q))
      (λ q. inr (follow-is e alt a (omega (arith, g.to)) ∙ q))
      g.leads

-- ---- the test and the walk
or_left : (x y : Bool) → x ≡ true → (x || y) ≡ true
or_left x y h = rw h

pub or_right : (x y : Bool) → y ≡ true → (x || y) ≡ true
or_right true y h = refl
or_right false y h = h

pub or_cases : (x y : Bool) → (x || y) ≡ true → (x ≡ true) ⊎ (y ≡ true)
or_cases true y h = inl refl
or_cases false y h = inr h

via_in : (f : ℕ → Bool) (b t : ℕ) → (t ≡ 0 → ⊥) → (t ≡ b) ⊎ (f t ≡ true) → via f b t ≡ true
unfolding via
via_in f b t n (inl e) = rw (via, ne_eqb t 0 n, eq-eqb t b e)
via_in f b t n (inr e) = rw (via, ne_eqb t 0 n, e) (or_right (eqb t b) true refl)

via_out : (f : ℕ → Bool) (b t : ℕ) → via f b t ≡ true → (t ≡ 0 → ⊥) × ((t ≡ b) ⊎ (f t ≡ true))
unfolding via
via_out f b t h = go (two (eqb t 0)) (two (eqb t b))
  where
    go : (eqb t 0 ≡ true) ⊎ (eqb t 0 ≡ false) → (eqb t b ≡ true) ⊎ (eqb t b ≡ false) → (t ≡ 0 → ⊥) × ((t ≡ b) ⊎ (f t ≡ true))
    go (inl p) q = let z : false ≡ true = rw (via, p) at h in clash true refl (sym z)
    go (inr p) (inl q) = (eqb-false t 0 p, inl (eqb-true t b q))
    go (inr p) (inr q) = (eqb-false t 0 p, inr (rw (via, p, q) at h))

module _ (next alt : List ℕ) (e : ℕ) where
  reach_in : (k : ℕ) {a t b : ℕ} → Step next alt e a t → (t ≡ b) ⊎ (reach next alt e k t b ≡ true) → reach next alt e (suc k) a b ≡ true
  unfolding reach
  reach_in k {a} {t} {b} g r =
      let f : ℕ → Bool = λ t. reach next alt e k t b in
      let v : via f b t ≡ true = via_in f b t g.some r in
      ⊎_elim
      (λ q. or_left (via f b (follow e next a)) (via f b (follow e alt a)) (ap (via f b) q ∙ v))
      (λ q. or_right (via f b (follow e next a)) (via f b (follow e alt a)) (ap (via f b) q ∙ v))
      (step_out g)

  reach_out : (k a b : ℕ) → a < e → reach next alt e (suc k) a b ≡ true → (t : ℕ) × Step next alt e a t × ((t ≡ b) ⊎ (reach next alt e k t b ≡ true))
  unfolding reach
  reach_out k a b l h = ⊎_elim
      (λ q. let w = via_out (λ t. reach next alt e k t b) b (follow e next a) q in (follow e next a, step_in l w.0 (inl refl), w.1))
      (λ q. let w = via_out (λ t. reach next alt e k t b) b (follow e alt a) q in (follow e alt a, step_in l w.0 (inr refl), w.1))
      (or_cases _ _ h)

  reach-up : (k a b : ℕ) → a < e → reach next alt e k a b ≡ true → reach next alt e (suc k) a b ≡ true
  unfolding reach
  reach-up zero a b l h = clash false h refl
  reach-up (suc k) a b l h =
      let r = reach_out k a b l h in
      reach_in (suc k) r.1 (⊎_elim (λ q. inl q) (λ q. inr (reach-up k r.0 b r.1.to q)) r.2)

  -- one step more than e finds nothing more
  reach_still : (a b : ℕ) → a < e → reach next alt e (suc e) a b ≡ true → reach next alt e e a b ≡ true
  reach_still a b l h = still e (λ k x. reach next alt e k x b) (λ k x m. reach-up k x b m) keep a l h
    where
      keep : (k : ℕ) → Within e (λ x. reach next alt e (suc k) x b) (λ x. reach next alt e k x b)
          → Within e (λ x. reach next alt e (suc (suc k)) x b) (λ x. reach next alt e (suc k) x b)
      keep k w x m p =
          let r = reach_out (suc k) x b m p in
          reach_in k r.1 (⊎_elim (λ q. inl q) (λ q. inr (w r.0 r.1.to q)) r.2)

  pub reach_walk : (k a b : ℕ) → a < e → reach next alt e k a b ≡ true → Walk next alt e a b
  unfolding reach
  reach_walk zero a b l h = clash false h refl
  reach_walk (suc k) a b l h =
      let r = reach_out k a b l h in
      ⊎_elim (λ q. last (rw q at r.1)) (λ q. then r.1 (reach_walk k r.0 b r.1.to q)) r.2

  pub walk_reach : {a b : ℕ} → Walk next alt e a b → reach next alt e e a b ≡ true
  walk_reach {a} {b} (last g) = reach_still a b g.from (reach_in e g (inl refl))
  walk_reach {a} {b} (then g w) = reach_still a b g.from (reach_in e g (inr (walk_reach w)))

  pub walk_from : {a b : ℕ} → Walk next alt e a b → a < e
  walk_from (last g) = g.from
  walk_from (then g w) = g.from

  -- no walk leads to 0, so est 0 is on no cycle
  pub walk_some : {a b : ℕ} → Walk next alt e a b → b ≡ 0 → ⊥
  walk_some (last g) = g.some
  walk_some (then g w) = walk_some w

  pub walk_more : {a t b : ℕ} → Walk next alt e a t → Step next alt e t b → Walk next alt e a b
  walk_more (last g) h = then g (last h)
  walk_more (then g w) h = then g (walk_more w h)

  -- a rank that rises along every step rises along every walk
  pub walk_rises : (rank : ℕ → ℕ) → ((a b : ℕ) → Step next alt e a b → rank a < rank b) → {a b : ℕ} → Walk next alt e a b → rank a < rank b
  walk_rises rank up (last g) = up _ _ g
  walk_rises rank up (then g w) = omega (arith, up _ _ g, walk_rises rank up w)
