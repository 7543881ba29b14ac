-- The search by which comes_back tells whether the record a comes back to itself: a queue of the records that a comes to,
-- and a flag for each. Assumes nothing.
use Rattle.std.proofs.Common.{◌≡◌, ℕ, ◌+◌, ◌<◌, ◌≤◌, Bool, true, false, not, ◌&&◌, ◌||◌, eqb, ◌⊎◌, List, length, get_or, set, replicate, sym, refl, ap, ◌∙◌, inl, inr, ⊎_elim, arith, length-set, get_or-set_other, get_or-set_same, eq-eqb, ne_eqb, eqb-true}
use lib.ListN.{length-replicate, get_or-replicate}
use borrow.Author.Tests.{eqb-false, not-true}
use Rattle.est_times.specs.Counts.{count_below}
use Rattle.est_times.proofs.Counting.{two, clash, count_lt, count_bound, same_or_not}
use Rattle.est_times.specs.Cycles.{follow, on_cycle}
use Rattle.est_times.specs.Walks.{Step, Walk}
use Rattle.est_times.specs.Walks.Walk.{last, then}
use Rattle.est_times.proofs.WalkLaws.{or_right, step_in, step_out, reach_walk, walk_reach, walk_more}

abbrev pub Seen : List ℕ → ℕ → Type 0
Seen seen q = get_or seen q 0 ≡ 0 → ⊥

unfoldable pub flag : List ℕ → ℕ → Bool
flag seen q = not (eqb (get_or seen q 0) 0)

seen_flag : (seen : List ℕ) (q : ℕ) → Seen seen q → flag seen q ≡ true
unfolding flag
seen_flag seen q h = rw (ne_eqb (get_or seen q 0) 0 h)

flag_seen : (seen : List ℕ) (q : ℕ) → flag seen q ≡ true → Seen seen q
unfolding flag
flag_seen seen q h = eqb-false (get_or seen q 0) 0 (not-true _ h)

unseen_flag : (seen : List ℕ) (q : ℕ) → get_or seen q 0 ≡ 0 → flag seen q ≡ false
unfolding flag
unseen_flag seen q h = rw (eq-eqb (get_or seen q 0) 0 h)

set-seen : (seen : List ℕ) (s q : ℕ) → s < length seen → Seen seen q → Seen (set seen s 1) q
set-seen seen s q l h z = ⊎_elim
    (λ e. let r : get_or (set seen s 1) s 0 ≡ 0 = rw e at z in omega (arith, get_or-set_same seen s 1 0 l))
    (λ n. h (sym (get_or-set_other seen s q 1 0 n) ∙ z))
    (same_or_not q s)

-- a is not 0, and s or t is a
abbrev pub meets : ℕ → ℕ → ℕ → Bool
meets a s t = not (eqb a 0) && (eqb s a || eqb t a)

meets_out : (a s t : ℕ) → meets a s t ≡ true → (a ≡ 0 → ⊥) × ((s ≡ a) ⊎ (t ≡ a))
meets_out a s t h = go (two (eqb a 0)) (two (eqb s a))
  where
    go : (eqb a 0 ≡ true) ⊎ (eqb a 0 ≡ false) → (eqb s a ≡ true) ⊎ (eqb s a ≡ false) → (a ≡ 0 → ⊥) × ((s ≡ a) ⊎ (t ≡ a))
    go (inl p) q = let z : false ≡ true = rw p at h in clash true refl (sym z)
    go (inr p) (inl q) = (eqb-false a 0 p, inl (eqb-true s a q))
    go (inr p) (inr q) = (eqb-false a 0 p, inr (eqb-true t a (rw (p, q) at h)))

meets_in : (a s t : ℕ) → (a ≡ 0 → ⊥) → (s ≡ a) ⊎ (t ≡ a) → meets a s t ≡ true
meets_in a s t n (inl p) = rw (ne_eqb a 0 n, eq-eqb s a p)
meets_in a s t n (inr p) = rw (ne_eqb a 0 n, eq-eqb t a p) (or_right (eqb s a) true refl)

-- x leads to s by next and to t by alt
module _ (next alt : List ℕ) (e x s t : ℕ) (es : s ≡ follow e next x) (et : t ≡ follow e alt x) where
  meets_yes : (a : ℕ) → x < e → meets a s t ≡ true → Step next alt e x a
  meets_yes a l h = let w = meets_out a s t h in step_in l w.0 (⊎_elim (λ p. inl (sym es ∙ p)) (λ p. inr (sym et ∙ p)) w.1)

  meets-no : (a : ℕ) → meets a s t ≡ false → (b : ℕ) → Step next alt e x b → b ≡ a → ⊥
  meets-no a h b g q = clash (meets a s t) (meets_in a s t (λ z. g.some (q ∙ z)) (⊎_elim (λ p. inl (es ∙ p ∙ q)) (λ p. inr (et ∙ p ∙ q)) (step_out g))) h

-- what a visit to s does: nothing where s is none or seen; else s is flagged and put at the end of the queue
abbrev pub Visited : ℕ → List ℕ → List ℕ → ℕ → List ℕ → List ℕ → ℕ → Type 0
Visited s seen queue n seen' queue' n' =
    (((s ≡ 0) ⊎ Seen seen s) × (seen' ≡ seen) × (queue' ≡ queue) × (n' ≡ n))
    ⊎ ((s ≡ 0 → ⊥) × (get_or seen s 0 ≡ 0) × (seen' ≡ set seen s 1) × (queue' ≡ set queue n s) × (n' ≡ n + 1))

-- the queue has room for one that is not seen
abbrev pub Room : ℕ → List ℕ → ℕ → Type 0
Room s seen n = get_or seen s 0 ≡ 0 → n < 512

module _ (next alt : List ℕ) (e a : ℕ) where
  -- of q each step leads to a record that is seen, and not to a
  abbrev pub Done : List ℕ → ℕ → Type 0
  Done seen q = (b : ℕ) → Step next alt e q b → Seen seen b × (b ≡ a → ⊥)

  -- the queue's n records are come to from a, those before head are done, and those seen wait or are done
  pub record Search (seen queue : List ℕ) (n head : ℕ) : Type 0 where
    pub seen-length : length seen ≡ 512
    pub queue_length : length queue ≡ 512
    pub ahead : head ≤ n
    pub few : n ≤ count_below e (flag seen)
    pub below : (i : ℕ) → i < n → get_or queue i 0 < e
    pub came : (i : ℕ) → i < n → (get_or queue i 0 ≡ a) ⊎ Walk next alt e a (get_or queue i 0)
    pub start : Seen seen a
    pub closed : (q : ℕ) → q < e → Seen seen q → ((i : ℕ) × (head ≤ i) × (i < n) × (get_or queue i 0 ≡ q)) ⊎ Done seen q

  pub record Grown (seen queue : List ℕ) (n : ℕ) (seen' queue' : List ℕ) (n' : ℕ) : Type 0 where
    pub more : (q : ℕ) → Seen seen q → Seen seen' q
    pub same : (i : ℕ) → i < n → get_or queue' i 0 ≡ get_or queue i 0
    pub long : n ≤ n'

  pub few-below : {seen queue : List ℕ} {n head : ℕ} → Search seen queue n head → n ≤ e
  few-below {seen} {queue} {n} {head} r = omega (arith, r.few, count_bound e (flag seen))

  pub room : {seen queue : List ℕ} {n head : ℕ} → e ≤ 512 → Search seen queue n head → (s : ℕ) → s < e → Room s seen n
  room {seen} {queue} {n} {head} l r s b h = omega (arith, r.few, count_bound e (λ _. true), count_lt e (flag seen) (λ _. true) (λ x k t. refl) s b (unseen_flag seen s h) refl)

  search-from : (zs : List ℕ) → length zs ≡ 512 → ((i : ℕ) → i < 512 → get_or zs i 0 ≡ 0) → a < e → e ≤ 512 → Search (set zs a 1) (set zs 0 a) 1 0
  search-from zs long none l m =
      let at = get_or-set_same zs a 1 0 (omega arith) in
      let q0 = get_or-set_same zs 0 a 0 (omega arith) in
      let zero_at : (i : ℕ) → i < 1 → i ≡ 0 = λ i k. omega arith in
      let seen-a : Seen (set zs a 1) a = λ z. omega (arith, at) in
      record {
        seen-length = length-set zs a 1 ∙ long;
        queue_length = length-set zs 0 a ∙ long;
        ahead = omega arith;
        few = omega (arith, count_lt e (λ _. false) (flag (set zs a 1)) (λ x k t. clash false t refl) a l refl (seen_flag (set zs a 1) a seen-a));
        below = λ i k. rw (zero_at i k, q0) l;
        came = λ i k. inl (rw (zero_at i k) q0);
        start = seen-a;
        closed = λ q k s. ⊎_elim
            (λ h. inl (0, omega arith, omega arith, q0 ∙ sym h))
            (λ h. absurd (s (get_or-set_other zs a q 1 0 h ∙ none q (omega arith))))
            (same_or_not q a);
      }

  pub search_start : a < e → e ≤ 512 → Search (set (replicate 512 0) a 1) (set (replicate 512 0) 0 a) 1 0
  search_start = search-from (replicate 512 0) (length-replicate {A = ℕ} 512 0) (λ i k. get_or-replicate {A = ℕ} 512 i 0 0 k)

  -- one that is not seen is flagged and put at the end of the queue
  module _ (seen queue : List ℕ) (n head : ℕ) (small : e ≤ 512) (r : Search seen queue n head) (s : ℕ) (b : s < e)
      (w : Walk next alt e a s) (z : get_or seen s 0 ≡ 0) where
    fits : n < 512
    fits = room {seen = seen} {queue = queue} {n = n} {head = head} small r s b z

    queue_at : (i : ℕ) → i < n + 1 → ((i ≡ n) × (get_or (set queue n s) i 0 ≡ s)) ⊎ ((i < n) × (get_or (set queue n s) i 0 ≡ get_or queue i 0))
    queue_at i l = ⊎_elim
        (λ q. inl (q, ap (λ (k : ℕ). get_or (set queue n s) k 0) q ∙ get_or-set_same queue n s 0 (omega (arith, r.queue_length, fits))))
        (λ q. inr (omega arith, get_or-set_other queue n i s 0 q))
        (same_or_not i n)

    grows : (q : ℕ) → Seen seen q → Seen (set seen s 1) q
    grows q h = set-seen seen s q (omega (arith, r.seen-length)) h

    got : Seen (set seen s 1) s
    got h = omega (arith, r.seen-length, get_or-set_same seen s 1 0 (omega (arith, r.seen-length)))

    fresh_grown : Grown seen queue n (set seen s 1) (set queue n s) (n + 1)
    fresh_grown = record { more = grows; same = λ i l. get_or-set_other queue n i s 0 (λ q. omega arith); long = omega arith }

    fresh_keeps : Search (set seen s 1) (set queue n s) (n + 1) head
    fresh_keeps = record {
      seen-length = length-set seen s 1 ∙ r.seen-length;
      queue_length = length-set queue n s ∙ r.queue_length;
      ahead = omega (arith, r.ahead);
      few = omega (arith, r.few, count_lt e (flag seen) (flag (set seen s 1)) (λ x k t. seen_flag (set seen s 1) x (grows x (flag_seen seen x t))) s b (unseen_flag seen s z) (seen_flag (set seen s 1) s got));
      below = λ i l. ⊎_elim (λ q. rw q.1 b) (λ q. rw q.1 (r.below i q.0)) (queue_at i l);
      came = λ i l. ⊎_elim (λ q. inr (rw q.1 w)) (λ q. rw q.1 (r.came i q.0)) (queue_at i l);
      start = grows a r.start;
      closed = λ q l h. ⊎_elim
          (λ p. inl (n, r.ahead, omega arith, get_or-set_same queue n s 0 (omega (arith, r.queue_length, fits)) ∙ sym p))
          (λ p. ⊎_elim
          (λ c. inl (c.0, c.1, omega (arith, c.2), get_or-set_other queue n c.0 s 0 (λ u. omega (arith, c.2)) ∙ c.3))
          (λ d. inr (λ x g. (grows x (d x g).0, (d x g).1)))
          (r.closed q l (λ y. h (get_or-set_other seen s q 1 0 p ∙ y))))
          (same_or_not q s);
    }

  -- what a visit to s leaves
  pub record Left (s : ℕ) (seen queue : List ℕ) (n head : ℕ) (seen' queue' : List ℕ) (n' : ℕ) : Type 0 where
    pub search : Search seen' queue' n' head
    pub grown : Grown seen queue n seen' queue' n'
    pub flagged : (s ≡ 0 → ⊥) → Seen seen' s

  pub visit : {seen queue : List ℕ} {n head : ℕ} {seen' queue' : List ℕ} {n' : ℕ} → e ≤ 512 → Search seen queue n head → (s : ℕ) → s < e
      → ((s ≡ 0 → ⊥) → Walk next alt e a s) → Visited s seen queue n seen' queue' n' → Left s seen queue n head seen' queue' n'
  visit {seen} {queue} {n} {head} m r s b w (inl (k, p, q, o)) = rw (p, q, o) (record {
    search = r;
    grown = record { more = λ x h. h; same = λ i l. refl; long = omega arith };
    flagged = λ h. ⊎_elim (λ z. absurd (h z)) (λ y. y) k;
  })
  visit {seen} {queue} {n} {head} m r s b w (inr (k, z, p, q, o)) = rw (p, q, o) (record {
    search = fresh_keeps seen queue n head m r s b (w k) z;
    grown = fresh_grown seen queue n head m r s b (w k) z;
    flagged = λ h. got seen queue n head m r s b (w k) z;
  })

  one_more : (x y b : ℕ) → x ≡ y → (y ≡ a) ⊎ Walk next alt e a y → Step next alt e x b → Walk next alt e a b
  one_more x y b q (inl p) g = let z : x ≡ a = q ∙ p in last (rw z at g)
  one_more x y b q (inr w) g = walk_more next alt e w (rw q at g)

  -- what waited at the head is done
  pass : (seen queue : List ℕ) (n head x q : ℕ) → get_or queue head 0 ≡ x → Done seen x
      → ((i : ℕ) × (head ≤ i) × (i < n) × (get_or queue i 0 ≡ q)) ⊎ Done seen q → ((i : ℕ) × (head + 1 ≤ i) × (i < n) × (get_or queue i 0 ≡ q)) ⊎ Done seen q
  pass seen queue n head x q here done (inr d) = inr d
  pass seen queue n head x q here done (inl c) = ⊎_elim
      (λ p. let z : x ≡ q = sym here ∙ ap (λ (i : ℕ). get_or queue i 0) (sym p) ∙ c.3 in inr (rw z at done))
      (λ p. inl (c.0, omega (arith, c.1), c.2, c.3))
      (same_or_not c.0 head)

  -- the record x at the head leads to s by next and to t by alt
  module _ {seen queue : List ℕ} {n head : ℕ} (m : e ≤ 512) (r : Search seen queue n head) (l : head < n) (x : ℕ) (ax : x ≡ get_or queue head 0)
      (s t : ℕ) (bs : s < e) (es : s ≡ follow e next x) (bt : t < e) (et : t ≡ follow e alt x) where
    here-below : x < e
    here-below = omega (arith, ax, r.below head l)

    on : (b : ℕ) → Step next alt e x b → Walk next alt e a b
    on b g = one_more x (get_or queue head 0) b ax (r.came head l) g

    on_next : (s ≡ 0 → ⊥) → Walk next alt e a s
    on_next h = on s (step_in here-below h (inl (sym es)))

    on_alt : (t ≡ 0 → ⊥) → Walk next alt e a t
    on_alt h = on t (step_in here-below h (inr (sym et)))

    -- s or t is a
    pub turn_found : meets a s t ≡ true → on_cycle next alt e a ≡ true
    turn_found h = walk_reach next alt e (on a (meets_yes next alt e x s t es et a here-below h))

    -- a visit to s
    pub half : {seen₁ queue₁ : List ℕ} {n₁ : ℕ} → Visited s seen queue n seen₁ queue₁ n₁ → Left s seen queue n head seen₁ queue₁ n₁
    half v = visit m r s bs on_next v

    -- and one to t: the record at the head is done
    pub turn : {seen₁ queue₁ : List ℕ} {n₁ : ℕ} {seen₂ queue₂ : List ℕ} {n₂ : ℕ} → meets a s t ≡ false
        → Visited s seen queue n seen₁ queue₁ n₁ → Visited t seen₁ queue₁ n₁ seen₂ queue₂ n₂ → Search seen₂ queue₂ n₂ (head + 1)
    turn {seen₁} {queue₁} {n₁} {seen₂} {queue₂} {n₂} off v₁ v₂ =
        let u₁ = half v₁ in
        let u₂ = visit m u₁.search t bt on_alt v₂ in
        let s₂ = u₂.search in
        let here : get_or queue₂ head 0 ≡ x = u₂.grown.same head (omega (arith, u₁.grown.long)) ∙ u₁.grown.same head l ∙ sym ax in
        let done : Done seen₂ x = λ b g. (
          ⊎_elim
              (λ p. let z : s ≡ b = es ∙ p in rw z at (u₂.grown.more s (u₁.flagged (λ y. g.some (sym z ∙ y)))))
              (λ p. let z : t ≡ b = et ∙ p in rw z at (u₂.flagged (λ y. g.some (sym z ∙ y))))
              (step_out g),
          meets-no next alt e x s t es et a off b g,
        ) in
        record {
          seen-length = s₂.seen-length;
          queue_length = s₂.queue_length;
          ahead = omega (arith, u₁.grown.long, u₂.grown.long);
          few = s₂.few;
          below = s₂.below;
          came = s₂.came;
          start = s₂.start;
          closed = λ q k h. pass seen₂ queue₂ n₂ head x q here done (s₂.closed q k h);
        }

  -- nothing waits: no walk from what is seen leads to a
  stays : {seen queue : List ℕ} {n head : ℕ} → Search seen queue n head → n ≤ head → {q b : ℕ} → q < e → Seen seen q → Walk next alt e q b → b ≡ a → ⊥
  stays {seen} {queue} {n} {head} r l {q} {b} k h (last g) z = ⊎_elim (λ c. omega (arith, c.1, c.2)) (λ d. (d b g).1 z) (r.closed q k h)
  stays {seen} {queue} {n} {head} r l {q} {b} k h (then g w) z =
      ⊎_elim (λ c. omega (arith, c.1, c.2)) (λ d. stays r l g.to (d _ g).0 w z) (r.closed q k h)

  pub search-ended : {seen queue : List ℕ} {n head : ℕ} → a < e → Search seen queue n head → n ≤ head → on_cycle next alt e a ≡ false
  search-ended k r l = ⊎_elim (λ t. absurd (stays r l k r.start (reach_walk next alt e e a a k t) refl)) (λ t. t) (two (on_cycle next alt e a))
