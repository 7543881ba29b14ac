-- Nodes that lead one to the next: their ests are steps of est_times, so that they are distinct and at most E. Assumes nothing.
use mathlib.Core.Path.{◌≡◌, refl, sym, ap, subst, ◌∙◌}
use mathlib.Core.Logic.{inl, inr, ⊎_elim}
use mathlib.Core.List.{List, [], ◌∷◌, ◌++◌, map, append_assoc, append-nil}
use Prim.Native.Nat.{ℕ, suc, ◌+◌, ◌-◌, ◌≤◌, ◌<◌}
use native.Mathlib.Omega.{arith}
use native.Mathlib.Numerals.{add-one}
use lib.ListN.{length, get_or, take, length-append}
use lib.Seq.{length-take-le, take-append-add}
use Rattle.disp_structs.specs.declared.EstTime.{EstTime}
use Rattle.disp_structs.specs.declared.DispNode.{DispNode}
use Rattle.est_times.specs.Walks.{Step, Steps}
use Rattle.est_times.proofs.CycleLaws.{rank_of, rank_rises, steps-below, steps-distinct, steps-few, push_room}
use Rattle.free_path.specs.Base.{ok, at, last, popped}
use Rattle.update_definition.specs.State.{Round, Search, Turn}
use Rattle.update_definition.specs.Look.{Here, current}
use Rattle.update_definition.specs.Accepted.{Chain, EstsAccepted, Accepted, Leads, nexts, alts}
use Rattle.update_definition.specs.Moves.{alternate_node, saved_node, advance_node}
use Rattle.update_laws.specs.Turns.{Stands, Looks, Did, After}
use Rattle.update_laws.specs.Turns.Looks.{passes, blocks}
use Rattle.update_laws.specs.Turns.Did.{pops, shortens, gives_up, alternates, changes, saves, empties, advances, joins}
use Rattle.update_laws.specs.Good.{stack, StackGood}
use Rattle.update_laws.proofs.Answers.{ok_same, before-ok}
use Rattle.update_laws.proofs.Lists.{at-below, at_some, at_get_d, at_left, at_right, at_take, map_at, at_last, last-at, last-append, each-one, chain-append, chain-take}

-- a node's est number
abbrev pub est_of : DispNode → ℕ
est_of n = n.est_idx.0

module _ (links : ℕ) (est : List EstTime) (g : EstsAccepted links est) where
  pub leads_step : {a b : DispNode} → Leads est a b → Step (nexts est) (alts est) (length est) (est_of a) (est_of b)
  leads_step {a} {b} l =
      let x = g.each (est_of a) l.record_of l.stands in
      record {
        from = at-below est (est_of a) l.stands;
        to = ⊎_elim (λ q. omega (arith, x.next, q)) (λ q. omega (arith, x.alt, q)) l.leads;
        some = l.some;
        leads = ⊎_elim
            (λ q. inl (at_get_d (nexts est) (est_of a) 0 (map_at (λ (y : EstTime). y.idx_next.0) est (est_of a) l.stands) ∙ q))
            (λ q. inr (at_get_d (alts est) (est_of a) 0 (map_at (λ (y : EstTime). y.idx_next_alt.0) est (est_of a) l.stands) ∙ q))
            l.leads;
      }

  -- no node leads to itself
  pub leads-other : {a b : DispNode} → Leads est a b → est_of a ≡ est_of b → ⊥
  leads-other {a} {b} l q =
      let f = rank_rises (nexts est) (alts est) (length est) g.acyclic (est_of a) (est_of b) (leads_step l) in
      let z : rank_of (nexts est) (alts est) (length est) (est_of a) ≡ rank_of (nexts est) (alts est) (length est) (est_of b) = ap (rank_of (nexts est) (alts est) (length est)) q in
      omega arith

  module _ (xs : List DispNode) (c : Chain (Leads est) xs) where
    est-at : (i : ℕ) {x : DispNode} → at xs i ≡ ok x → get_or (map est_of xs) i 0 ≡ est_of x
    est-at i h = at_get_d (map est_of xs) i 0 (map_at est_of xs i h)

    chain_steps : Steps (nexts est) (alts est) (length est) (map est_of xs) (length xs)
    chain_steps i l =
        let a = at_some xs i (omega arith) in
        let b = at_some xs (suc i) (omega arith) in
        rw (add-one, est-at i a.1, est-at (suc i) b.1) (leads_step (c i a.0 b.0 a.1 b.1))

    module _ (first : (n : DispNode) → at xs 0 ≡ ok n → est_of n < length est) where
      starts-below : get_or (map est_of xs) 0 0 < length est
      starts-below = go xs refl
        where
          go : (ys : List DispNode) → xs ≡ ys → get_or (map est_of xs) 0 0 < length est
          go [] q = let z : get_or (map est_of xs) 0 0 ≡ 0 = ap (λ (y : List DispNode). get_or (map est_of y) 0 0) q in omega (arith, g.some)
          go (y ∷ ys) q = let a = at_some xs 0 (omega (arith, ap (λ (y : List DispNode). length y) q)) in rw (est-at 0 a.1) (first a.0 a.1)

      -- each is at an est record
      pub chain-below : (i : ℕ) (a : DispNode) → at xs i ≡ ok a → est_of a < length est
      chain-below i a p = subst (λ (n : ℕ). n < length est) (est-at i p) (steps-below (nexts est) (alts est) (length est) g.acyclic (map est_of xs) (length xs) starts-below chain_steps i (at-below xs i p))

      -- two of them are at different ests
      pub chain-distinct : (i j : ℕ) (a b : DispNode) → i < j → at xs i ≡ ok a → at xs j ≡ ok b → est_of a ≡ est_of b → ⊥
      chain-distinct i j a b l p q e = steps-distinct (nexts est) (alts est) (length est) g.acyclic (map est_of xs) (length xs) starts-below chain_steps i j l (at-below xs j q) (est-at i p ∙ e ∙ sym (est-at j q))

      pub chain-few : length xs ≤ length est
      chain-few = steps-few (nexts est) (alts est) (length est) g.acyclic (map est_of xs) (length xs) starts-below chain_steps

      -- a node to which the last one leads finds room
      pub chain-room : {a b : DispNode} → last xs ≡ ok a → Leads est a b → length xs < length est
      chain-room {a} {b} h l =
          let k = at_last xs h in
          let m = at-below xs (length xs - 1) k in
          push_room (nexts est) (alts est) (length est) g.acyclic (map est_of xs) (length xs) starts-below chain_steps (est_of b) (omega arith) (rw (est-at (length xs - 1) k) (leads_step l))

-- ---- the stack of a search

head_at : (b : DispNode) → at (b ∷ []) 0 ≡ ok b
unfolding at
head_at b = refl

pub current-last : (path new : List DispNode) (split : ℕ) {n : DispNode} → split ≤ length path → current path new split ≡ ok n → last (take split path ++ new) ≡ ok n
current-last path [] split {n} l h =
    let b = before-ok path split h in
    let q : suc (split - 1) ≡ split = omega arith in
    rw append-nil (last-at (take split path) (split - 1) (q ∙ sym (length-take-le split path l)) (at_take split path (split - 1) (omega arith) ∙ b.1))
current-last path (a ∷ new) split l h = last-append (take split path) (a ∷ new) (omega arith) ∙ h

module _ (links : ℕ) (r : Round) (g : Accepted links r.train) (s : Search) (k : StackGood r s) where
  pub stack-length : length (stack r s) ≡ s.idx_split + length s.disp_path_new
  stack-length = length-append (take s.idx_split r.train.disp_path) s.disp_path_new ∙ ap (λ (n : ℕ). n + length s.disp_path_new) (length-take-le s.idx_split r.train.disp_path (omega (arith, k.high)))

  pub stack-first : (n : DispNode) → at (stack r s) 0 ≡ ok n → est_of n < length r.train.est_times
  stack-first n h =
      let l = length-take-le s.idx_split r.train.disp_path (omega (arith, k.high)) in
      let z = g.path.starts n (sym (at_take s.idx_split r.train.disp_path 0 k.low) ∙ sym (at_left (take s.idx_split r.train.disp_path) s.disp_path_new 0 (omega (arith, k.low))) ∙ h) in
      omega (arith, g.ests.some)

  -- it has at most E nodes
  pub stack-few : s.idx_split + length s.disp_path_new ≤ length r.train.est_times
  stack-few = omega (arith, stack-length, chain-few links r.train.est_times g.ests (stack r s) k.steps stack-first)

  module _ (h : Here) (st : Stands r s h) where
    pub stack-last : last (stack r s) ≡ ok h.disp_node_curr
    stack-last = current-last r.train.disp_path s.disp_path_new s.idx_split (omega (arith, k.high)) st.curr

    -- the current node leads to a node at the next est, and to one at the alternate
    pub next-leads : (b : DispNode) → est_of b ≡ h.est_curr.idx_next.0 → Leads r.train.est_times h.disp_node_curr b
    next-leads b q = record { record_of = h.est_curr; stands = st.est; some = λ z. st.some (sym q ∙ z); leads = inl (sym q) }

    pub alt-leads : (b : DispNode) → est_of b ≡ h.est_curr.idx_next_alt.0 → (h.est_curr.idx_next_alt.0 ≡ 0 → ⊥) → Leads r.train.est_times h.disp_node_curr b
    alt-leads b q n = record { record_of = h.est_curr; stands = st.est; some = λ z. n (sym q ∙ z); leads = inr (sym q) }

    module _ (b : DispNode) (l : Leads r.train.est_times h.disp_node_curr b) where
      -- there is room for a node to which it leads
      pub stack-room : s.idx_split + length s.disp_path_new < length r.train.est_times
      stack-room = omega (arith, stack-length, chain-room links r.train.est_times g.ests (stack r s) k.steps stack-first {a = h.disp_node_curr} {b = b} stack-last l)

      stack_more : Chain (Leads r.train.est_times) (stack r s ++ (b ∷ []))
      stack_more = chain-append (Leads r.train.est_times) (stack r s) (b ∷ []) k.steps (one b) meet
        where
          one : (b : DispNode) → Chain (Leads r.train.est_times) (b ∷ [])
          one b i x y p q = absurd (omega (arith, at-below (b ∷ []) (suc i) q))

          meet : (x y : DispNode) → last (stack r s) ≡ ok x → at (b ∷ []) 0 ≡ ok y → Leads r.train.est_times x y
          meet x y p q = subst (λ (z : DispNode). Leads r.train.est_times z y) (ok_same (sym stack-last ∙ p)) (subst (λ (z : DispNode). Leads r.train.est_times h.disp_node_curr z) (each-one (λ (z : DispNode). b ≡ z) b refl 0 y q) l)

      pub stack_push : Chain (Leads r.train.est_times) (take s.idx_split r.train.disp_path ++ (s.disp_path_new ++ (b ∷ [])))
      stack_push = subst (λ (x : List DispNode). Chain (Leads r.train.est_times) x) (append_assoc (take s.idx_split r.train.disp_path) s.disp_path_new (b ∷ [])) stack_more

      -- no node of the stack is at the est to which it leads
      pub stack_off : (i : ℕ) (n : DispNode) → at (stack r s) i ≡ ok n → est_of n ≡ est_of b → ⊥
      stack_off i n p =
          let m = at-below (stack r s) i p in
          let end : at (stack r s ++ (b ∷ [])) (length (stack r s)) ≡ ok b = let z : length (stack r s) - length (stack r s) ≡ 0 = omega arith in at_right (stack r s) (b ∷ []) (length (stack r s)) (omega arith) ∙ ap (at (b ∷ [])) z ∙ head_at b in
          chain-distinct links r.train.est_times g.ests (stack r s ++ (b ∷ [])) stack_more (λ x q. stack-first x (sym (at_left (stack r s) (b ∷ []) 0 (omega arith)) ∙ q)) i (length (stack r s)) n b m (at_left (stack r s) (b ∷ []) i m ∙ p) end

    -- no other node of it is at the current est
    pub stack-under : (i : ℕ) (n : DispNode) → at (stack r s) i ≡ ok n → suc i < length (stack r s) → est_of n ≡ est_of h.disp_node_curr → ⊥
    stack-under i n p l = chain-distinct links r.train.est_times g.ests (stack r s) k.steps stack-first i (length (stack r s) - 1) n h.disp_node_curr (omega arith) p (at_last (stack r s) stack-last)

  pub stack-pop : Chain (Leads r.train.est_times) (take s.idx_split r.train.disp_path ++ popped s.disp_path_new)
  stack-pop = subst (λ (x : List DispNode). Chain (Leads r.train.est_times) x)
      (take-append-add (take s.idx_split r.train.disp_path) s.disp_path_new (length s.disp_path_new - 1))
      (chain-take (Leads r.train.est_times) (length (take s.idx_split r.train.disp_path) + (length s.disp_path_new - 1)) (stack r s) k.steps)

  -- every move keeps it
  pub did-stack : (h : Here) {t : Turn} → Stands r s h → Did r h s t → After (StackGood r) t
  did-stack h st (pops w n ns e) = record { low = k.low; high = k.high; steps = stack-pop }
  did-stack h st (shortens w e l) = record {
    low = omega arith;
    high = omega (arith, k.high);
    steps = subst (λ (x : List DispNode). Chain (Leads r.train.est_times) (take (s.idx_split - 1) r.train.disp_path ++ x)) (sym e) (rw append-nil (chain-take (Leads r.train.est_times) (s.idx_split - 1) r.train.disp_path g.path.steps));
  }
  did-stack h st (gives_up w q) = tt
  did-stack h st (alternates ts p b n f o w off) = record { low = k.low; high = k.high; steps = stack_push h st (alternate_node h.disp_node_curr h.est_curr.idx_next_alt) (alt-leads h st (alternate_node h.disp_node_curr h.est_curr.idx_next_alt) refl n) }
  did-stack h st (changes e b q) = tt
  did-stack h st (saves n m f l a w z) = record { low = k.low; high = k.high; steps = stack_push h st (saved_node n h.est_curr.idx_next) (next-leads h st (saved_node n h.est_curr.idx_next) refl) }
  did-stack h st (empties f l) = record { low = k.low; high = k.high; steps = k.steps }
  did-stack h st (advances f w) = record { low = k.low; high = k.high; steps = stack_push h st (advance_node h) (next-leads h st (advance_node h) refl) }
  did-stack h st (joins e b q) = tt

-- a look changes neither the stack nor where the search stands
pub looks_stack : (r : Round) (h : Here) {s u : Search} → Looks r h s u → StackGood r s → StackGood r u
looks_stack r h (passes d a b) k = record { low = k.low; high = k.high; steps = k.steps }
looks_stack r h (blocks d ts a b c e f some) k = record { low = k.low; high = k.high; steps = k.steps }

pub looks_stands : (r : Round) (h : Here) {s u : Search} → Looks r h s u → Stands r s h → Stands r u h
looks_stands r h (passes d a b) k = record { curr = k.curr; est = k.est; some = k.some; next = k.next; join_is = k.join_is }
looks_stands r h (blocks d ts a b c e f some) k = record { curr = k.curr; est = k.est; some = k.some; next = k.next; join_is = k.join_is }
