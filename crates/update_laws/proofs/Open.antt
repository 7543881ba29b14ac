-- No est on the stack is blocked, so that a round has at most 2E turns. Assumes nothing.
use mathlib.Core.Path.{◌≡◌, refl, sym, ap, subst, ◌∙◌}
use mathlib.Core.Bool.{Bool, true, false, not, ◌&&◌}
use mathlib.Core.List.{List, [], ◌∷◌, ◌++◌, append_assoc, append-nil}
use Prim.Native.Nat.{ℕ, suc, ◌+◌, ◌-◌, ◌≤◌, ◌<◌}
use native.Mathlib.Omega.{arith}
use lib.Dec.{eqb}
use lib.ListN.{length, take, set}
use lib.Seq.{get_or-set_other, length-take-le, take-append-add, take-take}
use borrow.Author.Tests.{eq-eqb, ne_eqb}
use Rattle.disp_structs.specs.Values.{view, is_blocked}
use Rattle.disp_structs.specs.declared.EstIdx.{EstIdx}
use Rattle.disp_structs.specs.declared.DispNode.{DispNode}
use Rattle.disp_structs.specs.declared.TrainIdxsView.{TrainIdxsView}
use Rattle.est_times.specs.Counts.{count_below}
use Rattle.est_times.proofs.Counting.{count_lt, clash}
use Rattle.free_path.specs.Base.{ok, at, popped}
use Rattle.update_definition.specs.State.{Round, Search, Turn, blocked}
use Rattle.update_definition.specs.Look.{Here}
use Rattle.update_definition.specs.Moves.{alternate_node, saved_node, advance_node}
use Rattle.update_definition.specs.Accepted.{Each, Accepted}
use Rattle.update_laws.specs.Turns.{Stands, Looks, Did, After}
use Rattle.update_laws.specs.Turns.Looks.{passes, blocks}
use Rattle.update_laws.specs.Turns.Did.{pops, shortens, gives_up, alternates, changes, saves, empties, advances, joins}
use Rattle.update_laws.specs.Good.{stack, StackGood, StackOpen, open_at}
use Rattle.update_laws.proofs.Lists.{take_below, each_append, each-one}
use Rattle.update_laws.proofs.Stack.{est_of, chain-distinct, chain-below, stack-first, stack-length, stack_off, stack-under, next-leads}

-- ---- every move keeps the stack open

module _ (links : ℕ) (r : Round) (g : Accepted links r.train) (s : Search) (k : StackGood r s) (o : StackOpen r s) (h : Here) (st : Stands r s h) where
  -- another est is blocked
  others_open : (ns : List DispNode) (x : EstIdx) (v : TrainIdxsView) → ((i : ℕ) (n : DispNode) → at ns i ≡ ok n → est_of n ≡ x.0 → ⊥) → Each (λ (n : DispNode). blocked s.views n.est_idx ≡ false) ns
      → Each (λ (n : DispNode). blocked (set s.views x.0 v) n.est_idx ≡ false) ns
  others_open ns x v f a i n p = ap is_blocked (get_or-set_other s.views x.0 (est_of n) v (view 0 0) (f i n p)) ∙ a i n p

  -- the next est is blocked
  pub next-blocked : (v : TrainIdxsView) → Each (λ (n : DispNode). blocked (set s.views h.est_curr.idx_next.0 v) n.est_idx ≡ false) (stack r s)
  next-blocked v =
      let b = saved_node h.disp_node_curr h.est_curr.idx_next in
      others_open (stack r s) h.est_curr.idx_next v (λ i n p. stack_off links r g s k h st b (next-leads links r g s k h st b refl) i n p) o

  pushed : (b : DispNode) → blocked s.views b.est_idx ≡ false → Each (λ (n : DispNode). blocked s.views n.est_idx ≡ false) (take s.idx_split r.train.disp_path ++ (s.disp_path_new ++ (b ∷ [])))
  pushed b f = subst (λ (y : List DispNode). Each (λ (n : DispNode). blocked s.views n.est_idx ≡ false) y) (append_assoc (take s.idx_split r.train.disp_path) s.disp_path_new (b ∷ []))
      (each_append (λ (n : DispNode). blocked s.views n.est_idx ≡ false) (stack r s) (b ∷ []) o (each-one (λ (n : DispNode). blocked s.views n.est_idx ≡ false) b f))

  -- the current est is blocked, and goes
  shorter : (v : TrainIdxsView) (m : ℕ) (ns : List DispNode) → suc m ≡ length (stack r s) → take m (stack r s) ≡ ns → Each (λ (n : DispNode). blocked (set s.views h.disp_node_curr.est_idx.0 v) n.est_idx ≡ false) ns
  shorter v m ns l q = subst (λ (y : List DispNode). Each (λ (n : DispNode). blocked (set s.views h.disp_node_curr.est_idx.0 v) n.est_idx ≡ false) y) q
      (others_open (take m (stack r s)) h.disp_node_curr.est_idx v
      (λ i n p. let w = take_below m (stack r s) i p in stack-under links r g s k h st i n w.1 (omega (arith, w.0)))
      (λ i n p. o i n (take_below m (stack r s) i p).1))

  pub did_open : {t : Turn} → Did r h s t → After (StackOpen r) t
  did_open (pops w n ns q) =
      let l = length-take-le s.idx_split r.train.disp_path (omega (arith, k.high)) in
      let a : 0 < length s.disp_path_new = omega (arith, ap (λ (x : List DispNode). length x) q) in
      shorter w.pooled.made (length (take s.idx_split r.train.disp_path) + (length s.disp_path_new - 1)) (take s.idx_split r.train.disp_path ++ popped s.disp_path_new)
      (omega (arith, stack-length links r g s k)) (take-append-add (take s.idx_split r.train.disp_path) s.disp_path_new (length s.disp_path_new - 1))
  did_open (shortens w q l) =
      let a = ap (λ (x : List DispNode). length x) q in
      shorter w.pooled.made (s.idx_split - 1) (take (s.idx_split - 1) r.train.disp_path ++ s.disp_path_new) (omega (arith, stack-length links r g s k))
      (ap (λ (y : List DispNode). take (s.idx_split - 1) (take s.idx_split r.train.disp_path ++ y)) q
      ∙ ap (take (s.idx_split - 1)) (append-nil (take s.idx_split r.train.disp_path))
      ∙ take-take (s.idx_split - 1) s.idx_split r.train.disp_path (omega arith)
      ∙ sym (append-nil (take (s.idx_split - 1) r.train.disp_path))
      ∙ ap (λ (y : List DispNode). take (s.idx_split - 1) r.train.disp_path ++ y) (sym q))
  did_open (gives_up w q) = tt
  did_open (alternates ts p b n f c w off) = pushed (alternate_node h.disp_node_curr h.est_curr.idx_next_alt) f
  did_open (changes d b q) = tt
  did_open (saves n m f l a w z) = pushed (saved_node n h.est_curr.idx_next) f.unblocked
  did_open (empties f l) = next-blocked (view 1 1)
  did_open (advances f w) = pushed (advance_node h) f.unblocked
  did_open (joins d b q) = tt

pub looks_stack_open : (links : ℕ) (r : Round) (g : Accepted links r.train) (h : Here) {s u : Search} → StackGood r s → Stands r s h → Looks r h s u → StackOpen r s → StackOpen r u
looks_stack_open links r g h k st (passes d a b) o = o
looks_stack_open links r g h {s} k st (blocks d ts a b c t f some) o = next-blocked links r g s k o h st (view (length s.train_idxs_blocking) (length s.train_idxs_blocking + length ts))

-- ---- nodes at different ests that pass a test are at most as many as the numbers that pass it

but : (ℕ → Bool) → ℕ → ℕ → Bool
but f a x = f x && not (eqb x a)

distinct-few : (e : ℕ) (f : ℕ → Bool) (xs : List DispNode) → ((i j : ℕ) (a b : DispNode) → i < j → at xs i ≡ ok a → at xs j ≡ ok b → est_of a ≡ est_of b → ⊥)
    → ((i : ℕ) (a : DispNode) → at xs i ≡ ok a → (est_of a < e) × (f (est_of a) ≡ true)) → length xs ≤ count_below e f
unfolding at but
distinct-few e f [] d p = omega arith
distinct-few e f (x ∷ xs) d p =
    let here = p 0 x refl in
    let less = count_lt e (but f (est_of x)) f (λ a l t. and_left (f a) (not (eqb a (est_of x))) t) (est_of x) here.0 (and_right (f (est_of x)) (not (eqb (est_of x) (est_of x))) (ap not (eq-eqb (est_of x) (est_of x) refl))) here.1 in
    let rest = distinct-few e (but f (est_of x)) xs (λ i j a b l q s. d (suc i) (suc j) a b (omega arith) q s)
    (λ i a q. let w = p (suc i) a q in (w.0, both (f (est_of a)) (not (eqb (est_of a) (est_of x))) w.1 (ap not (ne_eqb (est_of a) (est_of x) (λ z. d 0 (suc i) x a (omega arith) refl q (sym z)))))) in
    omega arith
  where
    and_left : (s t : Bool) → (s && t) ≡ true → s ≡ true
    and_left true t h = refl
    and_left false t h = clash false h refl

    and_right : (s t : Bool) → t ≡ false → (s && t) ≡ false
    and_right true t h = h
    and_right false t h = refl

    both : (s t : Bool) → s ≡ true → t ≡ true → (s && t) ≡ true
    both s t p q = rw (p, q)

module _ (links : ℕ) (r : Round) (g : Accepted links r.train) (s : Search) (k : StackGood r s) (o : StackOpen r s) where
  -- the stack is no longer than the ests that are not blocked
  pub stack_open_few : s.idx_split + length s.disp_path_new ≤ count_below (length r.train.est_times) (open_at s.views)
  stack_open_few =
      let n = distinct-few (length r.train.est_times) (open_at s.views) (stack r s)
      (chain-distinct links r.train.est_times g.ests (stack r s) k.steps (stack-first links r g s k))
      (λ i a p. (chain-below links r.train.est_times g.ests (stack r s) k.steps (stack-first links r g s k) i a p, ap not (o i a p))) in
      omega (arith, stack-length links r g s k)
