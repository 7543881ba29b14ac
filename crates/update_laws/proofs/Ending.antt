-- The search of a round ends: what is left of it falls at every turn, so more turns than that give the same answer. Assumes nothing.
use mathlib.Core.Path.{◌≡◌, refl, sym, ap, ◌∙◌}
use mathlib.Core.Logic.{⊎_elim}
use mathlib.Core.Bool.{true, false, not}
use mathlib.Core.List.{List, [], ◌∷◌, ◌++◌}
use Prim.Native.Nat.{ℕ, zero, suc, ◌+◌, ◌-◌, ◌≤◌, ◌<◌}
use native.Mathlib.Omega.{arith}
use lib.ListN.{length, get_or, set, length-append}
use lib.Seq.{get_or-set_same, get_or-set_other, length-take-le}
use borrow.Author.Tests.{not-true}
use Rattle.disp_structs.specs.Values.{view, is_blocked}
use Rattle.disp_structs.specs.declared.DispNode.{DispNode}
use Rattle.disp_structs.specs.declared.TrainIdxsView.{TrainIdxsView}
use Rattle.est_times.specs.Counts.{count_below}
use Rattle.est_times.proofs.Counting.{count-le, count_lt, count_bound, clash}
use Rattle.est_times.proofs.Depth.{Move, move_falls}
use Rattle.est_times.proofs.Depth.Move.{push, pop, block}
use Rattle.free_path.specs.Base.{Res, ok, no, popped}
use Rattle.update_definition.specs.State.{Round, Search, Turn, go_on, ends, blocked}
use Rattle.update_definition.specs.Look.{Here}
use Rattle.update_definition.specs.Moves.{alternate_node, saved_node, advance_node}
use Rattle.update_definition.specs.Update.{search_step, search_from, turn_limit}
use Rattle.update_definition.specs.Accepted.{Accepted}
use Rattle.update_laws.specs.Turns.{Stands, Looks, Rewound, Did, Turned, After}
use Rattle.update_laws.specs.Turns.Looks.{passes, blocks}
use Rattle.update_laws.specs.Turns.Did.{pops, shortens, gives_up, alternates, changes, saves, empties, advances, joins}
use Rattle.update_laws.specs.Good.{StackGood, ViewsGood, open_at, opens, depth, left}
use Rattle.update_laws.proofs.Lists.{at-below}
use Rattle.update_laws.proofs.Turning.{step_ok}
use Rattle.update_laws.proofs.Stack.{est_of, leads-other, next-leads, alt-leads, stack-room, did-stack, looks_stack, looks_stands}
use Rattle.update_laws.proofs.Views.{get_d_set, blocks-blocked, rewound-good, did-views, looks_views}

-- ---- ests that are not blocked

-- a view that blocks is set: what is not blocked then was not blocked before
open_within : (views : List TrainIdxsView) (x : ℕ) (v : TrainIdxsView) → is_blocked v ≡ true → (e a : ℕ) → a < e → open_at (set views x v) a ≡ true → open_at views a ≡ true
open_within views x v b e a l h = ⊎_elim
    (λ q. clash (is_blocked v) b (not-true (is_blocked v) (sym (ap (λ (y : TrainIdxsView). not (is_blocked y)) q) ∙ h)))
    (λ q. sym (ap (λ (y : TrainIdxsView). not (is_blocked y)) q) ∙ h)
    (get_d_set views x v a)

open_le : (views : List TrainIdxsView) (x : ℕ) (v : TrainIdxsView) (e : ℕ) → is_blocked v ≡ true → count_below e (open_at (set views x v)) ≤ count_below e (open_at views)
open_le views x v e b = count-le e (open_at (set views x v)) (open_at views) (open_within views x v b e)

open_lt : (views : List TrainIdxsView) (x : ℕ) (v : TrainIdxsView) (e : ℕ) → is_blocked v ≡ true → x < e → length views ≡ e → is_blocked (get_or views x (view 0 0)) ≡ false
    → count_below e (open_at (set views x v)) < count_below e (open_at views)
open_lt views x v e b l n f = count_lt e (open_at (set views x v)) (open_at views) (open_within views x v b e) x l
    (ap (λ (y : TrainIdxsView). not (is_blocked y)) (get_or-set_same views x v (view 0 0) (omega arith)) ∙ ap not b) (ap not f)

-- ---- the looks

module _ (e : ℕ) (r : Round) (h : Here) where
  looks_open : {s u : Search} → ViewsGood e s → Looks r h s u → count_below e (open_at u.views) ≤ count_below e (open_at s.views)
  looks_open g (passes d a b) = omega arith
  looks_open {s} g (blocks d ts a b c t f some) = open_le s.views h.est_curr.idx_next.0 (view (length s.train_idxs_blocking) (length s.train_idxs_blocking + length ts)) e
      (blocks-blocked {n = length s.train_idxs_blocking + length ts} (view (length s.train_idxs_blocking) (length s.train_idxs_blocking + length ts)) (record { low = g.pool.some; order = omega arith; high = omega arith }))

  -- an est that is not the next one keeps its view
  looks_other : {s u : Search} (x : ℕ) → (x ≡ h.est_curr.idx_next.0 → ⊥) → Looks r h s u → get_or u.views x (view 0 0) ≡ get_or s.views x (view 0 0)
  looks_other x n (passes d a b) = refl
  looks_other {s} x n (blocks d ts a b c t f some) = get_or-set_other s.views h.est_curr.idx_next.0 x (view (length s.train_idxs_blocking) (length s.train_idxs_blocking + length ts)) (view 0 0) n

  looks_join : {s u : Search} → Looks r h s u → (u.idx_split ≡ s.idx_split) × (length u.disp_path_new ≡ length s.disp_path_new)
  looks_join (passes d a b) = (refl, refl)
  looks_join (blocks d ts a b c t f some) = (refl, refl)

-- ---- the moves

pub after_map : (P Q : Search → Type 0) → ((u : Search) → P u → Q u) → (t : Turn) → After P t → After Q t
after_map P Q f (go_on u) p = f u p
after_map P Q f (ends e) p = tt

module _ (links : ℕ) (r : Round) (g : Accepted links r.train) where
  abbrev E : ℕ
  E = length r.train.est_times

  module _ (s : Search) (k : StackGood r s) (v : ViewsGood E s) (h : Here) (st : Stands r s h) (o : blocked s.views h.disp_node_curr.est_idx ≡ false) where
    rewound_less : (w : Rewound r h s) → count_below E (open_at (set s.views h.disp_node_curr.est_idx.0 w.pooled.made)) < count_below E (open_at s.views)
    rewound_less w = open_lt s.views h.disp_node_curr.est_idx.0 w.pooled.made E (blocks-blocked w.pooled.made (rewound-good E r h s v w).made) (at-below r.train.est_times h.disp_node_curr.est_idx.0 st.est) v.long o

    pushed : (b : DispNode) → s.idx_split + length s.disp_path_new < E → s.idx_split + length (s.disp_path_new ++ (b ∷ [])) ≡ s.idx_split + length s.disp_path_new + 1
    pushed b l = omega (arith, length-append s.disp_path_new (b ∷ []))

    -- as a move of a search in depth
    pub did_moves : {t : Turn} → Did r h s t → After (λ u. Move E (opens r s) (depth s) (opens r u) (depth u)) t
    did_moves (pops w n ns q) =
        let a : 0 < length s.disp_path_new = omega (arith, ap (λ (x : List DispNode). length x) q) in
        let b : length (popped s.disp_path_new) ≡ length s.disp_path_new - 1 = length-take-le (length s.disp_path_new - 1) s.disp_path_new (omega arith) in
        let c : depth s ≤ s.idx_split + length (popped s.disp_path_new) + 1 = omega arith in
        pop (rewound_less w) c
    did_moves (shortens w q l) = let c : depth s ≤ s.idx_split - 1 + length s.disp_path_new + 1 = omega arith in pop (rewound_less w) c
    did_moves (gives_up w q) = tt
    did_moves (alternates ts p b n f c w off) =
        let x = alternate_node h.disp_node_curr h.est_curr.idx_next_alt in
        let m = stack-room links r g s k h st x (alt-leads links r g s k h st x refl n) in
        let y : opens r s ≤ opens r s = omega arith in
        push y m (pushed x m)
    did_moves (changes d b q) = tt
    did_moves (saves n m f l a w z) =
        let x = saved_node n h.est_curr.idx_next in
        let m = stack-room links r g s k h st x (next-leads links r g s k h st x refl) in
        let y : opens r s ≤ opens r s = omega arith in
        push y m (pushed x m)
    did_moves (empties f l) = let c : depth s ≤ depth s = omega arith in block (open_lt s.views h.est_curr.idx_next.0 (view 1 1) E refl (at-below r.train.est_times h.est_curr.idx_next.0 st.next) v.long f.unblocked) c
    did_moves (advances f w) =
        let x = advance_node h in
        let m = stack-room links r g s k h st x (next-leads links r g s k h st x refl) in
        let y : opens r s ≤ opens r s = omega arith in
        push y m (pushed x m)
    did_moves (joins d b q) = tt

    pub did_less : {t : Turn} → Did r h s t → After (λ u. left r u < left r s) t
    did_less {t} d = after_map (λ u. Move E (opens r s) (depth s) (opens r u) (depth u)) (λ u. left r u < left r s) (λ u m. move_falls m) t (did_moves d)

  -- a look leaves no more
  pub looks_left : (h : Here) {s u : Search} → ViewsGood E s → Looks r h s u → left r u ≤ left r s
  looks_left h v l = let a = looks_open E r h v l in let c = looks_join E r h l in omega arith

  -- the stack and the views of a turn, and less is left
  pub record TurnedGood (s u : Search) : Type 0 where
    pub stack-good : StackGood r u
    pub views-good : ViewsGood E u
    pub less : left r u < left r s

  module _ (s : Search) (k : StackGood r s) (v : ViewsGood E s) where
    looked-stack : {t : Turn} (w : Turned r s t) → StackGood r w.looked
    looked-stack w = looks_stack r w.here w.occupied (looks_stack r w.here w.stored k)

    looked-views : {t : Turn} (w : Turned r s t) → ViewsGood E w.looked
    looked-views w = looks_views E r w.here w.occupied (looks_views E r w.here w.stored v)

    looked-stands : {t : Turn} (w : Turned r s t) → Stands r w.looked w.here
    looked-stands w = looks_stands r w.here w.occupied (looks_stands r w.here w.stored w.stands)

    -- the current est is still not blocked: it is not the next one
    pub looked_open : {t : Turn} (w : Turned r s t) → blocked w.looked.views w.here.disp_node_curr.est_idx ≡ false
    looked_open w =
        let h = w.here in
        let b = saved_node h.disp_node_curr h.est_curr.idx_next in
        let n : est_of h.disp_node_curr ≡ h.est_curr.idx_next.0 → ⊥ = leads-other links r.train.est_times g.ests {a = h.disp_node_curr} {b = b} (next-leads links r g s k h w.stands b refl) in
        ap is_blocked (looks_other E r h (est_of h.disp_node_curr) n w.occupied ∙ looks_other E r h (est_of h.disp_node_curr) n w.stored) ∙ w.unblocked

    pub looks_opens : {t : Turn} (w : Turned r s t) → (opens r w.looked ≤ opens r s) × (depth w.looked ≡ depth s)
    looks_opens w =
        let a = looks_open E r w.here v w.stored in
        let b = looks_open E r w.here (looks_views E r w.here w.stored v) w.occupied in
        let c = looks_join E r w.here w.stored in
        let d = looks_join E r w.here w.occupied in
        (omega arith, omega arith)

    looked-left : {t : Turn} (w : Turned r s t) → left r w.looked ≤ left r s
    looked-left w = omega (arith, looks_left w.here v w.stored, looks_left w.here (looks_views E r w.here w.stored v) w.occupied)

    pub turn-good : {u : Search} → Turned r s (go_on u) → TurnedGood s u
    turn-good {u} w = record {
      stack-good = did-stack links r g w.looked (looked-stack w) w.here (looked-stands w) w.did;
      views-good = did-views E r w.here w.looked (looked-views w) w.did;
      less = omega (arith, did_less w.looked (looked-stack w) (looked-views w) w.here (looked-stands w) (looked_open w) w.did, looked-left w);
    }

  -- ---- more turns than are left give the same answer
  pub search-ends : (n m : ℕ) (s : Search) → StackGood r s → ViewsGood E s → left r s < n → n ≤ m → search_from n r s ≡ search_from m r s
  unfolding search_from
  search-ends zero m s k v l q = absurd (omega arith)
  search-ends (suc n) zero s k v l q = absurd (omega arith)
  search-ends (suc n) (suc m) s k v l q = go (search_step r s) refl (λ u a b c. search-ends n m u a b c (omega arith))
    where
      go : (x : Res Turn) → search_step r s ≡ x → ((u : Search) → StackGood r u → ViewsGood E u → left r u < n → search_from n r u ≡ search_from m r u) → search_from (suc n) r s ≡ search_from (suc m) r s
      go (no a) e f = rw e
      go (ok (ends a)) e f = rw e
      go (ok (go_on u)) e f = let w = turn-good s k v (step_ok r s g.divs e) in rw e (f u w.stack-good w.views-good (omega (arith, w.less)))

  -- the limit is more than are left
  pub within-limit : (s : Search) → 1 ≤ s.idx_split → left r s < turn_limit r.train
  within-limit s l = omega (arith, count_bound E (open_at s.views), g.ests.some)
