-- Asserts and reads of the search that never fail: a search as a round begins and goes on with it meets none of these panics. Assumes nothing.
use mathlib.Core.Path.{◌≡◌, refl, sym, ap, ◌∙◌}
use mathlib.Core.Logic.{◌⊎◌, inl, inr, ⊎_elim}
use mathlib.Core.Bool.{Bool, true, false, not, ◌||◌}
use mathlib.Core.List.{List, [], ◌∷◌}
use Prim.Native.Nat.{ℕ, zero, suc, ◌+◌, ◌-◌, ◌≤◌, ◌<◌}
use native.Mathlib.Omega.{arith}
use lib.Dec.{ltb, eqb}
use lib.ListN.{length, take, drop, length-take}
use borrow.Author.Tests.{ltb-true, lt-ltb, eqb-true, eqb-false, ne_eqb, not-true}
use Rattle.link_rules.specs.LinkIdx.{same_train, no_train}
use Rattle.link_rules.specs.declared.link_idx.TrainIdx.{TrainIdx}
use Rattle.disp_structs.specs.Values.{same_est, no_est, same_event}
use Rattle.disp_structs.specs.declared.EstTime.{EstTime}
use Rattle.disp_structs.specs.declared.DispNode.{DispNode}
use Rattle.disp_structs.specs.declared.DivergeNode.{DivergeNode}
use Rattle.disp_structs.specs.declared.TrainIdxsView.{TrainIdxsView}
use Rattle.est_times.proofs.Counting.{two, clash, same_or_not}
use Rattle.free_path.specs.Base.{Res, ok, at, before, any, steps_to, walk_from, walk_back}
use Rattle.update_definition.specs.State.{Round, Search, blocked}
use Rattle.free_path.specs.Validate.{on_path}
use Rattle.update_definition.specs.Look.{Here, current, look_from, look_here, Stored, stored_from, move_from, free_move, move_of, saved_matches}
use Rattle.update_definition.specs.Moves.{rewind_divs, saved_node}
use Rattle.update_definition.specs.Accepted.{Accepted}
use Rattle.update_definition.specs.declared.Move.{Move}
use Rattle.update_laws.specs.Turns.{Stands, Rewound}
use Rattle.update_laws.specs.Good.{Good, stack}
use Rattle.update_laws.specs.Asserts.{Asserts}
use Rattle.update_laws.proofs.Answers.{no_ok, ok_same, bind_ok, cond_cases}
use Rattle.update_laws.proofs.Lists.{at-below, at_some, at_last, at_drop, at_take, at_left, take_below}
use Rattle.update_laws.proofs.Turning.{stored-from}
use Rattle.update_laws.proofs.NewDivs.{below, sorted_upto, cut_ok}
use Rattle.update_laws.proofs.Stack.{est_of, current-last, chain-below, stack-first, stack_off, next-leads}

-- ---- the entry of the loop

look_with : (curr : Res DispNode) (join : ℕ) (est : List EstTime) (views : List TrainIdxsView) (divs : List DivergeNode) (k : ℕ) (n : DispNode) (e x : EstTime) (a b : DivergeNode)
    → curr ≡ ok n → at est (est_of n) ≡ ok e → blocked views n.est_idx ≡ false → (e.idx_next.0 ≡ 0 → ⊥) → at est e.idx_next.0 ≡ ok x → before divs k ≡ ok a → at divs k ≡ ok b → a.disp_node_idx < b.disp_node_idx
    → look_from curr join est views divs k ≡ ok (record { idx_join_new = join; disp_node_curr = n; est_curr = e; est_next = x })
unfolding look_from
look_with curr join est views divs k n e x a b p₁ p₂ p₃ p₄ p₅ p₆ p₇ p₈ = rw (p₁, p₂, p₃, ne_eqb e.idx_next.0 0 p₄, p₅, p₆, p₇, lt-ltb a.disp_node_idx b.disp_node_idx p₈)

current-some : (path new : List DispNode) (split : ℕ) → 1 ≤ split → split ≤ length path → (n : DispNode) × (current path new split ≡ ok n)
current-some path [] (suc i) l m = at_some path i (omega arith)
current-some path [] zero l m = absurd (omega arith)
current-some path (a ∷ new) split l m = at_some (a ∷ new) (length new) (omega arith)

-- where the search stands: only a current est with no next refuses the entry
pub record Entered (r : Round) (s : Search) : Type 0 where
  pub node : DispNode
  pub est : EstTime
  pub node-is : current r.train.disp_path s.disp_path_new s.idx_split ≡ ok node
  pub est-is : at r.train.est_times (est_of node) ≡ ok est
  pub unblocked : blocked s.views node.est_idx ≡ false
  pub enters : (est.idx_next.0 ≡ 0 → ⊥) → (h : Here) × (look_here r s ≡ ok h)

module _ (links : ℕ) (r : Round) (g : Accepted links r.train) (s : Search) (k : Good links r s) where
  pub entered : Asserts r s → Entered r s
  entered a =
      let n = current-some r.train.disp_path s.disp_path_new s.idx_split k.stack-good.low (omega (arith, k.stack-good.high)) in
      let top = at_last (stack r s) (current-last r.train.disp_path s.disp_path_new s.idx_split (omega (arith, k.stack-good.high)) n.1) in
      let e = at_some r.train.est_times (est_of n.0) (chain-below links r.train.est_times g.ests (stack r s) k.stack-good.steps (stack-first links r g s k.stack-good) (length (stack r s) - 1) n.0 top) in
      let x = at_some r.train.est_times e.0.idx_next.0 (g.ests.each (est_of n.0) e.0 e.1).next in
      let d = at_some r.train.div_nodes (s.div_idx_split - 1) (omega (arith, k.div_split-good.high)) in
      let z : suc (s.div_idx_split - 1) ≡ s.div_idx_split = omega (arith, k.div_split-good.low) in
      let before-is : before r.train.div_nodes s.div_idx_split ≡ ok d.0 = ap (λ (i : ℕ). before r.train.div_nodes i) (sym z) ∙ d.1 in
      let b = at_some r.train.div_nodes s.div_idx_split k.div_split-good.high in
      let un = k.stack_open (length (stack r s) - 1) n.0 top in
      record {
        node = n.0;
        est = e.0;
        node-is = n.1;
        est-is = e.1;
        unblocked = un;
        enters = λ p. (
          record { idx_join_new = s.idx_split + length s.disp_path_new; disp_node_curr = n.0; est_curr = e.0; est_next = x.0 },
          look_with (current r.train.disp_path s.disp_path_new s.idx_split) (s.idx_split + length s.disp_path_new) r.train.est_times s.views r.train.div_nodes s.div_idx_split n.0 e.0 x.0 d.0 b.0
              n.1 e.1 un p x.1 before-is b.1 (a.strict d.0 b.0 before-is b.1),
        );
      }

-- ---- the walk down the diverge nodes of the join ends before the first, which stands at 0

module _ (divs : List DivergeNode) (join : ℕ) (moved : TrainIdx) (k : ℕ) (d : DivergeNode) (p : at divs k ≡ ok d) where
  stored_down : (x : Stored) → eqb d.disp_node_idx join ≡ true → stored_from divs join moved k ≡ ok x → stored_from divs join moved (suc k) ≡ ok (record { div_idx_split = x.div_idx_split; met = x.met || same_train d.train_idx moved })
  unfolding stored_from
  stored_down x c q = rw (p, c, q)

  stored_stop : eqb d.disp_node_idx join ≡ false → stored_from divs join moved (suc k) ≡ ok (record { div_idx_split = suc k; met = false })
  unfolding stored_from
  stored_stop c = rw (p, c)

stored-goes : (divs : List DivergeNode) (join : ℕ) (moved : TrainIdx) → 1 ≤ join → ((d : DivergeNode) → at divs 0 ≡ ok d → d.disp_node_idx ≡ 0) → (n : ℕ) → 1 ≤ n → n ≤ length divs → (x : Stored) × (stored_from divs join moved n ≡ ok x)
stored-goes divs join moved l f zero a b = absurd (omega arith)
stored-goes divs join moved l f (suc k) a b =
    let d = at_some divs k (omega arith) in go k d refl (λ m. stored-goes divs join moved l f k m (omega arith))
  where
    go : (i : ℕ) (d : (x : DivergeNode) × (at divs k ≡ ok x)) → k ≡ i → (1 ≤ k → (x : Stored) × (stored_from divs join moved k ≡ ok x)) → (x : Stored) × (stored_from divs join moved (suc k) ≡ ok x)
    go i d q rec = ⊎_elim
        (λ (c : eqb d.0.disp_node_idx join ≡ true).
        let j = eqb-true d.0.disp_node_idx join c in
        let m : 1 ≤ k = ⊎_elim (λ (z : k ≡ 0). absurd (omega (arith, f d.0 (ap (at divs) (sym z) ∙ d.1)))) (λ (z : k ≡ 0 → ⊥). omega (arith, z)) (same_or_not k 0) in
        let x = rec m in
        (_, stored_down divs join moved k d.0 d.1 x.0 c x.1))
        (λ (c : eqb d.0.disp_node_idx join ≡ false). (_, stored_stop divs join moved k d.0 d.1 c))
        (two (eqb d.0.disp_node_idx join))

pub stored-never : (links : ℕ) (r : Round) (g : Accepted links r.train) (s : Search) (k : Good links r s) (h : Here) → Stands r s h → (x : Stored) × (stored_from r.train.div_nodes h.idx_join_new r.train_idx_moved s.div_idx_split ≡ ok x)
stored-never links r g s k h st =
    stored-goes r.train.div_nodes h.idx_join_new r.train_idx_moved (omega (arith, k.stack-good.low, st.join_is))
    (λ d p. ap (λ (y : DivergeNode). y.disp_node_idx) (ok_same (sym p ∙ g.divs.first))) s.div_idx_split k.div_split-good.low (omega (arith, k.div_split-good.high))

-- and it ends below the join
stored-off : (divs : List DivergeNode) (join : ℕ) (moved : TrainIdx) (n : ℕ) (x : Stored) → stored_from divs join moved n ≡ ok x → (d : DivergeNode) → at divs (x.div_idx_split - 1) ≡ ok d → d.disp_node_idx ≡ join → ⊥
unfolding stored_from
stored-off divs join moved zero x h d p q = no_ok h
stored-off divs join moved (suc k) x h d p q =
    let v = bind_ok (at divs k) h in ⊎_elim
    (λ w.
    let y = bind_ok (stored_from divs join moved k) w.1 in
    let e : y.0.div_idx_split ≡ x.div_idx_split = ap (λ (z : Stored). z.div_idx_split) (ok_same y.2) in
    stored-off divs join moved k y.0 y.1 d (ap (λ (i : ℕ). at divs (i - 1)) e ∙ p) q)
    (λ w.
    let e : suc k ≡ x.div_idx_split = ap (λ (z : Stored). z.div_idx_split) (ok_same w.1) in
    let z : x.div_idx_split - 1 ≡ k = omega arith in
    let same : d ≡ v.0 = ok_same (sym p ∙ ap (at divs) z ∙ v.1) in
    eqb-false v.0.disp_node_idx join w.0 (sym (ap (λ (y : DivergeNode). y.disp_node_idx) same) ∙ q))
    (cond_cases (eqb v.0.disp_node_idx join) v.2)

pub low-never : (links : ℕ) (r : Round) (g : Accepted links r.train) (s : Search) (k : Good links r s) (h : Here) → Stands r s h → (x : Stored) → stored_from r.train.div_nodes h.idx_join_new r.train_idx_moved s.div_idx_split ≡ ok x
    → (b : DivergeNode) × (before r.train.div_nodes x.div_idx_split ≡ ok b) × (b.disp_node_idx < h.idx_join_new)
low-never links r g s k h st x q =
    let divs = r.train.div_nodes in
    let i = stored-from divs h.idx_join_new r.train_idx_moved s.div_idx_split {x = x} q in
    let b = at_some divs (x.div_idx_split - 1) (omega (arith, k.div_split-good.high)) in
    let a = at_some divs (s.div_idx_split - 1) (omega (arith, k.div_split-good.high)) in
    let z : suc (x.div_idx_split - 1) ≡ x.div_idx_split = omega arith in
    let y : suc (s.div_idx_split - 1) ≡ s.div_idx_split = omega (arith, k.div_split-good.low) in
    let up = sorted_upto divs g.divs.sorted (x.div_idx_split - 1) (s.div_idx_split - 1) b.0 a.0 (omega arith) b.1 a.1 in
    let low = k.div_split-good.node a.0 (ap (λ (i : ℕ). before divs i) (sym y) ∙ a.1) in
    let off : b.0.disp_node_idx ≡ h.idx_join_new → ⊥ = stored-off divs h.idx_join_new r.train_idx_moved s.div_idx_split x q b.0 b.1 in
    (b.0, ap (λ (i : ℕ). before divs i) (sym z) ∙ b.1, omega (arith, off, st.join_is))

-- ---- the move is always found: idx_save is on the path where the saved path must be used

move_with : (next stuck on_alt on_next saved : Bool) (same : Res Bool) → (saved ≡ true → (b : Bool) × (same ≡ ok b)) → (m : Move) × (move_from next stuck on_alt on_next saved same ≡ ok m)
move_with true true on_alt on_next saved same f = (_, refl)
move_with true false true on_next saved same f = (_, refl)
move_with true false false on_next saved same f = (_, refl)
move_with false stuck on_alt true saved same f = (_, refl)
move_with false stuck on_alt false false same f = (_, refl)
move_with false stuck on_alt false true same f = let b = f refl in (free_move false true b.0, rw b.1)

pub move_never : (links : ℕ) (r : Round) (g : Accepted links r.train) (s : Search) (h : Here) → (m : Move) × (move_of r h s ≡ ok m)
unfolding move_of
move_never links r g s h = move_with
    (blocked s.views h.est_curr.idx_next)
    (same_est h.est_curr.idx_next_alt no_est || blocked s.views h.est_curr.idx_next_alt)
    (on_path r.train.disp_path h.est_curr.idx_next_alt)
    (on_path r.train.disp_path h.est_curr.idx_next)
    (ltb s.idx_save r.train.disp_node_idx_fixed)
    (saved_matches r.train.disp_path s.idx_save h.est_next.link_event)
    (λ q.
    let n = at_some r.train.disp_path s.idx_save (omega (arith, ltb-true s.idx_save r.train.disp_node_idx_fixed q, g.fixed)) in
    (same_event h.est_next.link_event n.0.link_event, rw n.1))

-- ---- Rewind: new diverge nodes below the join are found, and giving up finds none

module _ {A : Type 0} (p : A → Bool) (xs : List A) (n : ℕ) (y : A) (h : at xs n ≡ ok y) where
  back_hit : p y ≡ true → walk_back p xs (suc n) ≡ ok n
  unfolding walk_back
  back_hit c = rw (h, c)

  back_miss : (k : ℕ) → p y ≡ false → walk_back p xs n ≡ ok k → walk_back p xs (suc n) ≡ ok k
  unfolding walk_back
  back_miss k c q = rw (h, c) q

back_some : {A : Type 0} (p : A → Bool) (xs : List A) (n : ℕ) → n ≤ length xs → (i : ℕ) (x : A) → i < n → at xs i ≡ ok x → p x ≡ true → (k : ℕ) × (y : A) × (walk_back p xs n ≡ ok k) × (at xs k ≡ ok y) × (p y ≡ true)
back_some p xs zero l i x m h t = absurd (omega arith)
back_some p xs (suc n) l i x m h t =
    let y = at_some xs n (omega arith) in ⊎_elim
    (λ (c : p y.0 ≡ true). (n, y.0, back_hit p xs n y.0 y.1 c, y.1, c))
    (λ (c : p y.0 ≡ false).
    let j : i < n = ⊎_elim (λ (z : i ≡ n). clash (p x) t (ap p (ok_same (sym h ∙ ap (at xs) z ∙ y.1)) ∙ c)) (λ (z : i ≡ n → ⊥). omega (arith, z)) (same_or_not i n) in
    let w = back_some p xs n (omega arith) i x j h t in
    (w.0, w.1, back_miss p xs n y.0 y.1 w.0 c w.2, w.3, w.4))
    (two (p y.0))

module _ (links : ℕ) (r : Round) (s : Search) (k : Good links r s) (h : Here) (st : Stands r s h) where
  pub rewind-divs-never : (ds : List DivergeNode) × (rewind_divs h.idx_join_new s.div_nodes_new ≡ ok ds)
  unfolding rewind_divs
  rewind-divs-never =
      let j = h.idx_join_new in
      let low : 1 ≤ h.idx_join_new = omega (arith, k.stack-good.low, st.join_is) in
      let w = back_some (λ (d : DivergeNode). not (eqb d.disp_node_idx h.idx_join_new)) s.div_nodes_new (length s.div_nodes_new) (omega arith) 0 (record { train_idx = no_train; disp_node_idx = 0 })
      (at-below s.div_nodes_new 0 k.divs-good.first) k.divs-good.first (ap not (ne_eqb 0 h.idx_join_new (λ z. omega arith))) in
      let d = w.1 in
      let other = eqb-false d.disp_node_idx h.idx_join_new (not-true (eqb d.disp_node_idx h.idx_join_new) w.4) in
      let under : d.disp_node_idx < h.idx_join_new = omega (arith, other, under-join w.0 d w.3) in
      (take (w.0 + 1) s.div_nodes_new, rw (w.2, w.3, lt-ltb d.disp_node_idx h.idx_join_new under))
    where
      under-join : (i : ℕ) (d : DivergeNode) → at s.div_nodes_new i ≡ ok d → d.disp_node_idx ≤ h.idx_join_new
      under-join zero d p = omega (arith, ap (λ (y : DivergeNode). y.disp_node_idx) (ok_same (sym p ∙ k.divs-good.first)))
      under-join (suc i) d p = omega (arith, (k.divs-good.inner (suc i) d (omega arith) p).high, st.join_is)

  -- where there is no new node, a Rewind leaves the first diverge node alone
  pub give_up-never : (w : Rewound r h s) → s.disp_path_new ≡ [] → (length w.divs ≡ 1) × (h.idx_join_new ≡ s.idx_split)
  give_up-never w q =
      let c = cut_ok h.idx_join_new s.div_nodes_new k.divs-good.sorted w.divs-is in
      let z = ap (λ (x : List DispNode). length x) q in
      let first : at w.divs 0 ≡ ok (record { train_idx = no_train; disp_node_idx = 0 }) = ap (λ (y : List DivergeNode). at y 0) c.is ∙ at_take c.size s.div_nodes_new 0 (omega (arith, c.some)) ∙ k.divs-good.first in
      let some = at-below w.divs 0 first in (
        ⊎_elim
            (λ (l : 1 < length w.divs).
            let d = at_some w.divs 1 l in
            let old = take_below c.size s.div_nodes_new 1 (ap (λ (y : List DivergeNode). at y 1) (sym c.is) ∙ d.1) in
            absurd (omega (arith, c.under 1 d.0 d.1, (k.divs-good.inner 1 d.0 (omega arith) old.1).low, st.join_is)))
            (λ (l : length w.divs ≤ 1). omega arith)
            (below 1 (length w.divs)),
        omega (arith, st.join_is),
      )

-- ---- Join: a next est on the old path that is not blocked stands at or behind idx_split_save

any_at : {A : Type 0} (p : A → Bool) (xs : List A) → any p xs ≡ true → (i : ℕ) × (x : A) × (at xs i ≡ ok x) × (p x ≡ true)
unfolding any at
any_at p [] h = clash false h refl
any_at p (x ∷ xs) h = ⊎_elim (λ c. (0, x, refl, c)) (λ c. let w = any_at p xs c in (suc w.0, w.1, w.2, w.3)) (or_out (p x) (any p xs) h)
  where
    or_out : (a b : Bool) → (a || b) ≡ true → (a ≡ true) ⊎ (b ≡ true)
    or_out true b q = inl refl
    or_out false b q = inr q

steps-some : {A : Type 0} (p : A → Bool) (xs : List A) (i : ℕ) (x : A) → at xs i ≡ ok x → p x ≡ true → (n : ℕ) × (steps_to p xs ≡ ok n)
unfolding steps_to at
steps-some p [] i x h t = no_ok h
steps-some p (y ∷ xs) zero x h t = (0, rw (ap p (ok_same h) ∙ t))
steps-some p (y ∷ xs) (suc i) x h t = let w = steps-some p xs i x h t in ⊎_elim (λ (c : p y ≡ true). (0, rw c)) (λ (c : p y ≡ false). (suc w.0, rw (c, w.1))) (two (p y))

pub walk_some : {A : Type 0} (p : A → Bool) (xs : List A) (from i : ℕ) (x : A) → from ≤ i → at xs i ≡ ok x → p x ≡ true → (n : ℕ) × (walk_from p xs from ≡ ok n)
unfolding walk_from
walk_some p xs from i x l h t =
    let z : from + (i - from) ≡ i = omega arith in
    let w = steps-some p (drop from xs) (i - from) x (at_drop from xs (i - from) ∙ ap (at xs) z ∙ h) t in
    (from + w.0, rw w.1)

module _ (links : ℕ) (r : Round) (g : Accepted links r.train) (s : Search) (k : Good links r s) (a : Asserts r s) (h : Here) (st : Stands r s h) where
  pub join-never : blocked s.views h.est_curr.idx_next ≡ false → on_path r.train.disp_path h.est_curr.idx_next ≡ true
      → (base : ℕ) × (walk_from (λ (n : DispNode). same_est h.est_curr.idx_next n.est_idx) r.train.disp_path r.idx_split_save ≡ ok base)
  unfolding on_path
  join-never f on =
      let w = any_at (λ (n : DispNode). same_est h.est_curr.idx_next n.est_idx) r.train.disp_path on in
      let same : h.est_curr.idx_next.0 ≡ est_of w.1 = eqb-true h.est_curr.idx_next.0 (est_of w.1) w.3 in
      walk_some (λ (n : DispNode). same_est h.est_curr.idx_next n.est_idx) r.train.disp_path r.idx_split_save w.0 w.1 (behind w.0 w.1 w.2 same) w.2 w.3
    where
      behind : (i : ℕ) (n : DispNode) → at r.train.disp_path i ≡ ok n → h.est_curr.idx_next.0 ≡ est_of n → r.idx_split_save ≤ i
      behind i n p e = ⊎_elim
          (λ (l : i < r.idx_split_save). ⊎_elim
          (λ (m : i < s.idx_split).
          let b = saved_node n h.est_curr.idx_next in
          absurd (stack_off links r g s k.stack-good h st b (next-leads links r g s k.stack-good h st b refl) i n
          (at_left (take s.idx_split r.train.disp_path) s.disp_path_new i (omega (arith, length-take s.idx_split r.train.disp_path, k.stack-good.high)) ∙ at_take s.idx_split r.train.disp_path i m ∙ p) (sym e)))
          (λ (m : s.idx_split ≤ i). clash (blocked s.views h.est_curr.idx_next) (ap (λ (y : ℕ). blocked s.views (record { 0 = y })) e ∙ a.passed i n m l p) f)
          (below i s.idx_split))
          (λ (l : r.idx_split_save ≤ i). l)
          (below i r.idx_split_save)
