-- New diverge nodes stand where the next est is blocked; so none stands at the join where it is not. Assumes nothing.
use mathlib.Core.Path.{◌≡◌, refl, sym, ap, ◌∙◌}
use mathlib.Core.Logic.{⊎_elim}
use mathlib.Core.Bool.{true, false}
use mathlib.Core.List.{List, [], ◌∷◌, ◌++◌, append_assoc, append-nil}
use Prim.Native.Nat.{ℕ, ◌+◌, ◌-◌, ◌≤◌, ◌<◌}
use native.Mathlib.Omega.{arith}
use lib.ListN.{length, take, set}
use lib.Seq.{take-append-add, take-take}
use Rattle.link_rules.specs.declared.link_idx.TrainIdx.{TrainIdx}
use Rattle.disp_structs.specs.Values.{view, is_blocked}
use Rattle.disp_structs.specs.declared.EstIdx.{EstIdx}
use Rattle.disp_structs.specs.declared.EstTime.{EstTime}
use Rattle.disp_structs.specs.declared.DispNode.{DispNode}
use Rattle.disp_structs.specs.declared.DivergeNode.{DivergeNode}
use Rattle.disp_structs.specs.declared.TrainIdxsView.{TrainIdxsView}
use Rattle.est_times.proofs.Counting.{clash, same_or_not}
use Rattle.free_path.specs.Base.{ok, at, popped}
use Rattle.update_definition.specs.State.{Round, Search, Turn, view_of, blocked, diverging}
use Rattle.update_definition.specs.Look.{Here}
use Rattle.update_definition.specs.Moves.{alternate_node, saved_node, advance_node}
use Rattle.update_definition.specs.Accepted.{Each, Accepted}
use Rattle.update_laws.specs.Turns.{SomeTrain, Stands, Looks, Rewound, Did, After}
use Rattle.update_laws.specs.Turns.Looks.{passes, blocks}
use Rattle.update_laws.specs.Turns.Did.{pops, shortens, gives_up, alternates, changes, saves, empties, advances, joins}
use Rattle.update_laws.specs.Good.{stack, StackGood, ViewsGood, NewDivsGood, DivsHeld}
use Rattle.update_laws.proofs.Answers.{ok_same}
use Rattle.update_laws.proofs.Lists.{at_left, at_right, at_last, take_below}
use Rattle.update_laws.proofs.Stack.{stack-length, stack-last}
use Rattle.update_laws.proofs.Views.{get_d_set, blocks-blocked, rewound-good, blocked-blocks}
use Rattle.update_laws.proofs.Pools.{view-trains}
use Rattle.update_laws.proofs.NewDivs.{below, diverging-at, cut_ok}

-- what is blocked stays blocked
pub still_blocked : (views : List TrainIdxsView) (x : ℕ) (v : TrainIdxsView) (e : EstIdx) → is_blocked v ≡ true → blocked views e ≡ true → blocked (set views x v) e ≡ true
still_blocked views x v e b h = ⊎_elim (λ q. ap is_blocked q ∙ b) (λ q. ap is_blocked q ∙ h) (get_d_set views x v e.0)

module _ (links : ℕ) (r : Round) (g : Accepted links r.train) (s : Search) (k : StackGood r s) (v : ViewsGood (length r.train.est_times) s) (c : NewDivsGood r s) (o : DivsHeld r s) (h : Here) (st : Stands r s h) where
  -- fewer nodes, fewer diverge nodes, more ests blocked
  less_held : (new : List DispNode) (divs : List DivergeNode) (m l : ℕ) (x : ℕ) (w : TrainIdxsView) → take m (stack r s) ≡ new → divs ≡ take l s.div_nodes_new → is_blocked w ≡ true
      → (i : ℕ) (d : DivergeNode) (n : DispNode) (y : EstTime) → 1 ≤ i → at divs i ≡ ok d → at new (d.disp_node_idx - 1) ≡ ok n → at r.train.est_times n.est_idx.0 ≡ ok y
      → blocked (set s.views x w) y.idx_next ≡ true
  less_held new divs m l x w q p b i d n y u a e f =
      still_blocked s.views x w y.idx_next b
      (o i d n y u (take_below l s.div_nodes_new i (ap (λ (z : List DivergeNode). at z i) (sym p) ∙ a)).1 (take_below m (stack r s) (d.disp_node_idx - 1) (ap (λ (z : List DispNode). at z (d.disp_node_idx - 1)) q ∙ e)).1 f)

  -- a node more on the stack
  more_held : (b : DispNode) (i : ℕ) (d : DivergeNode) (n : DispNode) (y : EstTime) → 1 ≤ i → at s.div_nodes_new i ≡ ok d → at (take s.idx_split r.train.disp_path ++ (s.disp_path_new ++ (b ∷ []))) (d.disp_node_idx - 1) ≡ ok n
      → at r.train.est_times n.est_idx.0 ≡ ok y → blocked s.views y.idx_next ≡ true
  more_held b i d n y u a e f =
      let w = c.inner i d u a in
      o i d n y u a (sym (at_left (stack r s) (b ∷ []) (d.disp_node_idx - 1) (omega (arith, w.low, w.high, k.low, stack-length links r g s k)))
      ∙ ap (λ (z : List DispNode). at z (d.disp_node_idx - 1)) (append_assoc (take s.idx_split r.train.disp_path) s.disp_path_new (b ∷ [])) ∙ e) f

  made-blocks : (w : Rewound r h s) → is_blocked w.pooled.made ≡ true
  made-blocks w = blocks-blocked w.pooled.made (rewound-good (length r.train.est_times) r h s v w).made

  -- new diverge nodes at the join: the current node is before them
  joined-held : (ts : List TrainIdx) (b : DispNode) → Each SomeTrain ts → blocked s.views h.est_curr.idx_next ≡ true → (i : ℕ) (d : DivergeNode) (n : DispNode) (y : EstTime) → 1 ≤ i
      → at (s.div_nodes_new ++ diverging h.idx_join_new ts) i ≡ ok d → at (take s.idx_split r.train.disp_path ++ (s.disp_path_new ++ (b ∷ []))) (d.disp_node_idx - 1) ≡ ok n
      → at r.train.est_times n.est_idx.0 ≡ ok y → blocked s.views y.idx_next ≡ true
  joined-held ts b some f i d n y u a e p = ⊎_elim
      (λ l. more_held b i d n y u (sym (at_left s.div_nodes_new (diverging h.idx_join_new ts) i l) ∙ a) e p)
      (λ l.
      let w = diverging-at h.idx_join_new ts some (i - length s.div_nodes_new) d (sym (at_right s.div_nodes_new (diverging h.idx_join_new ts) i l) ∙ a) in
      let long = stack-length links r g s k in
      let z : d.disp_node_idx - 1 ≡ length (stack r s) - 1 = omega (arith, w.0, st.join_is) in
      let here : at (stack r s) (length (stack r s) - 1) ≡ ok n = ap (at (stack r s)) (sym z) ∙ sym (at_left (stack r s) (b ∷ []) (d.disp_node_idx - 1) (omega (arith, k.low)))
      ∙ ap (λ (z : List DispNode). at z (d.disp_node_idx - 1)) (append_assoc (take s.idx_split r.train.disp_path) s.disp_path_new (b ∷ [])) ∙ e in
      let same : h.disp_node_curr ≡ n = ok_same (sym (at_last (stack r s) (stack-last links r g s k h st)) ∙ here) in
      let est : h.est_curr ≡ y = ok_same (sym st.est ∙ ap (λ (m : DispNode). at r.train.est_times m.est_idx.0) same ∙ p) in
      ap (λ (q : EstTime). blocked s.views q.idx_next) (sym est) ∙ f)
      (below i (length s.div_nodes_new))

  pub did-held : {t : Turn} → Did r h s t → After (DivsHeld r) t
  did-held (pops w n ns q) =
      let x = cut_ok h.idx_join_new s.div_nodes_new c.sorted w.divs-is in
      less_held (take s.idx_split r.train.disp_path ++ popped s.disp_path_new) w.divs (length (take s.idx_split r.train.disp_path) + (length s.disp_path_new - 1)) x.size h.disp_node_curr.est_idx.0 w.pooled.made
      (take-append-add (take s.idx_split r.train.disp_path) s.disp_path_new (length s.disp_path_new - 1)) x.is (made-blocks w)
  did-held (shortens w q l) =
      let x = cut_ok h.idx_join_new s.div_nodes_new c.sorted w.divs-is in
      less_held (take (s.idx_split - 1) r.train.disp_path ++ s.disp_path_new) w.divs (s.idx_split - 1) x.size h.disp_node_curr.est_idx.0 w.pooled.made
      (ap (λ (y : List DispNode). take (s.idx_split - 1) (take s.idx_split r.train.disp_path ++ y)) q
      ∙ ap (take (s.idx_split - 1)) (append-nil (take s.idx_split r.train.disp_path))
      ∙ take-take (s.idx_split - 1) s.idx_split r.train.disp_path (omega arith)
      ∙ sym (append-nil (take (s.idx_split - 1) r.train.disp_path))
      ∙ ap (λ (y : List DispNode). take (s.idx_split - 1) r.train.disp_path ++ y) (sym q)) x.is (made-blocks w)
  did-held (gives_up w q) = tt
  did-held (alternates ts p b n f m w off) =
      let y = view_of s.views h.est_curr.idx_next in
      joined-held ts (alternate_node h.disp_node_curr h.est_curr.idx_next_alt)
      (view-trains s.train_idxs_blocking y.idx_begin y.idx_end v.pool (blocked-blocks y (v.each h.est_curr.idx_next.0) b).low p) b
  did-held (changes d b q) = tt
  did-held (saves n m f l a w z) = more_held (saved_node n h.est_curr.idx_next)
  did-held (empties f l) = λ i d n y u a e p. still_blocked s.views h.est_curr.idx_next.0 (view 1 1) y.idx_next refl (o i d n y u a e p)
  did-held (advances f w) = more_held (advance_node h)
  did-held (joins d b q) = tt

  -- at a Join no new diverge node stands at the join
  pub joins_clear : blocked s.views h.est_curr.idx_next ≡ false → (i : ℕ) (d : DivergeNode) → 1 ≤ i → at s.div_nodes_new i ≡ ok d → d.disp_node_idx < h.idx_join_new
  joins_clear f i d u a = ⊎_elim
      (λ (q : d.disp_node_idx ≡ h.idx_join_new).
      let z : length (stack r s) - 1 ≡ d.disp_node_idx - 1 = omega (arith, stack-length links r g s k, st.join_is) in
      clash (blocked s.views h.est_curr.idx_next) (o i d h.disp_node_curr h.est_curr u a (ap (at (stack r s)) (sym z) ∙ at_last (stack r s) (stack-last links r g s k h st)) st.est) f)
      (λ (q : d.disp_node_idx ≡ h.idx_join_new → ⊥). omega (arith, (c.inner i d u a).high, st.join_is, q))
      (same_or_not d.disp_node_idx h.idx_join_new)

-- a look blocks more
pub looks_held : (e : ℕ) (r : Round) (h : Here) {s u : Search} → ViewsGood e s → Looks r h s u → DivsHeld r s → DivsHeld r u
looks_held e r h v (passes d a b) o = o
looks_held e r h {s} v (blocks d ts a b c t f some) o = λ i x n y u p q z.
    still_blocked s.views h.est_curr.idx_next.0 (view (length s.train_idxs_blocking) (length s.train_idxs_blocking + length ts)) y.idx_next
    (blocks-blocked {n = length s.train_idxs_blocking + length ts} (view (length s.train_idxs_blocking) (length s.train_idxs_blocking + length ts)) (record { low = v.pool.some; order = omega arith; high = omega arith }))
    (o i x n y u p q z)
