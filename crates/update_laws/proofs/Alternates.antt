-- Where new diverge nodes stand, the stack took the alternate, or it is blocked. Assumes nothing.
use mathlib.Core.Path.{◌≡◌, refl, sym, ap, subst, ◌∙◌}
use mathlib.Core.Logic.{⊎_elim}
use mathlib.Core.Bool.{true, false}
use mathlib.Core.List.{List, [], ◌∷◌, ◌++◌, append_assoc}
use Prim.Native.Nat.{ℕ, ◌+◌, ◌-◌, ◌≤◌, ◌<◌}
use native.Mathlib.Omega.{arith}
use lib.ListN.{length, take, set, length-append}
use lib.Seq.{length-take-le, take-append-add, get_or-set_same}
use Rattle.disp_structs.specs.Values.{view, is_blocked}
use Rattle.disp_structs.specs.declared.EstTime.{EstTime}
use Rattle.disp_structs.specs.declared.DispNode.{DispNode}
use Rattle.disp_structs.specs.declared.DivergeNode.{DivergeNode}
use Rattle.est_times.proofs.Counting.{clash, same_or_not}
use Rattle.free_path.specs.Base.{ok, at, popped}
use Rattle.update_definition.specs.State.{Round, Search, Turn, view_of, blocked, diverging}
use Rattle.update_definition.specs.Look.{Here}
use Rattle.update_definition.specs.Moves.{alternate_node, saved_node, advance_node}
use Rattle.update_definition.specs.Accepted.{Each, Accepted}
use Rattle.update_laws.specs.Turns.{SomeTrain, Stands, Looks, Did, After}
use Rattle.update_laws.specs.Turns.Looks.{passes, blocks}
use Rattle.update_laws.specs.Turns.Did.{pops, shortens, gives_up, alternates, changes, saves, empties, advances, joins}
use Rattle.update_laws.specs.Good.{Good, stack, depth, ViewsGood}
use Rattle.update_laws.specs.Asserts.{TookAlt, AltTaken}
use Rattle.update_laws.proofs.Answers.{ok_same}
use Rattle.update_laws.proofs.Lists.{at-below, at_left, at_right, at_last, at_some, take_below, at_push}
use Rattle.update_laws.proofs.Stack.{est_of, stack-length, stack-last}
use Rattle.update_laws.proofs.Views.{blocks-blocked, rewound-good, blocked-blocks}
use Rattle.update_laws.proofs.Pools.{view-trains}
use Rattle.update_laws.proofs.NewDivs.{below, diverging-at, cut_ok}
use Rattle.update_laws.proofs.Held.{still_blocked, joins_clear}

module _ (links : ℕ) (r : Round) (g : Accepted links r.train) (s : Search) (k : Good links r s) (o : AltTaken r s) (h : Here) (st : Stands r s h) where
  abbrev E : ℕ
  E = length r.train.est_times

  long : length (stack r s) ≡ depth s
  long = stack-length links r g s k.stack-good

  -- the last node is the current one
  top-is : (n : DispNode) → at (stack r s) (length (stack r s) - 1) ≡ ok n → h.disp_node_curr ≡ n
  top-is n p = ok_same (sym (at_last (stack r s) (stack-last links r g s k.stack-good h st)) ∙ p)

  curr-est : (n : DispNode) (x : EstTime) → h.disp_node_curr ≡ n → at r.train.est_times n.est_idx.0 ≡ ok x → h.est_curr ≡ x
  curr-est n x q p = ok_same (sym st.est ∙ ap (λ (m : DispNode). at r.train.est_times m.est_idx.0) q ∙ p)

  pushed_at : (b : DispNode) (j : ℕ) (m : DispNode) → at (take s.idx_split r.train.disp_path ++ (s.disp_path_new ++ (b ∷ []))) j ≡ ok m → at (stack r s ++ (b ∷ [])) j ≡ ok m
  pushed_at b j m p = ap (λ (z : List DispNode). at z j) (append_assoc (take s.idx_split r.train.disp_path) s.disp_path_new (b ∷ [])) ∙ p

  pushed_old : (b : DispNode) (i : ℕ) (d : DivergeNode) (n : DispNode) (x : EstTime) (u : Search) → stack r u ≡ stack r s ++ (b ∷ []) → depth u ≡ depth s + 1
      → 1 ≤ i → at s.div_nodes_new i ≡ ok d → d.disp_node_idx < depth s → at (stack r u) (d.disp_node_idx - 1) ≡ ok n → at r.train.est_times n.est_idx.0 ≡ ok x → TookAlt r u d.disp_node_idx x
  pushed_old b i d n x u q e l p c a f =
      let w = k.divs-good.inner i d l p in
      let old = o i d n x l p (sym (at_left (stack r s) (b ∷ []) (d.disp_node_idx - 1) (omega (arith, long))) ∙ ap (λ (z : List DispNode). at z (d.disp_node_idx - 1)) (sym q) ∙ a) f in
      record {
        above = λ m z. old.above m (sym (at_left (stack r s) (b ∷ []) d.disp_node_idx (omega (arith, long))) ∙ ap (λ (y : List DispNode). at y d.disp_node_idx) (sym q) ∙ z);
        at-end = λ z. absurd (omega arith);
      }

  assoc : (b : DispNode) → take s.idx_split r.train.disp_path ++ (s.disp_path_new ++ (b ∷ [])) ≡ stack r s ++ (b ∷ [])
  assoc b = sym (append_assoc (take s.idx_split r.train.disp_path) s.disp_path_new (b ∷ []))

  deeper : (b : DispNode) → s.idx_split + length (s.disp_path_new ++ (b ∷ [])) ≡ depth s + 1
  deeper b = omega (arith, length-append s.disp_path_new (b ∷ []))

  pub did-alt : {t : Turn} → Did r h s t → After (AltTaken r) t
  did-alt (pops w n ns q) = λ i d m x l p a f.
      let c = cut_ok h.idx_join_new s.div_nodes_new k.divs-good.sorted w.divs-is in
      let new = length s.disp_path_new in
      let some : 0 < length s.disp_path_new = omega (arith, ap (λ (y : List DispNode). length y) q) in
      let pl : length (popped s.disp_path_new) ≡ length s.disp_path_new - 1 = length-take-le (length s.disp_path_new - 1) s.disp_path_new (omega arith) in
      let cut : take (length (take s.idx_split r.train.disp_path) + (length s.disp_path_new - 1)) (stack r s) ≡ take s.idx_split r.train.disp_path ++ popped s.disp_path_new =
      take-append-add (take s.idx_split r.train.disp_path) s.disp_path_new (length s.disp_path_new - 1) in
      let lower : (j : ℕ) (y : DispNode) → at (take s.idx_split r.train.disp_path ++ popped s.disp_path_new) j ≡ ok y → at (stack r s) j ≡ ok y = λ j y z.
      (take_below (length (take s.idx_split r.train.disp_path) + (length s.disp_path_new - 1)) (stack r s) j (ap (λ (v : List DispNode). at v j) cut ∙ z)).1 in
      let old-div = (take_below c.size s.div_nodes_new i (ap (λ (y : List DivergeNode). at y i) (sym c.is) ∙ p)).1 in
      let old = o i d m x l old-div (lower (d.disp_node_idx - 1) m a) f in
      record {
        above = λ y z. old.above y (lower d.disp_node_idx y z);
        at-end = λ z.
            let top : length (stack r s) - 1 ≡ d.disp_node_idx = omega (arith, long) in
            let y = old.above h.disp_node_curr (ap (at (stack r s)) (sym top) ∙ at_last (stack r s) (stack-last links r g s k.stack-good h st)) in
            subst (λ (e : ℕ). blocked (set s.views h.disp_node_curr.est_idx.0 w.pooled.made) (record { 0 = e }) ≡ true) y
            (ap is_blocked (get_or-set_same s.views h.disp_node_curr.est_idx.0 w.pooled.made (view 0 0) (omega (arith, k.views-good.long, at-below r.train.est_times h.disp_node_curr.est_idx.0 st.est)))
            ∙ blocks-blocked w.pooled.made (rewound-good E r h s k.views-good w).made);
      }
  did-alt (shortens w q v) = λ i d m x l p a f.
      let c = cut_ok h.idx_join_new s.div_nodes_new k.divs-good.sorted w.divs-is in
      let z = ap (λ (y : List DispNode). length y) q in
      let old-div = (take_below c.size s.div_nodes_new i (ap (λ (y : List DivergeNode). at y i) (sym c.is) ∙ p)).1 in
      absurd (omega (arith, c.under i d p, (k.divs-good.inner i d l old-div).low, st.join_is))
  did-alt (gives_up w q) = tt
  did-alt (alternates ts p b n f c w off) = λ i d m x l a y z.
      let alt = alternate_node h.disp_node_curr h.est_curr.idx_next_alt in
      let v = view_of s.views h.est_curr.idx_next in
      let some : Each SomeTrain ts = view-trains s.train_idxs_blocking v.idx_begin v.idx_end k.views-good.pool (blocked-blocks v (k.views-good.each h.est_curr.idx_next.0) b).low p in
      let y₂ = pushed_at alt (d.disp_node_idx - 1) m y in ⊎_elim
      (λ (e : i < length s.div_nodes_new).
      let a₂ = sym (at_left s.div_nodes_new (diverging h.idx_join_new ts) i e) ∙ a in
      let in-div = k.divs-good.inner i d l a₂ in ⊎_elim
      (λ (t : d.disp_node_idx ≡ depth s).
      let y₃ = sym (at_left (stack r s) (alt ∷ []) (d.disp_node_idx - 1) (omega (arith, long, k.stack-good.low))) ∙ y₂ in
      let top : d.disp_node_idx - 1 ≡ length (stack r s) - 1 = omega (arith, long) in
      let same = curr-est m x (top-is m (ap (at (stack r s)) (sym top) ∙ y₃)) z in
      clash (blocked s.views h.est_curr.idx_next_alt) (ap (λ (q : EstTime). blocked s.views q.idx_next_alt) same ∙ (o i d m x l a₂ y₃ z).at-end t) f)
      (λ (t : d.disp_node_idx ≡ depth s → ⊥).
      pushed_old alt i d m x _ (assoc alt) (deeper alt) l a₂ (omega (arith, t, in-div.high)) y z)
      (same_or_not d.disp_node_idx (depth s)))
      (λ (e : length s.div_nodes_new ≤ i).
      let t = diverging-at h.idx_join_new ts some (i - length s.div_nodes_new) d (sym (at_right s.div_nodes_new (diverging h.idx_join_new ts) i e) ∙ a) in
      let y₃ = sym (at_left (stack r s) (alt ∷ []) (d.disp_node_idx - 1) (omega (arith, long, t.0, st.join_is, k.stack-good.low))) ∙ y₂ in
      let top : d.disp_node_idx - 1 ≡ length (stack r s) - 1 = omega (arith, long, t.0, st.join_is) in
      let same = curr-est m x (top-is m (ap (at (stack r s)) (sym top) ∙ y₃)) z in
      record {
        above = λ u q. ⊎_elim
            (λ v. absurd (omega (arith, v.0, long, t.0, st.join_is)))
            (λ v. ap est_of (sym v.1) ∙ ap (λ (j : EstTime). j.idx_next_alt.0) same)
            (at_push (stack r s) alt d.disp_node_idx (pushed_at alt d.disp_node_idx u q));
        at-end = λ q. absurd (omega (arith, t.0, st.join_is, deeper alt));
      })
      (below i (length s.div_nodes_new))
  did-alt (changes d b q) = tt
  did-alt (saves n m f l a w z) = λ i d y x j p c e.
      let b = saved_node n h.est_curr.idx_next in
      pushed_old b i d y x _ (assoc b) (deeper b) j p (omega (arith, joins_clear links r g s k.stack-good k.views-good k.divs-good k.divs-held h st f.unblocked i d j p, st.join_is)) c e
  did-alt (empties f l) = λ i d n x j p a e.
      let w = o i d n x j p a e in
      record { above = w.above; at-end = λ q. still_blocked s.views h.est_curr.idx_next.0 (view 1 1) x.idx_next_alt refl (w.at-end q) }
  did-alt (advances f w) = λ i d y x j p c e.
      pushed_old (advance_node h) i d y x _ (assoc (advance_node h)) (deeper (advance_node h)) j p (omega (arith, joins_clear links r g s k.stack-good k.views-good k.divs-good k.divs-held h st f.unblocked i d j p, st.join_is)) c e
  did-alt (joins d b q) = tt

  -- a change of diverge nodes finds no new diverge node
  pub change_never : s.disp_path_new ≡ [] → blocked s.views h.est_curr.idx_next_alt ≡ false → (length s.div_nodes_new ≡ 1) × (h.idx_join_new ≡ s.idx_split)
  change_never q f =
      let z = ap (λ (y : List DispNode). length y) q in
      let first = at-below s.div_nodes_new 0 k.divs-good.first in (
        ⊎_elim
            (λ (l : 1 < length s.div_nodes_new).
            let d = at_some s.div_nodes_new 1 l in
            let w = k.divs-good.inner 1 d.0 (omega arith) d.1 in
            let top : length (stack r s) - 1 ≡ d.0.disp_node_idx - 1 = omega (arith, long, w.low, w.high) in
            let t = o 1 d.0 h.disp_node_curr h.est_curr (omega arith) d.1 (ap (at (stack r s)) (sym top) ∙ at_last (stack r s) (stack-last links r g s k.stack-good h st)) st.est in
            clash (blocked s.views h.est_curr.idx_next_alt) (t.at-end (omega (arith, w.low, w.high))) f)
            (λ (l : length s.div_nodes_new ≤ 1). omega arith)
            (below 1 (length s.div_nodes_new)),
        omega (arith, st.join_is),
      )

pub looks_alt : (e : ℕ) (r : Round) (h : Here) {s u : Search} → ViewsGood e s → Looks r h s u → AltTaken r s → AltTaken r u
looks_alt e r h v (passes d a b) o = λ i x n y j p q t. let w = o i x n y j p q t in record { above = w.above; at-end = w.at-end }
looks_alt e r h {s} v (blocks d ts a b c t f some) o = λ i x n y j p q z.
    let w = o i x n y j p q z in
    record {
      above = w.above;
      at-end = λ m. still_blocked s.views h.est_curr.idx_next.0 (view (length s.train_idxs_blocking) (length s.train_idxs_blocking + length ts)) y.idx_next_alt
          (blocks-blocked {n = length s.train_idxs_blocking + length ts} (view (length s.train_idxs_blocking) (length s.train_idxs_blocking + length ts)) (record { low = v.pool.some; order = omega arith; high = omega arith })) (w.at-end m);
    }
