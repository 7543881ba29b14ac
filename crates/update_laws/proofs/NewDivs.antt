-- The new diverge nodes of the search stay sorted, between split and join, with trains. Assumes nothing.
use mathlib.Core.Path.{◌≡◌, sym, ap, subst, ◌∙◌}
use mathlib.Core.Logic.{◌⊎◌, inl, inr, ⊎_elim}
use mathlib.Core.Bool.{not}
use mathlib.Core.List.{List, [], ◌∷◌, ◌++◌}
use Prim.Native.Nat.{ℕ, zero, suc, ◌+◌, ◌-◌, ◌≤◌, ◌<◌}
use native.Mathlib.Omega.{arith}
use lib.Dec.{ltb, eqb}
use lib.ListN.{length, take, length-append, length-map, length-take}
use lib.Seq.{length-take-le}
use borrow.Author.Tests.{ltb-true, ltb-false}
use Rattle.link_rules.specs.LinkIdx.{no_train}
use Rattle.link_rules.specs.declared.link_idx.TrainIdx.{TrainIdx}
use Rattle.disp_structs.specs.declared.DispNode.{DispNode}
use Rattle.disp_structs.specs.declared.DivergeNode.{DivergeNode}
use Rattle.est_times.proofs.Counting.{two}
use Rattle.free_path.specs.Base.{ok, at, popped, walk_back}
use Rattle.update_definition.specs.State.{Round, Search, Turn, view_of, diverging}
use Rattle.update_definition.specs.Look.{Here}
use Rattle.update_definition.specs.Moves.{alternate_node, saved_node, advance_node, rewind_divs}
use Rattle.update_definition.specs.Accepted.{Each, Sorted}
use Rattle.update_laws.specs.Turns.{SomeTrain, Stands, Looks, Rewound, Did, After}
use Rattle.update_laws.specs.Turns.Looks.{passes, blocks}
use Rattle.update_laws.specs.Turns.Did.{pops, shortens, gives_up, alternates, changes, saves, empties, advances, joins}
use Rattle.update_laws.specs.Good.{NewDivGood, NewDivsGood, ViewsGood}
use Rattle.update_laws.proofs.Answers.{ok_same, bind_ok, need-ok}
use Rattle.update_laws.proofs.Lists.{at-below, at_some, at_left, at_right, at_take, at_map, at_last, take_below, chain-append, chain-take}
use Rattle.update_laws.proofs.Pools.{view-trains}
use Rattle.update_laws.proofs.Views.{blocked-blocks}

-- below or not
pub below : (a b : ℕ) → (a < b) ⊎ (b ≤ a)
below a b = ⊎_elim (λ c. inl (ltb-true a b c)) (λ c. inr (ltb-false a b c)) (two (ltb a b))

-- sorted: an earlier node is not above a later one
pub sorted_le : (divs : List DivergeNode) → Sorted divs → (i k : ℕ) (a b : DivergeNode) → at divs i ≡ ok a → at divs (i + k) ≡ ok b → a.disp_node_idx ≤ b.disp_node_idx
sorted_le divs c i zero a b p q =
    let z : i + 0 ≡ i = omega arith in
    let y : a.disp_node_idx ≡ b.disp_node_idx = ap (λ (d : DivergeNode). d.disp_node_idx) (ok_same (sym p ∙ ap (at divs) (sym z) ∙ q)) in
    omega arith
sorted_le divs c i (suc k) a b p q =
    let z : i + suc k ≡ suc (i + k) = omega arith in
    let m = at-below divs (i + suc k) q in
    let x = at_some divs (i + k) (omega arith) in
    let f = c (i + k) x.0 b x.1 (ap (at divs) (sym z) ∙ q) in
    omega (arith, f, sorted_le divs c i k a x.0 p x.1)

pub sorted_upto : (divs : List DivergeNode) → Sorted divs → (i j : ℕ) (a b : DivergeNode) → i ≤ j → at divs i ≡ ok a → at divs j ≡ ok b → a.disp_node_idx ≤ b.disp_node_idx
sorted_upto divs c i j a b l p q = let z : i + (j - i) ≡ j = omega arith in sorted_le divs c i (j - i) a b p (ap (at divs) z ∙ q)

-- trains that diverge at one node
pub diverging-at : (node : ℕ) (ts : List TrainIdx) → Each SomeTrain ts → (i : ℕ) (d : DivergeNode) → at (diverging node ts) i ≡ ok d → (d.disp_node_idx ≡ node) × SomeTrain d.train_idx
unfolding diverging
diverging-at node ts e i d h =
    let x = at_map {B = DivergeNode} (λ (t : TrainIdx). record { train_idx = t; disp_node_idx = node }) ts i h in
    (sym (ap (λ (y : DivergeNode). y.disp_node_idx) x.2), subst (λ (y : DivergeNode). SomeTrain y.train_idx) x.2 (e i x.0 x.1))

pub diverging-sorted : (node : ℕ) (ts : List TrainIdx) → Each SomeTrain ts → Sorted (diverging node ts)
diverging-sorted node ts e i a b p q = omega (arith, (diverging-at node ts e i a p).0, (diverging-at node ts e (suc i) b q).0)

pub diverging-length : (node : ℕ) (ts : List TrainIdx) → length (diverging node ts) ≡ length ts
unfolding diverging
diverging-length node ts = length-map {B = DivergeNode} ts (λ (t : TrainIdx). record { train_idx = t; disp_node_idx = node })

-- a Rewind keeps the first of them
pub cut_is : (join : ℕ) (divs : List DivergeNode) {cut : List DivergeNode} → rewind_divs join divs ≡ ok cut → (n : ℕ) × (cut ≡ take n divs)
unfolding rewind_divs
cut_is join divs h =
    let k = bind_ok (walk_back (λ (d : DivergeNode). not (eqb d.disp_node_idx join)) divs (length divs)) h in
    let d = bind_ok (at divs k.0) k.2 in
    let n = need-ok (ltb d.0.disp_node_idx join) d.2 in
    (k.0 + 1, sym (ok_same n.1))

-- what stays of them below a node
pub record Cut (join : ℕ) (divs cut : List DivergeNode) : Type 0 where
  pub size : ℕ
  pub some : 1 ≤ size
  pub is : cut ≡ take size divs
  pub under : (i : ℕ) (d : DivergeNode) → at cut i ≡ ok d → d.disp_node_idx < join

pub cut_ok : (join : ℕ) (divs : List DivergeNode) {cut : List DivergeNode} → Sorted divs → rewind_divs join divs ≡ ok cut → Cut join divs cut
unfolding rewind_divs
cut_ok join divs c h =
    let k = bind_ok (walk_back (λ (d : DivergeNode). not (eqb d.disp_node_idx join)) divs (length divs)) h in
    let d = bind_ok (at divs k.0) k.2 in
    let n = need-ok (ltb d.0.disp_node_idx join) d.2 in
    let u = ltb-true d.0.disp_node_idx join n.0 in
    record {
      size = k.0 + 1;
      some = omega arith;
      is = sym (ok_same n.1);
      under = λ i x p.
          let w = take_below (k.0 + 1) divs i (ap (λ (y : List DivergeNode). at y i) (ok_same n.1) ∙ p) in
          omega (arith, sorted_upto divs c i k.0 x d.0 (omega (arith, w.0)) w.1 d.1);
    }

module _ (r : Round) (s : Search) (k : NewDivsGood r s) (h : Here) (st : Stands r s h) where
  cut_good : (w : Rewound r h s) (split new : ℕ) → split ≤ s.idx_split → h.idx_join_new ≤ split + new + 1
      → (at w.divs 0 ≡ ok (record { train_idx = no_train; disp_node_idx = 0 })) × (length w.divs ≤ r.train.diverge_room) × Sorted w.divs
      × ((i : ℕ) (d : DivergeNode) → 1 ≤ i → at w.divs i ≡ ok d → NewDivGood split (split + new) d)
  cut_good w split new l m =
      let c = cut_ok h.idx_join_new s.div_nodes_new k.sorted w.divs-is in
      let eq : w.divs ≡ take c.size s.div_nodes_new = c.is in (
        ap (λ (y : List DivergeNode). at y 0) eq ∙ at_take c.size s.div_nodes_new 0 (omega (arith, c.some)) ∙ k.first,
        omega (arith, ap (λ (y : List DivergeNode). length y) eq, length-take c.size s.div_nodes_new, k.few),
        subst (λ (y : List DivergeNode). Sorted y) (sym eq) (chain-take (λ (a b : DivergeNode). a.disp_node_idx ≤ b.disp_node_idx) c.size s.div_nodes_new k.sorted),
        λ i d u p.
            let q = take_below c.size s.div_nodes_new i (ap (λ (y : List DivergeNode). at y i) (sym eq) ∙ p) in
            let n = k.inner i d u q.1 in
            record { low = omega (arith, n.low); high = omega (arith, c.under i d p); train = n.train },
      )

  -- a longer new path
  longer : (new : List DispNode) → length s.disp_path_new ≤ length new → (i : ℕ) (d : DivergeNode) → 1 ≤ i → at s.div_nodes_new i ≡ ok d → NewDivGood s.idx_split (s.idx_split + length new) d
  longer new l i d u p = let n = k.inner i d u p in record { low = n.low; high = omega (arith, n.high); train = n.train }

  grows : (b : DispNode) → length s.disp_path_new ≤ length (s.disp_path_new ++ (b ∷ []))
  grows b = omega (arith, length-append s.disp_path_new (b ∷ []))

  -- trains that diverge at the join
  module _ (e : ℕ) (v : ViewsGood e s) where
    pub did-divs : {t : Turn} → Did r h s t → After (NewDivsGood r) t
    did-divs (pops w n ns q) =
        let a : 0 < length s.disp_path_new = omega (arith, ap (λ (x : List DispNode). length x) q) in
        let b : length (popped s.disp_path_new) ≡ length s.disp_path_new - 1 = length-take-le (length s.disp_path_new - 1) s.disp_path_new (omega arith) in
        let c = cut_good w s.idx_split (length (popped s.disp_path_new)) (omega arith) (omega (arith, st.join_is)) in
        record { first = c.0; few = c.1; sorted = c.2; inner = c.3 }
    did-divs (shortens w q l) =
        let b = ap (λ (x : List DispNode). length x) q in
        let c = cut_good w (s.idx_split - 1) (length s.disp_path_new) (omega arith) (omega (arith, st.join_is)) in
        record { first = c.0; few = c.1; sorted = c.2; inner = c.3 }
    did-divs (gives_up w q) = tt
    did-divs (alternates ts p b n f c w off) =
        let x = alternate_node h.disp_node_curr h.est_curr.idx_next_alt in
        let ds = diverging h.idx_join_new ts in
        let y = view_of s.views h.est_curr.idx_next in
        let some : Each SomeTrain ts = view-trains s.train_idxs_blocking y.idx_begin y.idx_end v.pool (blocked-blocks y (v.each h.est_curr.idx_next.0) b).low p in
        let long = at-below s.div_nodes_new 0 k.first in
        record {
          first = at_left s.div_nodes_new ds 0 long ∙ k.first;
          few = omega (arith, length-append s.div_nodes_new ds, diverging-length h.idx_join_new ts);
          sorted = chain-append (λ (a b : DivergeNode). a.disp_node_idx ≤ b.disp_node_idx) s.div_nodes_new ds k.sorted (diverging-sorted h.idx_join_new ts some)
              (λ a d i j. omega (arith, last-low a (length s.div_nodes_new - 1) (at_last s.div_nodes_new i), (diverging-at h.idx_join_new ts some 0 d j).0));
          inner = λ i d u q. ⊎_elim
              (λ m. longer (s.disp_path_new ++ (x ∷ [])) (grows x) i d u (sym (at_left s.div_nodes_new ds i m) ∙ q))
              (λ m.
              let z = diverging-at h.idx_join_new ts some (i - length s.div_nodes_new) d (sym (at_right s.div_nodes_new ds i m) ∙ q) in
              record { low = omega (arith, z.0, st.join_is); high = omega (arith, z.0, st.join_is, grows x); train = z.1 })
              (below i (length s.div_nodes_new));
        }
      where
        last-low : (a : DivergeNode) (i : ℕ) → at s.div_nodes_new i ≡ ok a → a.disp_node_idx ≤ h.idx_join_new
        last-low a zero p = let z : a.disp_node_idx ≡ 0 = ap (λ (d : DivergeNode). d.disp_node_idx) (ok_same (sym p ∙ k.first)) in omega arith
        last-low a (suc i) p = omega (arith, (k.inner (suc i) a (omega arith) p).high, st.join_is)
    did-divs (changes d b q) = tt
    did-divs (saves n m f l a w z) = record { first = k.first; few = k.few; sorted = k.sorted; inner = longer (s.disp_path_new ++ (saved_node n h.est_curr.idx_next ∷ [])) (grows (saved_node n h.est_curr.idx_next)) }
    did-divs (empties f l) = record { first = k.first; few = k.few; sorted = k.sorted; inner = k.inner }
    did-divs (advances f w) = record { first = k.first; few = k.few; sorted = k.sorted; inner = longer (s.disp_path_new ++ (advance_node h ∷ [])) (grows (advance_node h)) }
    did-divs (joins d b q) = tt

-- a look has no new diverge node
pub looks_divs : (r : Round) (h : Here) {s u : Search} → Looks r h s u → NewDivsGood r s → NewDivsGood r u
looks_divs r h (passes d a b) k = record { first = k.first; few = k.few; sorted = k.sorted; inner = k.inner }
looks_divs r h (blocks d ts a b c t f some) k = record { first = k.first; few = k.few; sorted = k.sorted; inner = k.inner }
