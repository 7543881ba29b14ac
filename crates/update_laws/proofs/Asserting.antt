-- A turn keeps what the asserts of the search loop rest on. Assumes nothing.
use mathlib.Core.Path.{◌≡◌, refl, sym, ap, subst, ◌∙◌}
use mathlib.Core.Logic.{◌⊎◌, inl, inr, ⊎_elim}
use mathlib.Core.Bool.{true, cond, not}
use mathlib.Core.List.{List, map}
use Prim.Native.Nat.{ℕ, zero, suc, ◌+◌, ◌-◌, ◌≤◌, ◌<◌}
use native.Mathlib.Omega.{arith}
use lib.Dec.{ltb, eqb}
use lib.ListN.{length, set}
use lib.Seq.{get_or-set_same}
use borrow.Author.Tests.{ltb-true, eqb-true}
use Rattle.link_rules.specs.declared.link_idx.TrainIdx.{TrainIdx}
use Rattle.disp_structs.specs.Values.{view, is_blocked, same_est, no_est}
use Rattle.disp_structs.specs.declared.DispNode.{DispNode}
use Rattle.disp_structs.specs.declared.DivergeNode.{DivergeNode}
use Rattle.est_times.proofs.Counting.{same_or_not}
use Rattle.free_path.specs.Base.{ok, at, before, slice}
use Rattle.update_definition.specs.State.{Round, Search, Turn, go_on, blocked, push_trains}
use Rattle.free_path.specs.Validate.{on_path}
use Rattle.update_definition.specs.Look.{Here, current, Stored, stored_from, block_stored, take_stored, stored_trains, block_by}
use Rattle.update_definition.specs.Update.{search_step}
use Rattle.update_definition.specs.Accepted.{Accepted}
use Rattle.update_laws.specs.Turns.{Stands, Looks, Rewound, Did, After}
use Rattle.update_laws.specs.Turns.Looks.{passes, blocks}
use Rattle.update_laws.specs.Turns.Did.{pops, shortens, gives_up, alternates, changes, saves, empties, advances, joins}
use Rattle.update_laws.specs.Good.{Good, ViewsGood}
use Rattle.update_laws.specs.Asserts.{DivStrict, PassedBlocked, Asserts}
use Rattle.update_laws.proofs.Answers.{no_ok, ok_same, bind_ok, need-ok, cond_cases, before-ok}
use Rattle.update_laws.proofs.Lists.{at-below}
use Rattle.update_laws.proofs.Turning.{step_ok}
use Rattle.update_laws.proofs.Views.{blocks-blocked, rewound-good, looks_views}
use Rattle.update_laws.proofs.Held.{still_blocked}
use Rattle.update_laws.proofs.Alternates.{did-alt, looks_alt}
use Rattle.update_laws.proofs.GoodTurns.{looked-good, looked-stands}

-- ---- div_idx_split

-- the walk down ends where it began, or at a diverge node of the join
stored_at : (divs : List DivergeNode) (join : ℕ) (moved : TrainIdx) (n : ℕ) (x : Stored) → stored_from divs join moved n ≡ ok x → (x.div_idx_split ≡ n) ⊎ ((d : DivergeNode) × (at divs x.div_idx_split ≡ ok d) × (d.disp_node_idx ≡ join))
unfolding stored_from
stored_at divs join moved zero x h = no_ok h
stored_at divs join moved (suc k) x h =
    let v = bind_ok (at divs k) h in ⊎_elim
    (λ w.
    let y = bind_ok (stored_from divs join moved k) w.1 in
    let q : y.0.div_idx_split ≡ x.div_idx_split = ap (λ (z : Stored). z.div_idx_split) (ok_same y.2) in ⊎_elim
    (λ (e : y.0.div_idx_split ≡ k). inr (v.0, ap (at divs) (sym q ∙ e) ∙ v.1, eqb-true v.0.disp_node_idx join w.0))
    (λ (e : (d : DivergeNode) × (at divs y.0.div_idx_split ≡ ok d) × (d.disp_node_idx ≡ join)). inr (e.0, ap (at divs) (sym q) ∙ e.1, e.2))
    (stored_at divs join moved k y.0 y.1))
    (λ w. inl (sym (ap (λ (z : Stored). z.div_idx_split) (ok_same w.1))))
    (cond_cases (eqb v.0.disp_node_idx join) v.2)

module _ (r : Round) (h : Here) (s : Search) where
  abbrev Down : Search → Type 0
  Down u = (u.div_idx_split ≡ s.div_idx_split) ⊎ ((d : DivergeNode) × (at r.train.div_nodes u.div_idx_split ≡ ok d) × (d.disp_node_idx ≡ h.idx_join_new))

  taken_down : {u : Search} → take_stored r h s ≡ ok u → Down u
  unfolding take_stored block_stored block_by
  taken_down {u} q =
      let a = need-ok (not (same_est h.est_curr.idx_next_alt no_est)) q in
      let b = need-ok (on_path r.train.disp_path h.est_curr.idx_next_alt) a.1 in
      let c = need-ok (not (blocked s.views h.est_curr.idx_next)) b.1 in
      let x = bind_ok (stored_from r.train.div_nodes h.idx_join_new r.train_idx_moved s.div_idx_split) c.1 in
      let i = stored_at r.train.div_nodes h.idx_join_new r.train_idx_moved s.div_idx_split x.0 x.1 in ⊎_elim
      (λ w. move x.0 i (ap (λ (z : Search). z.div_idx_split) (ok_same w.1)))
      (λ w.
      let e = need-ok (blocked s.views h.est_curr.idx_next_alt) w.1 in
      let d = bind_ok (slice r.train.div_nodes x.0.div_idx_split s.div_idx_split) e.1 in
      let p = bind_ok (push_trains s.train_idxs_blocking (map (λ (y : DivergeNode). y.train_idx) d.0)) d.2 in
      move x.0 i (ap (λ (z : Search). z.div_idx_split) (ok_same p.2)))
      (cond_cases x.0.met x.2)
    where
      move : (x : Stored) → (x.div_idx_split ≡ s.div_idx_split) ⊎ ((d : DivergeNode) × (at r.train.div_nodes x.div_idx_split ≡ ok d) × (d.disp_node_idx ≡ h.idx_join_new)) → x.div_idx_split ≡ u.div_idx_split → Down u
      move x (inl e) q = inl (sym q ∙ e)
      move x (inr e) q = inr (e.0, ap (at r.train.div_nodes) (sym q) ∙ e.1, e.2)

  stored-strict : {u : Search} → DivStrict r s → stored_trains r h s ≡ ok u → DivStrict r u
  unfolding stored_trains
  stored-strict {u} k q =
      let d = bind_ok (before r.train.div_nodes s.div_idx_split) q in
      let t = bind_ok (cond (eqb d.0.disp_node_idx h.idx_join_new) (take_stored r h s) (ok s)) d.2 in
      let b = bind_ok (before r.train.div_nodes t.0.div_idx_split) t.2 in
      let n = need-ok (ltb b.0.disp_node_idx h.idx_join_new) b.2 in
      let l = ltb-true b.0.disp_node_idx h.idx_join_new n.0 in
      let down : Down t.0 = ⊎_elim (λ w. taken_down w.1) (λ w. inl (ap (λ (z : Search). z.div_idx_split) (sym (ok_same w.1)))) (cond_cases (eqb d.0.disp_node_idx h.idx_join_new) t.1) in
      subst (λ (y : Search). DivStrict r y) (ok_same n.1) (λ x y p o. ⊎_elim
      (λ e. k x y (ap (λ (i : ℕ). before r.train.div_nodes i) (sym e) ∙ p) (ap (at r.train.div_nodes) (sym e) ∙ o))
      (λ e.
      let same : e.0.disp_node_idx ≡ y.disp_node_idx = ap (λ (z : DivergeNode). z.disp_node_idx) (ok_same (sym e.1 ∙ o)) in
      let low : b.0.disp_node_idx ≡ x.disp_node_idx = ap (λ (z : DivergeNode). z.disp_node_idx) (ok_same (sym b.1 ∙ p)) in
      omega (arith, e.2, l))
      down)

-- a move leaves it
did-strict : (r : Round) (h : Here) (s : Search) {t : Turn} → DivStrict r s → Did r h s t → After (DivStrict r) t
did-strict r h s k (pops w n ns q) = k
did-strict r h s k (shortens w q l) = k
did-strict r h s k (gives_up w q) = tt
did-strict r h s k (alternates ts p b n f c w off) = k
did-strict r h s k (changes d b q) = tt
did-strict r h s k (saves n m f l a w z) = k
did-strict r h s k (empties f l) = k
did-strict r h s k (advances f w) = k
did-strict r h s k (joins d b q) = tt

-- ---- rewound nodes

looks_passed : (e : ℕ) (r : Round) (h : Here) {s u : Search} → ViewsGood e s → Looks r h s u → PassedBlocked r s → PassedBlocked r u
looks_passed e r h v (passes d a b) k = k
looks_passed e r h {s} v (blocks d ts a b c t f some) k = λ i n l m p.
    still_blocked s.views h.est_curr.idx_next.0 (view (length s.train_idxs_blocking) (length s.train_idxs_blocking + length ts)) n.est_idx
    (blocks-blocked {n = length s.train_idxs_blocking + length ts} (view (length s.train_idxs_blocking) (length s.train_idxs_blocking + length ts)) (record { low = v.pool.some; order = omega arith; high = omega arith }))
    (k i n l m p)

module _ (e : ℕ) (r : Round) (h : Here) (s : Search) (v : ViewsGood e s) (st : Stands r s h) (in-ests : h.disp_node_curr.est_idx.0 < e) (k : PassedBlocked r s) where
  more_passed : (w : Rewound r h s) → PassedBlocked r s → (i : ℕ) (n : DispNode) → s.idx_split ≤ i → i < r.idx_split_save → at r.train.disp_path i ≡ ok n → blocked (set s.views h.disp_node_curr.est_idx.0 w.pooled.made) n.est_idx ≡ true
  more_passed w k i n l m p = still_blocked s.views h.disp_node_curr.est_idx.0 w.pooled.made n.est_idx (blocks-blocked w.pooled.made (rewound-good e r h s v w).made) (k i n l m p)

  did-passed : {t : Turn} → Did r h s t → After (PassedBlocked r) t
  did-passed (pops w n ns q) = more_passed w k
  did-passed (shortens w q l) = λ i n a b p. ⊎_elim
      (λ (z : i ≡ s.idx_split - 1).
      let c = before-ok r.train.disp_path s.idx_split (subst (λ (ns : List DispNode). current r.train.disp_path ns s.idx_split ≡ ok h.disp_node_curr) q st.curr) in
      let same : h.disp_node_curr ≡ n = ok_same (sym c.1 ∙ ap (at r.train.disp_path) (sym z) ∙ p) in
      subst (λ (m : DispNode). blocked (set s.views h.disp_node_curr.est_idx.0 w.pooled.made) m.est_idx ≡ true) same
      (ap is_blocked (get_or-set_same s.views h.disp_node_curr.est_idx.0 w.pooled.made (view 0 0) (omega (arith, v.long))) ∙ blocks-blocked w.pooled.made (rewound-good e r h s v w).made))
      (λ (z : i ≡ s.idx_split - 1 → ⊥). more_passed w k i n (omega (arith, z)) b p)
      (same_or_not i (s.idx_split - 1))
  did-passed (gives_up w q) = tt
  did-passed (alternates ts p b n f c w off) = k
  did-passed (changes d b q) = tt
  did-passed (saves n m f l a w z) = k
  did-passed (empties f l) = λ i n a b p. still_blocked s.views h.est_curr.idx_next.0 (view 1 1) n.est_idx refl (k i n a b p)
  did-passed (advances f w) = k
  did-passed (joins d b q) = tt

-- ---- idx_split does not rise

looks_split : (r : Round) (h : Here) {s u : Search} → Looks r h s u → u.idx_split ≡ s.idx_split
looks_split r h (passes d a b) = refl
looks_split r h (blocks d ts a b c t f some) = refl

did-split : (r : Round) (h : Here) (s : Search) {t : Turn} → Did r h s t → After (λ u. u.idx_split ≤ s.idx_split) t
did-split r h s (pops w n ns q) = omega arith
did-split r h s (shortens w q l) = omega arith
did-split r h s (gives_up w q) = tt
did-split r h s (alternates ts p b n f c w off) = omega arith
did-split r h s (changes d b q) = tt
did-split r h s (saves n m f l a w z) = omega arith
did-split r h s (empties f l) = omega arith
did-split r h s (advances f w) = omega arith
did-split r h s (joins d b q) = tt

-- ---- a turn

pub step_asserts : (links : ℕ) (r : Round) (g : Accepted links r.train) (s u : Search) → Good links r s → Asserts r s → search_step r s ≡ ok (go_on u) → Asserts r u
step_asserts links r g s u k a q =
    let w = step_ok r s g.divs q in
    let j = looked-good links r g s k w in
    let st = looked-stands links r g s k w in
    let e = length r.train.est_times in
    let str : DivStrict r w.looked = λ x y p o. stored-strict r w.here s a.strict w.stored_is x y (ap (λ (i : ℕ). before r.train.div_nodes i) (sym w.same_div) ∙ p) (ap (at r.train.div_nodes) (sym w.same_div) ∙ o) in
    let pas : PassedBlocked r w.looked = looks_passed e r w.here (looks_views e r w.here w.stored k.views-good) w.occupied (looks_passed e r w.here k.views-good w.stored a.passed) in
    record {
      strict = did-strict r w.here w.looked str w.did;
      passed = did-passed e r w.here w.looked j.views-good st (at-below r.train.est_times w.here.disp_node_curr.est_idx.0 st.est) pas w.did;
      alt-taken = did-alt links r g w.looked j (looks_alt e r w.here (looks_views e r w.here w.stored k.views-good) w.occupied (looks_alt e r w.here k.views-good w.stored a.alt-taken)) w.here st w.did;
      split-save = omega (arith, did-split r w.here w.looked w.did, looks_split r w.here w.stored, looks_split r w.here w.occupied, a.split-save);
    }
