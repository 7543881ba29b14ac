-- A turn of the search that is no refusal is one of the moves of Turns. Assumes nothing.
use mathlib.Core.Path.{◌≡◌, refl, sym, ap, ap₂, subst, ◌∙◌}
use mathlib.Core.Logic.{◌⊎◌, inl, inr, ⊎_elim}
use mathlib.Core.Bool.{Bool, true, false, cond, not, ◌&&◌, ◌||◌}
use mathlib.Core.List.{List, [], ◌∷◌, ◌++◌, map}
use Prim.Native.Nat.{ℕ, zero, suc, ◌+◌, ◌-◌, ◌≤◌, ◌<◌}
use native.Mathlib.Omega.{arith}
use lib.Dec.{leb, ltb, eqb}
use lib.Ieee.{lt}
use lib.ListN.{length, take, drop, length-map}
use borrow.Author.Tests.{leb-true, ltb-true, eqb-true, eqb-false, not-true}
use Rattle.link_rules.specs.LinkIdx.{same_train, no_train, entry_at, occupied}
use Rattle.link_rules.specs.declared.link_idx.TrainIdx.{TrainIdx}
use Rattle.disp_structs.specs.Values.{same_est, no_est, is_arrive, same_event, within, view, near, plus}
use Rattle.disp_structs.specs.declared.DispNode.{DispNode}
use Rattle.disp_structs.specs.declared.DivergeNode.{DivergeNode}
use Rattle.free_path.proofs.CountLaws.{length_part}
use Rattle.free_path.specs.Base.{Res, ok, no, room, at, before, is_empty, part, slice, walk_from, walk_back}
use Rattle.free_path.specs.LinkOptType.{least}
use Rattle.free_path.specs.TrainIdxsView.{pool_room}
use Rattle.update_definition.specs.State.{Round, Search, Turn, go_on, ends, Ended, set_div_split, set_save, set_free, set_new, set_divs_new, set_pool, set_view, view_of, blocked, push_trains, push_node, push_divs, diverging}
use Rattle.free_path.specs.Validate.{on_path}
use Rattle.update_definition.specs.Look.{Here, current, look_from, look_here, block_by, Stored, stored_from, block_stored, take_stored, stored_trains, meets_train, occupied_next, move_of, saved_matches, move_from}
use Rattle.update_definition.specs.Moves.{not_fake, trains_of, shift_save, shifts, rewind_view, holder_of, rewind_divs, one_back, rewind, alternate, alternate_free, alternate_node, change_diverge, push_saved, saved_free, saved_node, block_empty, advance, advance_node}
use Rattle.update_definition.specs.Join.{join, splice_at, offset_change, free_is_correct, update_free_path_helpers, update_div_nodes}
use Rattle.update_definition.specs.Update.{search_step, do_move}
use Rattle.update_definition.specs.Accepted.{Each, DivsAccepted}
use Rattle.update_definition.specs.declared.Move.{Move}
use Rattle.update_definition.specs.declared.Move.TheVariants.{Rewind, Alternate, ChangeDiverge, PushSaved, BlockEmpty, Advance, Join}
use Rattle.update_laws.specs.Turns.{SomeTrain, Met, Stands, Looks, Stuck, Rewound, rewound, Free, Did, Turned}
use Rattle.update_laws.specs.Turns.Looks.{passes, blocks}
use Rattle.update_laws.specs.Turns.Did.{pops, shortens, gives_up, alternates, changes, saves, empties, advances, joins}
use Rattle.update_laws.proofs.Answers.{no_ok, ok_same, bind_ok, then_ok, need-ok, room-ok, cond_cases, before-ok, slice-ok}
use Rattle.update_laws.proofs.Lists.{at-below, each-one, at_map, at_drop, take_below, walk_ok}

-- ---- tests
pub and-true : (s t : Bool) → (s && t) ≡ true → (s ≡ true) × (t ≡ true)
and-true true true q = (refl, refl)
and-true true false q = let z : ◌≡◌ {A = ℕ} 0 1 = cc in absurd (omega arith)
and-true false t q = let z : ◌≡◌ {A = ℕ} 0 1 = cc in absurd (omega arith)

pub or-false : (s t : Bool) → (s || t) ≡ false → (s ≡ false) × (t ≡ false)
or-false false false q = (refl, refl)
or-false false true q = let z : ◌≡◌ {A = ℕ} 0 1 = cc in absurd (omega arith)
or-false true t q = let z : ◌≡◌ {A = ℕ} 0 1 = cc in absurd (omega arith)

pub or-true : (s t : Bool) → (s || t) ≡ true → (s ≡ true) ⊎ (t ≡ true)
or-true true t q = inl refl
or-true false t q = inr q

-- ---- where the search stands
pub record Seen (r : Round) (s : Search) (h : Here) : Type 0 where
  pub stands : Stands r s h
  pub unblocked : blocked s.views h.disp_node_curr.est_idx ≡ false
  pub div_in : s.div_idx_split < length r.train.div_nodes

pub look-ok : (r : Round) (s : Search) (h : Here) → look_here r s ≡ ok h → Seen r s h
unfolding look_from
look-ok r s h q =
    let c = bind_ok (current r.train.disp_path s.disp_path_new s.idx_split) q in
    let n = c.0 in
    let e = bind_ok (at r.train.est_times n.est_idx.0) c.2 in
    let b = need-ok (not (blocked s.views n.est_idx)) e.2 in
    let z = need-ok (not (same_est e.0.idx_next no_est)) b.1 in
    let x = bind_ok (at r.train.est_times e.0.idx_next.0) z.1 in
    let u = bind_ok (before r.train.div_nodes s.div_idx_split) x.2 in
    let v = bind_ok (at r.train.div_nodes s.div_idx_split) u.2 in
    let w = need-ok (ltb u.0.disp_node_idx v.0.disp_node_idx) v.2 in
    subst (λ (x : Here). Seen r s x) (ok_same w.1) (record {
      stands = record {
        curr = c.1;
        est = e.1;
        some = eqb-false e.0.idx_next.0 0 (not-true (same_est e.0.idx_next no_est) z.0);
        next = x.1;
        join_is = refl;
      };
      unblocked = not-true (blocked s.views n.est_idx) b.0;
      div_in = at-below r.train.div_nodes s.div_idx_split v.1;
    })

-- ---- the two looks at the next est

pub stored-from : (divs : List DivergeNode) (join : ℕ) (moved : TrainIdx) (n : ℕ) {x : Stored} → stored_from divs join moved n ≡ ok x → (1 ≤ x.div_idx_split) × (x.div_idx_split ≤ n)
unfolding stored_from
stored-from divs join moved zero h = no_ok h
stored-from divs join moved (suc k) {x} h =
    let v = bind_ok (at divs k) h in ⊎_elim
    (λ w.
    let y = bind_ok (stored_from divs join moved k) w.1 in
    let i = stored-from divs join moved k {x = y.0} y.1 in
    let q : y.0.div_idx_split ≡ x.div_idx_split = ap (λ (z : Stored). z.div_idx_split) (ok_same y.2) in
    (omega arith, omega arith))
    (λ w. let q : suc k ≡ x.div_idx_split = ap (λ (z : Stored). z.div_idx_split) (ok_same w.1) in (omega arith, omega arith))
    (cond_cases (eqb v.0.disp_node_idx join) v.2)

-- the walk goes back at least past a node at the join
stored_less : (divs : List DivergeNode) (join : ℕ) (moved : TrainIdx) (n : ℕ) (d : DivergeNode) {x : Stored} → before divs n ≡ ok d → d.disp_node_idx ≡ join → stored_from divs join moved n ≡ ok x → x.div_idx_split < n
unfolding stored_from
stored_less divs join moved zero d b e h = no_ok h
stored_less divs join moved (suc k) d {x} b e h =
    let v = bind_ok (at divs k) h in
    let same : v.0.disp_node_idx ≡ join = ap (λ (y : DivergeNode). y.disp_node_idx) (ok_same (sym v.1 ∙ b)) ∙ e in ⊎_elim
    (λ w.
    let y = bind_ok (stored_from divs join moved k) w.1 in
    let i = stored-from divs join moved k {x = y.0} y.1 in
    let q : y.0.div_idx_split ≡ x.div_idx_split = ap (λ (z : Stored). z.div_idx_split) (ok_same y.2) in
    omega arith)
    (λ w. absurd (eqb-false v.0.disp_node_idx join w.0 same))
    (cond_cases (eqb v.0.disp_node_idx join) v.2)

block-by : (r : Round) (h : Here) (s : Search) (d : ℕ) (ts : List TrainIdx) {u : Search} → 1 ≤ d → d ≤ s.div_idx_split → blocked s.views h.est_curr.idx_next ≡ false → Each (Met r) ts → 1 ≤ length ts
    → block_by (set_div_split s d) h.est_curr.idx_next ts ≡ ok u → Looks r h s u
unfolding block_by push_trains
block-by r h s d ts {u} l m b e some q =
    let c = bind_ok (push_trains s.train_idxs_blocking ts) q in
    let o = room-ok (leb (length s.train_idxs_blocking + length ts) pool_room) c.1 in
    let v = view (length s.train_idxs_blocking) (length s.train_idxs_blocking + length ts) in
    subst (λ (x : Search). Looks r h s x) (ap (λ p. set_pool (set_view (set_div_split s d) h.est_curr.idx_next v) p) (ok_same o.1) ∙ ok_same c.2)
    (blocks d ts l m b e (leb-true (length s.train_idxs_blocking + length ts) pool_room o.0) some)

-- the trains of inner diverge nodes
inner-trains : (r : Round) (n room : ℕ) → DivsAccepted n room r.train.div_nodes → (b e : ℕ) → 1 ≤ b → e < length r.train.div_nodes → Each (Met r) (map (λ (d : DivergeNode). d.train_idx) (part b e r.train.div_nodes))
inner-trains r n room g b e l m i t h =
    let divs = r.train.div_nodes in
    let y = at_map (λ (d : DivergeNode). d.train_idx) (part b e divs) i h in
    let x = take_below (e - b) (drop b divs) i y.1 in
    let w = g.inner (b + i) y.0 (omega arith) (omega (arith, x.0)) (sym (at_drop b divs i) ∙ x.1) in
    record { some = λ q. w.train (ap (λ (z : TrainIdx). z.0) y.2 ∙ q); from = inl (b + i, y.0, sym (at_drop b divs i) ∙ x.1, y.2) }

module _ (r : Round) (h : Here) where
  take-stored : (s : Search) {u : Search} → DivsAccepted (length r.train.disp_path) r.train.diverge_room r.train.div_nodes → s.div_idx_split < length r.train.div_nodes
      → (x : DivergeNode) → before r.train.div_nodes s.div_idx_split ≡ ok x → x.disp_node_idx ≡ h.idx_join_new → take_stored r h s ≡ ok u → Looks r h s u
  unfolding take_stored block_stored
  take-stored s {u} g m n at_n join-n q =
      let a = need-ok (not (same_est h.est_curr.idx_next_alt no_est)) q in
      let b = need-ok (on_path r.train.disp_path h.est_curr.idx_next_alt) a.1 in
      let c = need-ok (not (blocked s.views h.est_curr.idx_next)) b.1 in
      let x = bind_ok (stored_from r.train.div_nodes h.idx_join_new r.train_idx_moved s.div_idx_split) c.1 in
      let i = stored-from r.train.div_nodes h.idx_join_new r.train_idx_moved s.div_idx_split {x = x.0} x.1 in ⊎_elim
      (λ w. subst (λ (z : Search). Looks r h s z) (ok_same w.1) (passes x.0.div_idx_split i.0 i.1))
      (λ w.
      let e = need-ok (blocked s.views h.est_curr.idx_next_alt) w.1 in
      let d = bind_ok (slice r.train.div_nodes x.0.div_idx_split s.div_idx_split) e.1 in
      let p = slice-ok r.train.div_nodes x.0.div_idx_split s.div_idx_split d.1 in
      let t : Each (Met r) (map (λ (y : DivergeNode). y.train_idx) d.0) = subst (λ (y : List DivergeNode). Each (Met r) (map (λ (z : DivergeNode). z.train_idx) y)) p.2 (inner-trains r (length r.train.disp_path) r.train.diverge_room g x.0.div_idx_split s.div_idx_split i.0 m) in
      let less = stored_less r.train.div_nodes h.idx_join_new r.train_idx_moved s.div_idx_split n {x = x.0} at_n join-n x.1 in
      let long = length_part r.train.div_nodes x.0.div_idx_split s.div_idx_split (omega (arith, m)) in
      let some : 1 ≤ length (map (λ (y : DivergeNode). y.train_idx) d.0) = omega (arith, length-map d.0 (λ (y : DivergeNode). y.train_idx), ap (λ (y : List DivergeNode). length y) p.2, long, less) in
      block-by r h s x.0.div_idx_split (map (λ (y : DivergeNode). y.train_idx) d.0) i.0 i.1 (not-true (blocked s.views h.est_curr.idx_next) c.0) t some d.2)
      (cond_cases x.0.met x.2)

  pub record LooksLow (s u : Search) : Type 0 where
    pub looks : Looks r h s u
    pub low : DivergeNode
    pub low-at : before r.train.div_nodes u.div_idx_split ≡ ok low
    pub low_below : low.disp_node_idx < h.idx_join_new

  pub stored_ok : (s : Search) {u : Search} → DivsAccepted (length r.train.disp_path) r.train.diverge_room r.train.div_nodes → s.div_idx_split < length r.train.div_nodes
      → stored_trains r h s ≡ ok u → LooksLow s u
  unfolding stored_trains
  stored_ok s {u} g m q =
      let d = bind_ok (before r.train.div_nodes s.div_idx_split) q in
      let t = bind_ok (cond (eqb d.0.disp_node_idx h.idx_join_new) (take_stored r h s) (ok s)) d.2 in
      let b = bind_ok (before r.train.div_nodes t.0.div_idx_split) t.2 in
      let n = need-ok (ltb b.0.disp_node_idx h.idx_join_new) b.2 in
      subst (λ (x : Search). LooksLow s x) (ok_same n.1) (record {
        looks = ⊎_elim
            (λ w. take-stored s g m d.0 d.1 (eqb-true d.0.disp_node_idx h.idx_join_new w.0) w.1)
            (λ w. subst (λ (x : Search). Looks r h s x) (ok_same w.1) (passes s.div_idx_split (before-ok r.train.div_nodes s.div_idx_split d.1).0 (omega arith)))
            (cond_cases (eqb d.0.disp_node_idx h.idx_join_new) t.1);
        low = b.0;
        low-at = b.1;
        low_below = ltb-true b.0.disp_node_idx h.idx_join_new n.0;
      })

  pub occupied-ok : (s : Search) {u : Search} → 1 ≤ s.div_idx_split → occupied_next r h s ≡ ok u → Looks r h s u × (u.div_idx_split ≡ s.div_idx_split)
  unfolding occupied_next occupied block_by
  occupied-ok s {u} l q = ⊎_elim
      (λ w.
      let a = and-true (not (blocked s.views h.est_curr.idx_next)) _ w.0 in
      let b = and-true (leb s.disp_node_idx_free h.idx_join_new) _ a.1 in
      let c = and-true (is_arrive h.est_next.link_event.est_type) _ b.1 in
      let t = entry_at r.links_blocked h.est_next.link_event.link_idx in
      let z : SomeTrain t = eqb-false t.0 0 (not-true (same_train t no_train) c.1) in (
        block-by r h s s.div_idx_split (t ∷ []) l (omega arith) (not-true (blocked s.views h.est_curr.idx_next) a.0) (each-one (Met r) t (record { some = z; from = inr (h.est_next.link_event.link_idx, refl) })) (omega arith) w.1,
        kept t w.1,
      ))
      (λ w. (subst (λ (x : Search). Looks r h s x) (ok_same w.1) (passes s.div_idx_split l (omega arith)), ap (λ (x : Search). x.div_idx_split) (sym (ok_same w.1))))
      (cond_cases (meets_train r.links_blocked h s) q)
    where
      kept : (t : TrainIdx) → block_by s h.est_curr.idx_next (t ∷ []) ≡ ok u → u.div_idx_split ≡ s.div_idx_split
      kept t e = let c = bind_ok (push_trains s.train_idxs_blocking (t ∷ [])) e in ap (λ (x : Search). x.div_idx_split) (sym (ok_same c.2))

-- ---- which move

-- by the tests of move_from
data Chosen (next stuck on_alt on_next saved : Bool) : Move → Type 0 where
  rewinds : next ≡ true → stuck ≡ true → Chosen next stuck on_alt on_next saved Rewind
  changing : next ≡ true → Chosen next stuck on_alt on_next saved ChangeDiverge
  alternating : next ≡ true → stuck ≡ false → on_alt ≡ false → Chosen next stuck on_alt on_next saved Alternate
  joining : next ≡ false → Chosen next stuck on_alt on_next saved Join
  saving : next ≡ false → on_next ≡ false → saved ≡ true → Chosen next stuck on_alt on_next saved PushSaved
  emptying : next ≡ false → on_next ≡ false → saved ≡ true → Chosen next stuck on_alt on_next saved BlockEmpty
  advancing : next ≡ false → on_next ≡ false → Chosen next stuck on_alt on_next saved Advance

chosen : (next stuck on_alt on_next saved : Bool) (same : Res Bool) {m : Move} → move_from next stuck on_alt on_next saved same ≡ ok m → Chosen next stuck on_alt on_next saved m
chosen true true on_alt on_next saved same h = subst (λ (x : Move). Chosen true true on_alt on_next saved x) (ok_same h) (rewinds refl refl)
chosen true false true on_next saved same h = subst (λ (x : Move). Chosen true false true on_next saved x) (ok_same h) (changing refl)
chosen true false false on_next saved same h = subst (λ (x : Move). Chosen true false false on_next saved x) (ok_same h) (alternating refl refl refl)
chosen false stuck on_alt true saved same h = subst (λ (x : Move). Chosen false stuck on_alt true saved x) (ok_same h) (joining refl)
chosen false stuck on_alt false false same h = subst (λ (x : Move). Chosen false stuck on_alt false false x) (ok_same h) (advancing refl refl)
chosen false stuck on_alt false true (no n) h = no_ok h
chosen false stuck on_alt false true (ok true) h = subst (λ (x : Move). Chosen false stuck on_alt false true x) (ok_same h) (saving refl refl refl)
chosen false stuck on_alt false true (ok false) h = subst (λ (x : Move). Chosen false stuck on_alt false true x) (ok_same h) (emptying refl refl refl)

-- ---- the moves
module _ (r : Round) (h : Here) (s : Search) where
  abbrev path : List DispNode
  path = r.train.disp_path

  shift_ok : {k : ℕ} → shift_save path r.train.disp_node_idx_fixed h.disp_node_curr.link_event s.idx_save ≡ ok k → k < length path
  unfolding shift_save
  shift_ok q =
      let b = bind_ok (walk_back not_fake path s.idx_save) q in
      let n = need-ok (ltb b.0 r.train.disp_node_idx_fixed) b.2 in
      let x = bind_ok (at path b.0) n.1 in
      let e = need-ok (same_event h.disp_node_curr.link_event x.0.link_event) x.2 in
      subst (λ (k : ℕ). k < length path) (ok_same e.1) (at-below path b.0 x.1)

  back_cases : (w : Rewound r h s) {t : Turn} → one_back r h (holder_of w.pooled) (rewound h s w) ≡ ok t → Did r h s t
  unfolding one_back
  back_cases w {t} q = go s.disp_path_new refl
    where
      go : (ns : List DispNode) → s.disp_path_new ≡ ns → Did r h s t
      go (n ∷ ns) e =
          let f : not (is_empty s.disp_path_new) ≡ true = ap (λ (x : List DispNode). not (is_empty x)) e in
          ⊎_elim (λ c. subst (λ (x : Turn). Did r h s x) (ok_same c.1) (pops w n ns e)) (λ c. let z : ◌≡◌ {A = ℕ} 0 1 = cc (f, c.0) in absurd (omega arith)) (cond_cases (not (is_empty s.disp_path_new)) q)
      go [] e =
          let f : not (is_empty s.disp_path_new) ≡ false = ap (λ (x : List DispNode). not (is_empty x)) e in
          ⊎_elim (λ c. let z : ◌≡◌ {A = ℕ} 0 1 = cc (f, c.0) in absurd (omega arith)) (λ c. ⊎_elim
          (λ d. subst (λ (x : Turn). Did r h s x) (ok_same d.1) (shortens w e (ltb-true 1 s.idx_split (and-true (lt r.offset_cancel.0 h.disp_node_curr.offset.0) (ltb 1 s.idx_split) d.0).1)))
          (λ d.
          let a = need-ok (eqb (length w.divs) 1) d.1 in
          let b = need-ok (eqb h.idx_join_new s.idx_split) a.1 in
          subst (λ (x : Turn). Did r h s x) (ok_same b.1) (gives_up w e))
          (cond_cases (lt r.offset_cancel.0 h.disp_node_curr.offset.0 && ltb 1 s.idx_split) c.1)) (cond_cases (not (is_empty s.disp_path_new)) q)

  rewind-ok : {t : Turn} → Stuck h s → rewind r h s ≡ ok t → Did r h s t
  unfolding rewind
  rewind-ok st q =
      let a = bind_ok (cond (shifts h s) (shift_save path r.train.disp_node_idx_fixed h.disp_node_curr.link_event s.idx_save) (ok s.idx_save)) q in
      let p = bind_ok (rewind_view h.est_curr s.views s.train_idxs_blocking) a.2 in
      let d = bind_ok (rewind_divs h.idx_join_new s.div_nodes_new) p.2 in
      back_cases (record {
        save = a.0;
        pooled = p.0;
        divs = d.0;
        stuck = st;
        save-is = ⊎_elim (λ c. inr (shift_ok c.1)) (λ c. inl (sym (ok_same c.1))) (cond_cases (shifts h s) a.1);
        pooled-is = p.1;
        divs-is = d.1;
      }) d.2

  alternate-ok : {t : Turn} → blocked s.views h.est_curr.idx_next ≡ true → (h.est_curr.idx_next_alt.0 ≡ 0 → ⊥) → blocked s.views h.est_curr.idx_next_alt ≡ false
      → on_path path h.est_curr.idx_next_alt ≡ false → alternate r h s ≡ ok t → Did r h s t
  unfolding alternate push_divs push_node diverging
  alternate-ok {t} b n f off q =
      let a = bind_ok (trains_of s.train_idxs_blocking (view_of s.views h.est_curr.idx_next)) q in
      let d = bind_ok (push_divs r.train.diverge_room s.div_nodes_new (diverging h.idx_join_new a.0)) a.2 in
      let e = bind_ok (push_node s.disp_path_new (alternate_node h.disp_node_curr h.est_curr.idx_next_alt)) d.2 in
      let v = room-ok (leb (length s.div_nodes_new + length (diverging h.idx_join_new a.0)) r.train.diverge_room) d.1 in
      let w = room-ok (within h.disp_node_curr.offset) e.1 in
      subst (λ (x : Turn). Did r h s x)
      (ap₂ (λ x y. go_on (set_new (set_divs_new (set_free s (alternate_free h.idx_join_new s.disp_node_idx_free)) x) y)) (ok_same v.1) (ok_same w.1) ∙ ok_same e.2)
      (alternates a.0 a.1 b n f
      (omega (arith, leb-true (length s.div_nodes_new + length (diverging h.idx_join_new a.0)) r.train.diverge_room v.0, length-map {B = DivergeNode} a.0 (λ (t : TrainIdx). record { train_idx = t; disp_node_idx = h.idx_join_new })))
      w.0 off)

  changed : {t : Turn} → change_diverge r h s ≡ ok t → (e : Ended) × (t ≡ ends e)
  unfolding change_diverge
  changed q =
      let a = need-ok (is_empty s.disp_path_new) q in
      let b = need-ok (eqb (length s.div_nodes_new) 1) a.1 in
      let c = need-ok (eqb h.idx_join_new s.idx_split) b.1 in
      let n = bind_ok (at path s.idx_split) c.1 in
      let e = need-ok (same_est h.est_curr.idx_next_alt n.0.est_idx) n.2 in
      let d = bind_ok (at r.train.div_nodes s.div_idx_split) e.1 in
      let f = need-ok (eqb s.idx_split d.0.disp_node_idx) d.2 in
      let k = bind_ok (walk_from (λ (x : DivergeNode). not (eqb x.disp_node_idx s.idx_split)) r.train.div_nodes (s.div_idx_split + 1)) f.1 in
      let t = bind_ok (trains_of s.train_idxs_blocking (view_of s.views h.est_curr.idx_next)) k.2 in
      let o = room-ok (leb (length (take s.div_idx_split r.train.div_nodes ++ diverging s.idx_split t.0 ++ drop k.0 r.train.div_nodes)) r.train.diverge_room) t.2 in
      (_, sym (ok_same o.1))

  save-ok : {t : Turn} → Free r h s → s.idx_save < r.train.disp_node_idx_fixed → push_saved r h s ≡ ok t → Did r h s t
  unfolding push_saved push_node
  save-ok f l q =
      let n = bind_ok (at path s.idx_save) q in
      let e = need-ok (near n.0.offset (plus h.disp_node_curr.offset h.est_curr.dist_to_next)) n.2 in
      let a = bind_ok (push_node s.disp_path_new (saved_node n.0 h.est_curr.idx_next)) e.1 in
      let w = room-ok (within n.0.offset) a.1 in
      let k = bind_ok (walk_from not_fake path (s.idx_save + 1)) a.2 in
      let z = walk_ok not_fake path (s.idx_save + 1) k.1 in
      subst (λ (x : Turn). Did r h s x)
      (ap (λ x. go_on (set_save (set_new (set_free s (saved_free r h s)) x) k.0)) (ok_same w.1) ∙ ok_same k.2)
      (saves n.0 k.0 f l n.1 w.0 (at-below path k.0 z.1))

  advance-ok : {t : Turn} → Free r h s → advance h s ≡ ok t → Did r h s t
  unfolding advance push_node
  advance-ok f q =
      let a = bind_ok (push_node s.disp_path_new (advance_node h)) q in
      let w = room-ok (within (advance_node h).offset) a.1 in
      subst (λ (x : Turn). Did r h s x)
      (ap (λ x. go_on (set_new (set_free s (least s.disp_node_idx_free h.idx_join_new)) x)) (ok_same w.1) ∙ ok_same a.2)
      (advances f w.0)

  joined : {t : Turn} → join r h s ≡ ok t → (e : Ended) × (t ≡ ends e)
  unfolding join splice_at
  joined q =
      let b = bind_ok (walk_from (λ (n : DispNode). same_est h.est_curr.idx_next n.est_idx) path r.idx_split_save) q in
      let n = bind_ok (at path b.0) b.2 in
      let t = bind_ok (update_free_path_helpers r.train s.disp_path_new s.idx_split b.0 (offset_change h n.0)) n.2 in
      let d = bind_ok (update_div_nodes t.0.diverge_room t.0.div_nodes s.div_nodes_new s.div_idx_split b.0 h.idx_join_new) t.2 in
      let z = then_ok (free_is_correct (take s.idx_split t.0.disp_path ++ s.disp_path_new ++ drop b.0 t.0.disp_path) s.disp_node_idx_free) d.2 in
      (_, sym (ok_same z.2))

  pub did-ok : (m : Move) {t : Turn} → move_of r h s ≡ ok m → do_move m r h s ≡ ok t → Did r h s t
  unfolding move_of block_empty
  did-ok m {t} q d = go m (chosen
      (blocked s.views h.est_curr.idx_next)
      (same_est h.est_curr.idx_next_alt no_est || blocked s.views h.est_curr.idx_next_alt)
      (on_path path h.est_curr.idx_next_alt)
      (on_path path h.est_curr.idx_next)
      (ltb s.idx_save r.train.disp_node_idx_fixed)
      (saved_matches path s.idx_save h.est_next.link_event) q) d
    where
      free : blocked s.views h.est_curr.idx_next ≡ false → on_path path h.est_curr.idx_next ≡ false → Free r h s
      free a b = record { unblocked = a; off = b }

      before-fixed : ltb s.idx_save r.train.disp_node_idx_fixed ≡ true → s.idx_save < r.train.disp_node_idx_fixed
      before-fixed c = ltb-true s.idx_save r.train.disp_node_idx_fixed c

      go : (m : Move) → Chosen
          (blocked s.views h.est_curr.idx_next)
          (same_est h.est_curr.idx_next_alt no_est || blocked s.views h.est_curr.idx_next_alt)
          (on_path path h.est_curr.idx_next_alt)
          (on_path path h.est_curr.idx_next)
          (ltb s.idx_save r.train.disp_node_idx_fixed) m → do_move m r h s ≡ ok t → Did r h s t
      go _ (rewinds a b) e = rewind-ok (record { next = a; alt = ⊎_elim (λ c. inl (eqb-true h.est_curr.idx_next_alt.0 0 c)) (λ c. inr c) (or-true (same_est h.est_curr.idx_next_alt no_est) (blocked s.views h.est_curr.idx_next_alt) b) }) e
      go _ (changing a) e = let w = changed e in subst (λ (x : Turn). Did r h s x) (sym w.1) (changes w.0 a (e ∙ ap ok w.1))
      go _ (alternating a b off) e = let c = or-false (same_est h.est_curr.idx_next_alt no_est) (blocked s.views h.est_curr.idx_next_alt) b in alternate-ok a (eqb-false h.est_curr.idx_next_alt.0 0 c.0) c.1 off e
      go _ (joining a) e = let w = joined e in subst (λ (x : Turn). Did r h s x) (sym w.1) (joins w.0 a (e ∙ ap ok w.1))
      go _ (saving a b c) e = save-ok (free a b) (before-fixed c) e
      go _ (emptying a b c) e = subst (λ (x : Turn). Did r h s x) (ok_same e) (empties (free a b) (before-fixed c))
      go _ (advancing a b) e = advance-ok (free a b) e

-- ---- a whole turn
pub step_ok : (r : Round) (s : Search) {t : Turn} → DivsAccepted (length r.train.disp_path) r.train.diverge_room r.train.div_nodes → search_step r s ≡ ok t → Turned r s t
unfolding search_step
step_ok r s {t} g q =
    let a = bind_ok (look_here r s) q in
    let e = look-ok r s a.0 a.1 in
    let b = bind_ok (stored_trains r a.0 s) a.2 in
    let f = stored_ok r a.0 s g e.div_in b.1 in
    let c = bind_ok (occupied_next r a.0 b.0) b.2 in
    let o = occupied-ok r a.0 b.0 (before-ok r.train.div_nodes b.0.div_idx_split f.low-at).0 c.1 in
    let m = bind_ok (move_of r a.0 c.0) c.2 in
    record {
      here = a.0;
      stood = b.0;
      looked = c.0;
      stands = e.stands;
      unblocked = e.unblocked;
      stored_is = b.1;
      same_div = o.1;
      stored = f.looks;
      occupied = o.0;
      div_in = e.div_in;
      low = f.low;
      low-at = ap (λ k. before r.train.div_nodes k) o.1 ∙ f.low-at;
      low_below = f.low_below;
      did = did-ok r a.0 c.0 m.0 m.1 m.2;
    }
