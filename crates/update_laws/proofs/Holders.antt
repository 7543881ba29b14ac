-- A train that is Blocked is held by a train that is not 0: the view of a node of the old path is not empty where it blocks. Assumes nothing.
use mathlib.Core.Path.{◌≡◌, refl, sym, ap, subst, ◌∙◌}
use mathlib.Core.Logic.{◌⊎◌, inl, inr, ⊎_elim}
use mathlib.Core.Bool.{true, false, ◌&&◌}
use mathlib.Core.List.{List, [], ◌∷◌, ◌++◌}
use Prim.Native.Nat.{ℕ, zero, suc, ◌+◌, ◌-◌, ◌≤◌, ◌<◌}
use native.Mathlib.Omega.{arith}
use lib.Dec.{leb, eqb}
use lib.ListN.{length, get_or, take, drop, set, replicate, length-append}
use lib.Seq.{get_or-set_other}
use borrow.Author.Tests.{leb-true, eqb-true, eqb-false}
use Rattle.link_rules.specs.LinkIdx.{no_train}
use Rattle.link_rules.specs.declared.link_idx.TrainIdx.{TrainIdx}
use Rattle.disp_structs.specs.Values.{view, is_blocked, same_est, no_est}
use Rattle.disp_structs.specs.Train.{Train}
use Rattle.disp_structs.specs.declared.EstIdx.{EstIdx}
use Rattle.disp_structs.specs.declared.EstTime.{EstTime}
use Rattle.disp_structs.specs.declared.DispNode.{DispNode}
use Rattle.disp_structs.specs.declared.TrainIdxsView.{TrainIdxsView}
use Rattle.est_times.proofs.Counting.{clash}
use Rattle.free_path.specs.Base.{ok, at, before, last, slice, any}
use Rattle.free_path.specs.TrainIdxsView.{Pooled, pool_room, pool_push, add_from, closed, add_blocking_trains, add_all_blocking_trains, concat_train_idx_views, covers, size}
use Rattle.free_path.specs.Validate.{on_path}
use Rattle.free_path.proofs.CountLaws.{length_part}
use Rattle.update_definition.specs.State.{Round, Search, Turn, go_on, Ended, at_end, blocked_at, again, view_of, blocked}
use Rattle.update_definition.specs.Look.{Here, current}
use Rattle.update_definition.specs.Moves.{first_train, holder_of, alternate_node, saved_node, advance_node}
use Rattle.update_definition.specs.Update.{Given, search_step, search_from, round_of, turn_limit}
use Rattle.update_definition.specs.Accepted.{Each, Leads, Accepted}
use Rattle.update_laws.specs.Turns.{SomeTrain, Stands, Looks, Rewound, Did, Turned, After}
use Rattle.update_laws.specs.Turns.Looks.{passes, blocks}
use Rattle.update_laws.specs.Turns.Did.{pops, shortens, gives_up, alternates, changes, saves, empties, advances, joins}
use Rattle.update_laws.specs.Good.{PoolGood, Blocking, Good}
use Rattle.update_laws.specs.AfterRound.{AtEnd}
use Rattle.update_laws.proofs.Answers.{no_ok, ok_same, bind_ok, need-ok, room-ok, cond_cases, before-ok, slice-ok}
use Rattle.update_laws.proofs.Lists.{at_some, at_last, each_append, each-one, each_take}
use Rattle.update_laws.proofs.Pools.{pool_more, view-trains, add-blocking}
use Rattle.update_laws.proofs.Views.{get_d_set, blocked-blocks, rewound-good}
use Rattle.update_laws.proofs.Turning.{and-true, or-false, or-true, step_ok}
use Rattle.update_laws.proofs.GoodTurns.{search-last, looked-good, looked-stands}
use Rattle.update_laws.proofs.Changing.{changed-to}
use Rattle.update_laws.proofs.Joins.{joined_to}
use Rattle.update_laws.proofs.Rounds.{Begun, round_begun}

-- a view with trains
abbrev Filled : TrainIdxsView → Type 0
Filled v = v.idx_begin < v.idx_end

-- ---- the union of two views, of which one has trains

closed-made : (base : TrainIdxsView) (pool : List TrainIdx) {p : Pooled} → closed base pool ≡ ok p → p.made ≡ view base.idx_begin (length p.pool)
unfolding closed
closed-made base pool h = let t = bind_ok (last pool) h in subst (λ (p : Pooled). p.made ≡ view base.idx_begin (length p.pool)) (ok_same t.2) refl

add-made : (pool : List TrainIdx) (base add : TrainIdxsView) {p : Pooled} → add_blocking_trains pool base add ≡ ok p → (p.made ≡ view base.idx_begin (length p.pool)) × (length pool ≡ base.idx_end)
unfolding add_blocking_trains
add-made pool base add h =
    let a = need-ok (leb base.idx_begin base.idx_end) h in
    let b = need-ok (eqb (length pool) base.idx_end) a.1 in
    let c = need-ok (leb add.idx_begin add.idx_end) b.1 in
    let q = bind_ok (pool_push pool no_train) c.1 in
    let r = bind_ok (add_from base (add.idx_end - add.idx_begin) add.idx_begin q.0) q.2 in
    (closed-made base r.0 r.2, eqb-true (length pool) base.idx_end b.0)

add-filled : (pool : List TrainIdx) (base add : TrainIdxsView) {p : Pooled} → PoolGood pool → Blocking (length pool) base → Blocking (length pool) add → Filled base → add_blocking_trains pool base add ≡ ok p → Filled p.made
add-filled pool base add {p} g u v f h =
    let m = add-made pool base add h in
    let z = (add-blocking pool base add g u.low v.low v.high h).longer in
    subst (λ (x : TrainIdxsView). Filled x) (sym m.0) (omega (arith, z, m.1))

all_filled : (pool : List TrainIdx) (large small : TrainIdxsView) {p : Pooled} → PoolGood pool → Blocking (length pool) large → Blocking (length pool) small → Filled large → add_all_blocking_trains pool large small ≡ ok p → Filled p.made
unfolding add_all_blocking_trains
all_filled pool large small {p} g u v f h =
    let a = need-ok (leb small.idx_begin small.idx_end) h in
    let t = bind_ok (slice pool large.idx_begin large.idx_end) a.1 in
    let o = room-ok (leb (length pool + length t.0) pool_room) t.2 in
    let q = pool ++ t.0 in
    let n = length-append pool t.0 in
    let k : PoolGood q = pool_more pool t.0 g (view-trains pool large.idx_begin large.idx_end g u.low t.1) (leb-true (length pool + length t.0) pool_room o.0) in
    let base = view (length q - length t.0) (length q) in
    let c = slice-ok pool large.idx_begin large.idx_end t.1 in
    let l = length_part pool large.idx_begin large.idx_end u.high in
    let some : 1 ≤ length t.0 = omega (arith, ap (λ (x : List TrainIdx). length x) c.2, l, f) in
    let m = add-made q base small o.1 in
    let z = (add-blocking q base small k (omega (arith, g.some)) v.low (omega (arith, v.high)) o.1).longer in
    subst (λ (x : TrainIdxsView). Filled x) (sym m.0) (omega (arith, z, some, n))

covers-filled : (v w : TrainIdxsView) → Filled v ⊎ Filled w → covers v w ≡ true → Filled v
covers-filled v w (inl f) c = f
covers-filled v w (inr f) c = ⊎_elim
    (λ e. omega (arith, f, eqb-true w.idx_begin w.idx_end e))
    (λ e.
    let k = and-true (leb v.idx_begin w.idx_begin) (leb w.idx_end v.idx_end) e in
    omega (arith, f, leb-true v.idx_begin w.idx_begin k.0, leb-true w.idx_end v.idx_end k.1))
    (or-true (eqb w.idx_begin w.idx_end) (leb v.idx_begin w.idx_begin && leb w.idx_end v.idx_end) c)

uncovered : (v w : TrainIdxsView) → w.idx_begin ≤ w.idx_end → covers v w ≡ false → Filled w
uncovered v w o c =
    let e = (or-false (eqb w.idx_begin w.idx_end) (leb v.idx_begin w.idx_begin && leb w.idx_end v.idx_end) c).0 in
    omega (arith, o, eqb-false w.idx_begin w.idx_end e)

concat_filled : (pool : List TrainIdx) (v w : TrainIdxsView) {p : Pooled} → PoolGood pool → Blocking (length pool) v → Blocking (length pool) w → Filled v ⊎ Filled w → concat_train_idx_views pool v w ≡ ok p → Filled p.made
unfolding concat_train_idx_views
concat_filled pool v w {p} g a b f h = ⊎_elim
    (λ c. subst (λ (x : Pooled). Filled x.made) (ok_same c.1) (covers-filled v w f c.0))
    (λ c. ⊎_elim
    (λ d. subst (λ (x : Pooled). Filled x.made) (ok_same d.1) (covers-filled w v (⊎_elim (λ x. inr x) (λ x. inl x) f) d.0))
    (λ d.
    let fw = uncovered v w b.order c.0 in
    let fv = uncovered w v a.order d.0 in ⊎_elim
    (λ e. add-filled pool v w g a b fv e.1)
    (λ e. ⊎_elim
    (λ k. add-filled pool w v g b a fw k.1)
    (λ k. ⊎_elim (λ l. all_filled pool v w g a b fv l.1) (λ l. all_filled pool w v g b a fw l.1) (cond_cases (leb (size w) (size v)) k.1))
    (cond_cases (eqb (length pool) w.idx_end) e.1))
    (cond_cases (eqb (length pool) v.idx_end) d.1))
    (cond_cases (covers w v) c.1))
    (cond_cases (covers v w) h)

-- ---- views of the ests of the old path

-- one that blocks has trains
abbrev PathHeld : List DispNode → List TrainIdxsView → Type 0
PathHeld path views = (i : ℕ) (n : DispNode) → at path i ≡ ok n → blocked views n.est_idx ≡ true → Filled (view_of views n.est_idx)

-- an est that is not on the path
off_at : (path : List DispNode) (e : EstIdx) → on_path path e ≡ false → (i : ℕ) (n : DispNode) → at path i ≡ ok n → n.est_idx.0 ≡ e.0 → ⊥
unfolding on_path any at
off_at [] e o i n a q = no_ok a
off_at (x ∷ xs) e o zero n a q =
    eqb-false e.0 x.est_idx.0 (or-false (same_est e x.est_idx) (any (λ (y : DispNode). same_est e y.est_idx) xs) o).0 (sym (ap (λ (y : DispNode). y.est_idx.0) (ok_same a) ∙ q))
off_at (x ∷ xs) e o (suc i) n a q = off_at xs e (or-false (same_est e x.est_idx) (any (λ (y : DispNode). same_est e y.est_idx) xs) o).1 i n a q

set-filled : (path : List DispNode) (views : List TrainIdxsView) (i : ℕ) (v : TrainIdxsView) → Filled v → PathHeld path views → PathHeld path (set views i v)
set-filled path views i v f p j n a b = ⊎_elim
    (λ q. subst (λ (x : TrainIdxsView). Filled x) (sym q) f)
    (λ q. subst (λ (x : TrainIdxsView). Filled x) (sym q) (p j n a (ap is_blocked (sym q) ∙ b)))
    (get_d_set views i v n.est_idx.0)

set-off : (path : List DispNode) (views : List TrainIdxsView) (e : EstIdx) (v : TrainIdxsView) → on_path path e ≡ false → PathHeld path views → PathHeld path (set views e.0 v)
set-off path views e v o p j n a b =
    let q = get_or-set_other views e.0 n.est_idx.0 v (view 0 0) (λ z. off_at path e o j n a z) in
    subst (λ (x : TrainIdxsView). Filled x) (sym q) (p j n a (ap is_blocked (sym q) ∙ b))

-- ---- a turn

-- and no new node is on the path
record Holds (r : Round) (s : Search) : Type 0 where
  held : PathHeld r.train.disp_path s.views
  off : Each (λ (n : DispNode). on_path r.train.disp_path n.est_idx ≡ false) s.disp_path_new

looks_hold : (r : Round) (h : Here) {s u : Search} → Looks r h s u → Holds r s → Holds r u
looks_hold r h (passes d a b) k = record { held = k.held; off = k.off }
looks_hold r h {s} (blocks d ts a b c t f some) k =
    let v = view (length s.train_idxs_blocking) (length s.train_idxs_blocking + length ts) in
    record { held = set-filled r.train.disp_path s.views h.est_curr.idx_next.0 v (omega (arith, some)) k.held; off = k.off }

-- how a round ends
abbrev pub EndsHeld : Ended → Type 0
EndsHeld at_end = Unit {0}
EndsHeld (blocked_at u holder) = SomeTrain holder
EndsHeld (again u split k) = Unit {0}

module _ (links : ℕ) (r : Round) (acc : Accepted links r.train) (s : Search) (g : Good links r s) (k : Holds r s) (h : Here) (st : Stands r s h) where
  abbrev path : List DispNode
  path = r.train.disp_path

  abbrev off-path : DispNode → Type 0
  off-path n = on_path path n.est_idx ≡ false

  abbrev e : ℕ
  e = length r.train.est_times

  -- the current node of a new path
  curr-off : (n : DispNode) (ns : List DispNode) → s.disp_path_new ≡ n ∷ ns → on_path path h.disp_node_curr.est_idx ≡ false
  curr-off n ns q = go s.disp_path_new k.off st.curr q
    where
      go : (new : List DispNode) → Each off-path new → current path new s.idx_split ≡ ok h.disp_node_curr → new ≡ n ∷ ns → on_path path h.disp_node_curr.est_idx ≡ false
      go [] o c z = let y : 0 ≡ suc (length ns) = ap (λ (x : List DispNode). length x) z in absurd (omega (arith, y))
      go (a ∷ new) o c z = o (length (a ∷ new) - 1) h.disp_node_curr (at_last (a ∷ new) c)

  abbrev view_at : ℕ → TrainIdxsView
  view_at i = get_or s.views i (view 0 0)

  -- the view of next, or of an alternate that there is, has trains
  abbrev OneFilled : Type 0
  OneFilled = Filled (view_at h.est_curr.idx_next.0) ⊎ ((h.est_curr.idx_next_alt.0 ≡ 0 → ⊥) × Filled (view_at h.est_curr.idx_next_alt.0))

  -- where there is no new path, the current est leads to the next one of the old path: its view has trains, and so has the union
  made-filled : (w : Rewound r h s) → s.disp_path_new ≡ [] → Filled w.pooled.made
  made-filled w q = rewound-filled (go to.leads)
    where
      next : DispNode
      next = (at_some path s.idx_split g.stack-good.high).0

      next-at : at path s.idx_split ≡ ok next
      next-at = (at_some path s.idx_split g.stack-good.high).1

      curr-at : before path s.idx_split ≡ ok h.disp_node_curr
      curr-at = ap (λ (x : List DispNode). current path x s.idx_split) (sym q) ∙ st.curr

      to : Leads r.train.est_times h.disp_node_curr next
      to =
          let b = before-ok path s.idx_split curr-at in
          let n : suc (s.idx_split - 1) ≡ s.idx_split = omega (arith, b.0) in
          acc.path.steps (s.idx_split - 1) h.disp_node_curr next b.1 (ap (at path) n ∙ next-at)

      same : to.record_of ≡ h.est_curr
      same = ok_same (sym to.stands ∙ st.est)

      filled : (i : ℕ) → i ≡ next.est_idx.0 → is_blocked (view_at i) ≡ true → Filled (view_at i)
      filled i z b = subst (λ (m : ℕ). Filled (view_at m)) (sym z) (k.held s.idx_split next next-at (ap (λ (m : ℕ). is_blocked (view_at m)) (sym z) ∙ b))

      go : (to.record_of.idx_next.0 ≡ next.est_idx.0) ⊎ (to.record_of.idx_next_alt.0 ≡ next.est_idx.0) → OneFilled
      go (inl z) = inl (filled h.est_curr.idx_next.0 (ap (λ (x : EstTime). x.idx_next.0) (sym same) ∙ z) w.stuck.next)
      go (inr z) =
          let y = ap (λ (x : EstTime). x.idx_next_alt.0) (sym same) ∙ z in
          let some : h.est_curr.idx_next_alt.0 ≡ 0 → ⊥ = λ x. to.some (sym y ∙ x) in
          inr (some, filled h.est_curr.idx_next_alt.0 y (⊎_elim (λ x. absurd (some x)) (λ x. x) w.stuck.alt))

      rewound-filled : OneFilled → Filled w.pooled.made
      rewound-filled f =
          let pool = s.train_idxs_blocking in
          let v = view_of s.views h.est_curr.idx_next in
          let u = view_of s.views h.est_curr.idx_next_alt in
          let good = g.views-good in ⊎_elim
          (λ c. subst (λ (x : Pooled). Filled x.made) (ok_same c.1) (⊎_elim (λ a. a) (λ a. absurd (a.0 (eqb-true h.est_curr.idx_next_alt.0 0 c.0))) f))
          (λ c. concat_filled pool v u good.pool (blocked-blocks v (good.each h.est_curr.idx_next.0) w.stuck.next)
          (blocked-blocks u (good.each h.est_curr.idx_next_alt.0) (⊎_elim (λ z. absurd (eqb-false h.est_curr.idx_next_alt.0 0 c.0 z)) (λ z. z) w.stuck.alt))
          (⊎_elim (λ a. inl a) (λ a. inr a.1) f) c.1)
          (cond_cases (same_est h.est_curr.idx_next_alt no_est) w.pooled-is)

  pushed : (b : DispNode) → off-path b → Each off-path (s.disp_path_new ++ (b ∷ []))
  pushed b o = each_append off-path s.disp_path_new (b ∷ []) k.off (each-one off-path b o)

  did-hold : {t : Turn} → Did r h s t → After (Holds r) t
  did-hold (pops w n ns q) = record {
    held = set-off path s.views h.disp_node_curr.est_idx w.pooled.made (curr-off n ns q) k.held;
    off = each_take off-path (length s.disp_path_new - 1) s.disp_path_new k.off;
  }
  did-hold (shortens w q l) = record { held = set-filled path s.views h.disp_node_curr.est_idx.0 w.pooled.made (made-filled w q) k.held; off = k.off }
  did-hold (gives_up w q) = tt
  did-hold (alternates ts p b n f c w off) = record { held = k.held; off = pushed (alternate_node h.disp_node_curr h.est_curr.idx_next_alt) off }
  did-hold (changes d b q) = tt
  did-hold (saves n m f l a w z) = record { held = k.held; off = pushed (saved_node n h.est_curr.idx_next) f.off }
  did-hold (empties f l) = record { held = set-off path s.views h.est_curr.idx_next (view 1 1) f.off k.held; off = k.off }
  did-hold (advances f w) = record { held = k.held; off = pushed (advance_node h) f.off }
  did-hold (joins d b q) = tt

  first_part : (xs : List TrainIdx) (b n : ℕ) {t : TrainIdx} → at xs b ≡ ok t → first_train (take (suc n) (drop b xs)) ≡ t
  unfolding at
  first_part [] b n q = no_ok q
  first_part (x ∷ xs) zero n q = ok_same q
  first_part (x ∷ xs) (suc b) n q = first_part xs b n q

  some-holder : (w : Rewound r h s) → s.disp_path_new ≡ [] → SomeTrain (holder_of w.pooled)
  some-holder w q =
      let u = rewound-good e r h s g.views-good w in
      let f = made-filled w q in
      let v = w.pooled.made in
      let t = at_some w.pooled.pool v.idx_begin (omega (arith, f, u.made.high)) in
      let n : v.idx_end - v.idx_begin ≡ suc (v.idx_end - v.idx_begin - 1) = omega (arith, f) in
      subst (λ (x : TrainIdx). SomeTrain x)
      (sym (ap (λ (m : ℕ). first_train (take m (drop v.idx_begin w.pooled.pool))) n ∙ first_part w.pooled.pool v.idx_begin (v.idx_end - v.idx_begin - 1) t.1))
      (u.pool.trains v.idx_begin t.0 u.made.low t.1)

  ends_held : {t : Turn} → Did r h s t → AtEnd EndsHeld t
  ends_held (pops w n ns q) = tt
  ends_held (shortens w q l) = tt
  ends_held (gives_up w q) = some-holder w q
  ends_held (alternates ts p b n f c w off) = tt
  ends_held (changes d b q) = subst (λ (x : Ended). EndsHeld x) (changed-to r h s q).is tt
  ends_held (saves n m f l a w z) = tt
  ends_held (empties f l) = tt
  ends_held (advances f w) = tt
  ends_held (joins d b q) = subst (λ (x : Ended). EndsHeld x) (joined_to links r acc s g.div_split-good.low h q).is tt

-- ---- a search and a round

module _ (links : ℕ) (r : Round) (acc : Accepted links r.train) where
  looked-hold : (s : Search) {t : Turn} (w : Turned r s t) → Holds r s → Holds r w.looked
  looked-hold s w k = looks_hold r w.here w.occupied (looks_hold r w.here w.stored k)

  step_holds : (s u : Search) → Good links r s → Holds r s → search_step r s ≡ ok (go_on u) → Holds r u
  step_holds s u a k p =
      let w = step_ok r s acc.divs p in
      did-hold links r acc w.looked (looked-good links r acc s a w) (looked-hold s w k) w.here (looked-stands links r acc s a w) w.did

  search-held : (n : ℕ) (s : Search) (e : Ended) → Good links r s → Holds r s → search_from n r s ≡ ok e → EndsHeld e
  search-held n s e a k q =
      let l = search-last links r acc (Holds r) step_holds n s e a k q in
      let w = step_ok r l.0 acc.divs l.3 in
      ends_held links r acc w.looked (looked-good links r acc l.0 l.1 w) (looked-hold l.0 w l.2) w.here (looked-stands links r acc l.0 l.1 w) w.did

free-views : (n i : ℕ) → get_or (replicate n (view 0 0)) i (view 0 0) ≡ view 0 0
free-views zero i = refl
free-views (suc n) zero = refl
free-views (suc n) (suc i) = free-views n i

begun-held : (links : ℕ) (occ : List ℕ) (t : Train) → Accepted links t → {e : Ended} → Begun links occ t (ok e) → EndsHeld e
unfolding at
begun-held links occ t acc {e} w =
    search-held links w.round (subst (λ (y : Train). Accepted links y) (sym w.train-is) acc) (turn_limit t) w.search e w.good
    (record {
      held = subst (λ (y : List TrainIdxsView). PathHeld w.round.train.disp_path y) (sym w.views_are)
          (λ i n a b. clash true refl (sym b ∙ ap is_blocked (free-views (length t.est_times) n.est_idx.0)));
      off = subst (λ (y : List DispNode). Each (λ (n : DispNode). on_path w.round.train.disp_path n.est_idx ≡ false) y) (sym w.new_is) (λ i x p. no-nodes i p);
    })
    w.searched
  where
    no-nodes : {X : Type 0} (i : ℕ) {x : DispNode} → at [] i ≡ ok x → X
    no-nodes i p = no_ok p

-- a round that ends Blocked names a train
pub round_held : (links : ℕ) (g : Given) (t : Train) (split k : ℕ) (e : Ended) → Accepted links t → 1 ≤ split → 1 ≤ k → round_of g t split k ≡ ok e → EndsHeld e
round_held links g t split k e a i d q =
    ⊎_elim (λ z. subst (λ (y : Ended). EndsHeld y) (sym z) tt) (λ b. begun-held links g.links_blocked t a b) (round_begun links g t a split k i d q)
