-- The union of two blocking views keeps the pool good, and blocks. Assumes nothing.
use mathlib.Core.Path.{◌≡◌, sym, ap, subst, ◌∙◌}
use mathlib.Core.Logic.{◌⊎◌, inl, inr, ⊎_elim}
use mathlib.Core.Bool.{true, false, cond}
use mathlib.Core.List.{List, [], ◌∷◌, ◌++◌}
use Prim.Native.Nat.{ℕ, zero, suc, ◌+◌, ◌-◌, ◌≤◌, ◌<◌}
use native.Mathlib.Omega.{arith}
use lib.Dec.{leb, ltb, eqb}
use lib.ListN.{length, drop, set, length-set, length-append}
use lib.Seq.{length-take-le}
use borrow.Author.Tests.{leb-true, ltb-true, ltb-false, eqb-true}
use Rattle.link_rules.specs.LinkIdx.{same_train, no_train}
use Rattle.link_rules.specs.declared.link_idx.TrainIdx.{TrainIdx}
use Rattle.disp_structs.specs.Values.{view}
use Rattle.disp_structs.specs.declared.TrainIdxsView.{TrainIdxsView}
use Rattle.est_times.proofs.Counting.{two, same_or_not}
use Rattle.free_path.specs.Base.{ok, at, last, popped, part, slice, any}
use Rattle.free_path.specs.TrainIdxsView.{pool_room, Pooled, pool_push, add_one, add_from, closed, add_blocking_trains, add_all_blocking_trains, concat_train_idx_views, covers, size}
use Rattle.update_laws.specs.Turns.{SomeTrain}
use Rattle.update_laws.specs.Good.{PoolGood, Blocking}
use Rattle.update_definition.specs.Accepted.{Each}
use Rattle.update_laws.proofs.Answers.{ok_same, bind_ok, need-ok, room-ok, cond_cases, slice-ok}
use Rattle.update_laws.proofs.Lists.{at-below, at_drop, at_left, at_right, at_last, take_below, at_push, set_other, set_same}

-- trains are appended
pub pool_more : (pool ts : List TrainIdx) → PoolGood pool → Each SomeTrain ts → length pool + length ts ≤ pool_room → PoolGood (pool ++ ts)
pool_more pool ts g e l = record {
  some = omega (arith, length-append pool ts, g.some);
  few = omega (arith, length-append pool ts);
  trains = λ i t m h. ⊎_elim
      (λ k. g.trains i t m (sym (at_left pool ts i k) ∙ h))
      (λ k. e (i - length pool) t (sym (at_right pool ts i k) ∙ h))
      (below i);
}
  where
    below : (i : ℕ) → (i < length pool) ⊎ (length pool ≤ i)
    below i = ⊎_elim (λ c. inl (ltb-true i (length pool) c)) (λ c. inr (ltb-false i (length pool) c)) (two (ltb i (length pool)))

-- the trains of a view
pub view-trains : (pool : List TrainIdx) (b e : ℕ) {ts : List TrainIdx} → PoolGood pool → 1 ≤ b → slice pool b e ≡ ok ts → Each SomeTrain ts
view-trains pool b e g l q i t h =
    let s = slice-ok pool b e q in
    let x = take_below (e - b) (drop b pool) i (ap (λ (y : List TrainIdx). at y i) s.2 ∙ h) in
    g.trains (b + i) t (omega arith) (sym (at_drop b pool i) ∙ x.1)

-- while trains are added behind base, its end holds the sentinel, and every other place but the first some train
pub record Adding (base : TrainIdxsView) (pool : List TrainIdx) : Type 0 where
  pub sentinel : base.idx_end < length pool
  pub few : length pool ≤ pool_room
  pub trains : (i : ℕ) (t : TrainIdx) → 1 ≤ i → (i ≡ base.idx_end → ⊥) → at pool i ≡ ok t → SomeTrain t

pub add-one : (base : TrainIdxsView) (i : ℕ) (pool : List TrainIdx) {q : List TrainIdx} → Adding base pool → 1 ≤ i → i < base.idx_end → add_one base i pool ≡ ok q → Adding base q
unfolding add_one pool_push
add-one base i pool {q} g l m h =
    let t = bind_ok (at pool i) h in
    let some = g.trains i t.0 l (λ e. omega arith) t.1 in
    let p = set pool base.idx_end t.0 in
    let n : length p ≡ length pool = length-set pool base.idx_end t.0 in
    let kept : (j : ℕ) (x : TrainIdx) → 1 ≤ j → (j ≡ base.idx_end → ⊥) → at p j ≡ ok x → SomeTrain x = λ j x u v w. g.trains j x u v (sym (set_other pool base.idx_end t.0 j v) ∙ w) in ⊎_elim
    (λ c. subst (λ (x : List TrainIdx). Adding base x) (ok_same c.1) (record { sentinel = omega (arith, g.sentinel); few = omega (arith, g.few); trains = kept }))
    (λ c.
    let o = room-ok (leb (length p + 1) pool_room) c.1 in
    subst (λ (x : List TrainIdx). Adding base x) (ok_same o.1) (record {
      sentinel = omega (arith, g.sentinel, length-append p (t.0 ∷ []));
      few = omega (arith, leb-true (length p + 1) pool_room o.0, length-append p (t.0 ∷ []));
      trains = λ j x u v w. ⊎_elim (λ y. kept j x u v y.1) (λ y. subst SomeTrain y.1 some) (at_push p t.0 j w);
    }))
    (cond_cases (any (same_train t.0) (part base.idx_begin base.idx_end pool)) t.2)

pub add-from : (base : TrainIdxsView) (k i : ℕ) (pool q : List TrainIdx) → Adding base pool → 1 ≤ i → i + k ≤ base.idx_end → add_from base k i pool ≡ ok q → Adding base q
unfolding add_from
add-from base zero i pool q g l m h = subst (λ (x : List TrainIdx). Adding base x) (ok_same h) g
add-from base (suc k) i pool q g l m h =
    let a = bind_ok (add_one base i pool) h in
    add-from base k (i + 1) a.0 q (add-one base i pool g l (omega arith) a.1) (omega arith) (omega arith) a.2

-- what a union leaves
pub record United (n : ℕ) (p : Pooled) : Type 0 where
  pub pool : PoolGood p.pool
  pub made : Blocking (length p.pool) p.made
  pub longer : n ≤ length p.pool

closing : (base : TrainIdxsView) (pool : List TrainIdx) {p : Pooled} → 1 ≤ base.idx_begin → base.idx_begin ≤ base.idx_end → Adding base pool → closed base pool ≡ ok p → United base.idx_end p
unfolding closed
closing base pool {p} l o g h =
    let t = bind_ok (last pool) h in
    let end = at_last pool t.1 in
    let n : length (popped pool) ≡ length pool - 1 = length-take-le (length pool - 1) pool (omega arith) in
    subst (λ (x : Pooled). United base.idx_end x) (ok_same t.2) (go t.0 end n (two (ltb base.idx_end (length (popped pool)))))
  where
    keeps : (i : ℕ) (x : TrainIdx) → 1 ≤ i → (i ≡ base.idx_end → ⊥) → at (popped pool) i ≡ ok x → SomeTrain x
    keeps i x u v w = g.trains i x u v (take_below (length pool - 1) pool i w).1

    go : (t : TrainIdx) → at pool (length pool - 1) ≡ ok t → length (popped pool) ≡ length pool - 1
        → (ltb base.idx_end (length (popped pool)) ≡ true) ⊎ (ltb base.idx_end (length (popped pool)) ≡ false)
        → United base.idx_end (record { pool = cond (ltb base.idx_end (length (popped pool))) (set (popped pool) base.idx_end t) (popped pool); made = view base.idx_begin (length (cond (ltb base.idx_end (length (popped pool))) (set (popped pool) base.idx_end t) (popped pool))) })
    go t end n (inl c) =
        let k = ltb-true base.idx_end (length (popped pool)) c in
        let m : length (set (popped pool) base.idx_end t) ≡ length (popped pool) = length-set (popped pool) base.idx_end t in
        rw c (record {
          pool = record {
            some = omega arith;
            few = omega (arith, g.few);
            trains = λ i x u w. ⊎_elim
                (λ (q : i ≡ base.idx_end). subst SomeTrain (ok_same (sym (set_same (popped pool) base.idx_end t k) ∙ ap (at (set (popped pool) base.idx_end t)) (sym q) ∙ w)) (g.trains (length pool - 1) t (omega arith) (λ z. omega arith) end))
                (λ (q : i ≡ base.idx_end → ⊥). keeps i x u q (sym (set_other (popped pool) base.idx_end t i q) ∙ w))
                (same_or_not i base.idx_end);
          };
          made = record { low = l; order = omega arith; high = omega arith };
          longer = omega arith;
        })
    go t end n (inr c) =
        let k = ltb-false base.idx_end (length (popped pool)) c in
        rw c (record {
          pool = record {
            some = omega (arith, g.sentinel);
            few = omega (arith, g.few);
            trains = λ i x u w. keeps i x u (λ q. omega (arith, at-below (popped pool) i w)) w;
          };
          made = record { low = l; order = omega (arith, g.sentinel); high = omega arith };
          longer = omega (arith, g.sentinel);
        })

pub add-blocking : (pool : List TrainIdx) (base add : TrainIdxsView) {p : Pooled} → PoolGood pool → 1 ≤ base.idx_begin → 1 ≤ add.idx_begin → add.idx_end ≤ length pool
    → add_blocking_trains pool base add ≡ ok p → United (length pool) p
unfolding add_blocking_trains pool_push
add-blocking pool base add {p} g l m n h =
    let a = need-ok (leb base.idx_begin base.idx_end) h in
    let b = need-ok (eqb (length pool) base.idx_end) a.1 in
    let c = need-ok (leb add.idx_begin add.idx_end) b.1 in
    let q = bind_ok (pool_push pool no_train) c.1 in
    let r = bind_ok (add_from base (add.idx_end - add.idx_begin) add.idx_begin q.0) q.2 in
    let e : length pool ≡ base.idx_end = eqb-true (length pool) base.idx_end b.0 in
    let o = leb-true base.idx_begin base.idx_end a.0 in
    let o₂ = leb-true add.idx_begin add.idx_end c.0 in
    let w = room-ok (leb (length pool + 1) pool_room) q.1 in
    let f : Adding base q.0 = subst (λ (x : List TrainIdx). Adding base x) (ok_same w.1) (record {
      sentinel = omega (arith, length-append pool (no_train ∷ []));
      few = omega (arith, length-append pool (no_train ∷ []), leb-true (length pool + 1) pool_room w.0);
      trains = λ i t u v x. ⊎_elim (λ y. g.trains i t u y.1) (λ y. absurd (v (y.0 ∙ e))) (at_push pool no_train i x);
    }) in
    let z = closing base r.0 l o (add-from base (add.idx_end - add.idx_begin) add.idx_begin q.0 r.0 f m (omega arith) r.1) r.2 in
    record { pool = z.pool; made = z.made; longer = omega (arith, z.longer) }

add_all : (pool : List TrainIdx) (large small : TrainIdxsView) {p : Pooled} → PoolGood pool → Blocking (length pool) large → Blocking (length pool) small
    → add_all_blocking_trains pool large small ≡ ok p → United (length pool) p
unfolding add_all_blocking_trains
add_all pool large small {p} g u v h =
    let a = need-ok (leb small.idx_begin small.idx_end) h in
    let t = bind_ok (slice pool large.idx_begin large.idx_end) a.1 in
    let o = room-ok (leb (length pool + length t.0) pool_room) t.2 in
    let q = pool ++ t.0 in
    let n = length-append pool t.0 in
    let k : PoolGood q = pool_more pool t.0 g (view-trains pool large.idx_begin large.idx_end g u.low t.1) (leb-true (length pool + length t.0) pool_room o.0) in
    let z = add-blocking q (view (length q - length t.0) (length q)) small k (omega (arith, g.some)) v.low (omega (arith, v.high)) o.1 in
    record { pool = z.pool; made = z.made; longer = omega (arith, z.longer) }

pub concat_good : (pool : List TrainIdx) (v w : TrainIdxsView) {p : Pooled} → PoolGood pool → Blocking (length pool) v → Blocking (length pool) w
    → concat_train_idx_views pool v w ≡ ok p → United (length pool) p
unfolding concat_train_idx_views
concat_good pool v w {p} g a b h = ⊎_elim
    (λ c. subst (λ (x : Pooled). United (length pool) x) (ok_same c.1) (record { pool = g; made = a; longer = omega arith }))
    (λ c. ⊎_elim
    (λ d. subst (λ (x : Pooled). United (length pool) x) (ok_same d.1) (record { pool = g; made = b; longer = omega arith }))
    (λ d. ⊎_elim
    (λ e. add-blocking pool v w g a.low b.low b.high e.1)
    (λ e. ⊎_elim
    (λ f. add-blocking pool w v g b.low a.low a.high f.1)
    (λ f. ⊎_elim
    (λ k. add_all pool v w g a b k.1)
    (λ k. add_all pool w v g b a k.1)
    (cond_cases (leb (size w) (size v)) f.1))
    (cond_cases (eqb (length pool) w.idx_end) e.1))
    (cond_cases (eqb (length pool) v.idx_end) d.1))
    (cond_cases (covers w v) c.1))
    (cond_cases (covers v w) h)
