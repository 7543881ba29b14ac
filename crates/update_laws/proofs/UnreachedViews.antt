-- Views lie in the pool: reading one never fails, and the union of two is refused by its room alone. Assumes nothing.
use mathlib.Core.Path.{◌≡◌, refl, sym, ap, subst, ◌∙◌}
use mathlib.Core.Logic.{⊎_elim}
use mathlib.Core.Bool.{Bool, true, false, cond}
use mathlib.Core.List.{List, [], ◌∷◌, ◌++◌}
use Prim.Native.Nat.{ℕ, zero, suc, ◌+◌, ◌-◌, ◌≤◌, ◌<◌}
use native.Mathlib.Omega.{arith}
use lib.Dec.{leb, eqb}
use lib.ListN.{length, set, length-append}
use borrow.Author.Tests.{leb-true, le-leb, eqb-true, eq-eqb, eqb-false}
use Rattle.link_rules.specs.LinkIdx.{same_train, no_train}
use Rattle.link_rules.specs.declared.link_idx.TrainIdx.{TrainIdx}
use Rattle.disp_structs.specs.Values.{view, same_est, no_est}
use Rattle.disp_structs.specs.declared.EstIdx.{EstIdx}
use Rattle.disp_structs.specs.declared.TrainIdxsView.{TrainIdxsView}
use Rattle.free_path.specs.Base.{Res, ok, no, ◌>>=◌, ◌>>◌, need, room, at, last, part, slice, any}
use Rattle.free_path.specs.TrainIdxsView.{pool_room, pool_push, add_one, add_from, closed, add_blocking_trains, add_all_blocking_trains, concat_train_idx_views, covers, size}
use Rattle.update_definition.specs.State.{Search, view_of, blocked}
use Rattle.update_definition.specs.Look.{Here}
use Rattle.update_definition.specs.Moves.{trains_of, rewind_view}
use Rattle.update_laws.specs.Turns.{Stuck}
use Rattle.update_laws.specs.Good.{PoolGood, Blocking, ViewsGood}
use Rattle.update_laws.proofs.Answers.{no_ok, ok_same, room-ok}
use Rattle.update_laws.proofs.Lists.{at_some, at_push}
use Rattle.update_laws.proofs.Pools.{Adding, add-one, pool_more, view-trains, add-from}
use Rattle.update_laws.proofs.Views.{blocked-blocks}

-- ---- a view is read

pub slice-goes : {A : Type 0} (xs : List A) (b e : ℕ) → b ≤ e → e ≤ length xs → slice xs b e ≡ ok (part b e xs)
unfolding slice
slice-goes xs b e l m = rw (le-leb b e l, le-leb e (length xs) m)

pub trains-never : (e : ℕ) (s : Search) → ViewsGood e s → (x : EstIdx) → blocked s.views x ≡ true → (ts : List TrainIdx) × (trains_of s.train_idxs_blocking (view_of s.views x) ≡ ok ts)
trains-never e s g x h =
    let v = view_of s.views x in
    let b = blocked-blocks v (g.each x.0) h in
    (part v.idx_begin v.idx_end s.train_idxs_blocking, slice-goes s.train_idxs_blocking v.idx_begin v.idx_end b.order b.high)

-- ---- refused by room alone

abbrev pub OnlyRoom : {A : Type 0} → Res A → Type 0
OnlyRoom {A} m = (n : ℕ) → m ≡ no n → n ≡ 11

module _ {A : Type 0} where
  pub ok_only : (a : A) (m : Res A) → m ≡ ok a → OnlyRoom m
  ok_only a m q n h = no_ok (sym h ∙ q)

  no_same : (m n : ℕ) → ◌≡◌ {A = Res A} (no m) (no n) → m ≡ n
  no_same m n h = cc

  pub room_only : (t : Bool) {m : Res A} → (t ≡ true → OnlyRoom m) → OnlyRoom (room t >> m)
  room_only true f n h = f refl n h
  room_only false f n h = sym (no_same 11 n h)

  pub need_only : (t : Bool) {m : Res A} → t ≡ true → OnlyRoom m → OnlyRoom (need t >> m)
  need_only t {m} q f = subst (λ (b : Bool). OnlyRoom (need b >> m)) (sym q) f

  pub cond_only : (t : Bool) (m k : Res A) → (t ≡ true → OnlyRoom m) → (t ≡ false → OnlyRoom k) → OnlyRoom (cond t m k)
  cond_only true m k f g = f refl
  cond_only false m k f g = g refl

pub bind_only : {A B : Type 0} (m : Res A) (f : A → Res B) → OnlyRoom m → ((a : A) → m ≡ ok a → OnlyRoom (f a)) → OnlyRoom (m >>= f)
bind_only (ok a) f g k = k a refl
bind_only {A} (no x) f g k = λ n h. g n (ap no (no_same x n h))

at_only : {A : Type 0} (xs : List A) (i : ℕ) → i < length xs → OnlyRoom (at xs i)
at_only xs i l = let a = at_some xs i l in ok_only a.0 (at xs i) a.1

last_only : {A : Type 0} (xs : List A) → 0 < length xs → OnlyRoom (last xs)
last_only [] l = absurd (omega arith)
last_only (x ∷ xs) l = at_only (x ∷ xs) (length xs) (omega arith)

push_only : (xs : List TrainIdx) (t : TrainIdx) → OnlyRoom (pool_push xs t)
unfolding pool_push
push_only xs t = room_only (leb (length xs + 1) pool_room) (λ q. ok_only (xs ++ (t ∷ [])) (ok (xs ++ (t ∷ []))) refl)

one_only : (base : TrainIdxsView) (i : ℕ) (pool : List TrainIdx) → i < length pool → OnlyRoom (add_one base i pool)
unfolding add_one
one_only base i pool l = bind_only (at pool i) _ (at_only pool i l) (λ t q.
    cond_only (any (same_train t) (part base.idx_begin base.idx_end pool)) (ok (set pool base.idx_end t)) (pool_push (set pool base.idx_end t) t)
    (λ c. ok_only (set pool base.idx_end t) (ok (set pool base.idx_end t)) refl) (λ c. push_only (set pool base.idx_end t) t))

from_only : (base : TrainIdxsView) (k i : ℕ) (pool : List TrainIdx) → Adding base pool → 1 ≤ i → i + k ≤ base.idx_end → OnlyRoom (add_from base k i pool)
unfolding add_from
from_only base zero i pool g l m = ok_only pool (ok pool) refl
from_only base (suc k) i pool g l m = bind_only (add_one base i pool) (λ q. add_from base k (i + 1) q) (one_only base i pool (omega (arith, g.sentinel)))
    (λ q e. from_only base k (i + 1) q (add-one base i pool g l (omega arith) e) (omega arith) (omega arith))

closed_only : (base : TrainIdxsView) (pool : List TrainIdx) → 0 < length pool → OnlyRoom (closed base pool)
unfolding closed
closed_only base pool l = bind_only (last pool) _ (last_only pool l) (λ t q. ok_only _ _ refl)

-- ---- the union

blocking_only : (pool : List TrainIdx) (base add : TrainIdxsView) → PoolGood pool → 1 ≤ base.idx_begin → base.idx_begin ≤ base.idx_end → length pool ≡ base.idx_end → Blocking (length pool) add → OnlyRoom (add_blocking_trains pool base add)
unfolding add_blocking_trains pool_push
blocking_only pool base add g l o e b =
    need_only (leb base.idx_begin base.idx_end) (le-leb base.idx_begin base.idx_end o)
    (need_only (eqb (length pool) base.idx_end) (eq-eqb (length pool) base.idx_end e)
    (need_only (leb add.idx_begin add.idx_end) (le-leb add.idx_begin add.idx_end b.order)
    (bind_only (pool_push pool no_train) (λ q. add_from base (add.idx_end - add.idx_begin) add.idx_begin q >>= λ r. closed base r) (push_only pool no_train) (λ q p.
    let a = adding q p in
    bind_only (add_from base (add.idx_end - add.idx_begin) add.idx_begin q) (closed base)
    (from_only base (add.idx_end - add.idx_begin) add.idx_begin q a b.low (omega (arith, b.order, b.high)))
    (λ r p₂. closed_only base r (omega (arith, (add-from base (add.idx_end - add.idx_begin) add.idx_begin q r a b.low (omega (arith, b.order, b.high)) p₂).sentinel)))))))
  where
    adding : (q : List TrainIdx) → pool_push pool no_train ≡ ok q → Adding base q
    adding q p =
        let w = room-ok (leb (length pool + 1) pool_room) p in
        subst (λ (x : List TrainIdx). Adding base x) (ok_same w.1) (record {
          sentinel = omega (arith, length-append pool (no_train ∷ []));
          few = omega (arith, length-append pool (no_train ∷ []), leb-true (length pool + 1) pool_room w.0);
          trains = λ i t u v x. ⊎_elim (λ y. g.trains i t u y.1) (λ y. absurd (v (y.0 ∙ e))) (at_push pool no_train i x);
        })

all_only : (pool : List TrainIdx) (large small : TrainIdxsView) → PoolGood pool → Blocking (length pool) large → Blocking (length pool) small → OnlyRoom (add_all_blocking_trains pool large small)
unfolding add_all_blocking_trains
all_only pool large small g u v =
    let is = slice-goes pool large.idx_begin large.idx_end u.order u.high in
    need_only (leb small.idx_begin small.idx_end) (le-leb small.idx_begin small.idx_end v.order)
    (bind_only (slice pool large.idx_begin large.idx_end) _ (ok_only (part large.idx_begin large.idx_end pool) (slice pool large.idx_begin large.idx_end) is) (λ ts p.
    room_only (leb (length pool + length ts) pool_room) (λ q.
    let n = length-append pool ts in
    blocking_only (pool ++ ts) (view (length (pool ++ ts) - length ts) (length (pool ++ ts))) small
    (pool_more pool ts g (view-trains pool large.idx_begin large.idx_end g u.low p) (leb-true (length pool + length ts) pool_room q))
    (omega (arith, g.some)) (omega arith) refl (record { low = v.low; order = v.order; high = omega (arith, v.high) }))))

concat_only : (pool : List TrainIdx) (v w : TrainIdxsView) → PoolGood pool → Blocking (length pool) v → Blocking (length pool) w → OnlyRoom (concat_train_idx_views pool v w)
unfolding concat_train_idx_views
concat_only pool v w g a b =
    cond_only (covers v w) (ok (record { pool = pool; made = v })) _ (λ c. ok_only (record { pool = pool; made = v }) (ok (record { pool = pool; made = v })) refl) (λ c.
    cond_only (covers w v) (ok (record { pool = pool; made = w })) _ (λ d. ok_only (record { pool = pool; made = w }) (ok (record { pool = pool; made = w })) refl) (λ d.
    cond_only (eqb (length pool) v.idx_end) (add_blocking_trains pool v w) _ (λ e. blocking_only pool v w g a.low a.order (eqb-true (length pool) v.idx_end e) b) (λ e.
    cond_only (eqb (length pool) w.idx_end) (add_blocking_trains pool w v) _ (λ f. blocking_only pool w v g b.low b.order (eqb-true (length pool) w.idx_end f) a) (λ f.
    cond_only (leb (size w) (size v)) (add_all_blocking_trains pool v w) (add_all_blocking_trains pool w v) (λ h. all_only pool v w g a b) (λ h. all_only pool w v g b a)))))

-- the view of a rewound est: 11 alone
pub rewind-view-room : (e : ℕ) (s : Search) (h : Here) → ViewsGood e s → Stuck h s → OnlyRoom (rewind_view h.est_curr s.views s.train_idxs_blocking)
rewind-view-room e s h g st =
    let v = view_of s.views h.est_curr.idx_next in
    let w = view_of s.views h.est_curr.idx_next_alt in
    cond_only (same_est h.est_curr.idx_next_alt no_est) (ok (record { pool = s.train_idxs_blocking; made = v })) (concat_train_idx_views s.train_idxs_blocking v w)
    (λ c. ok_only (record { pool = s.train_idxs_blocking; made = v }) (ok (record { pool = s.train_idxs_blocking; made = v })) refl)
    (λ c. concat_only s.train_idxs_blocking v w g.pool (blocked-blocks v (g.each h.est_curr.idx_next.0) st.next)
    (blocked-blocks w (g.each h.est_curr.idx_next_alt.0) (⊎_elim (λ z. absurd (eqb-false h.est_curr.idx_next_alt.0 0 c z)) (λ z. z) st.alt)))
