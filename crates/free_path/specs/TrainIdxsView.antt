-- The pool of blocking trains, and the union of two views (free_path.rs 152-240). Assumes nothing.
use Rattle.std.specs.Prelude.{ℕ, zero, suc, ◌+◌, ◌-◌, Bool, cond, ◌&&◌, ◌||◌, List, [], ◌∷◌, ◌++◌, length, ◌==◌, nat_le, nat_lt, slice_set}
use Rattle.link_rules.specs.LinkIdx.{same_train, no_train}
use Rattle.link_rules.specs.declared.link_idx.TrainIdx.{TrainIdx}
use Rattle.disp_structs.specs.Values.{view}
use Rattle.disp_structs.specs.declared.TrainIdxsView.{TrainIdxsView}
use Rattle.free_path.specs.Base.{Res, ok, ◌>>=◌, ◌>>◌, need, room, at, last, popped, part, slice, any}

-- document 01's room of the pool
abbrev pub pool_room : ℕ
pool_room = 2048

-- the pool after a union, and the view of the union
pub record Pooled : Type 0 where
  pub pool : List TrainIdx
  pub made : TrainIdxsView

-- trains_blocking.push: at most 2,048, the sentinel counted
unfoldable pub pool_push : List TrainIdx → TrainIdx → Res (List TrainIdx)
pool_push pool t = do
  room (nat_le (length pool + 1) pool_room)
  ok (pool ++ (t ∷ []))

-- one train of the added view (165-180): the sentinel's place, at base's end, takes it; it is pushed if base has it not
unfoldable pub add_one : TrainIdxsView → ℕ → List TrainIdx → Res (List TrainIdx)
add_one base i pool = do
  t ← at pool i
  let q = slice_set pool base.idx_end t
  let pushed = pool_push q t
  cond (any (same_train t) (part base.idx_begin base.idx_end pool)) (ok q) pushed

-- k trains of it, from i on (164)
unfoldable pub add_from : TrainIdxsView → ℕ → ℕ → List TrainIdx → Res (List TrainIdx)
add_from base zero i pool = ok pool
add_from base (suc k) i pool = add_one base i pool >>= λ q. add_from base k (i + 1) q

-- the last one goes to the sentinel's place, or was the sentinel (183-193)
unfoldable pub closed : TrainIdxsView → List TrainIdx → Res Pooled
closed base pool = do
  t ← last pool
  let q = popped pool
  let r = cond (nat_lt base.idx_end (length q)) (slice_set q base.idx_end t) q
  ok (record { pool = r; made = view base.idx_begin (length r) })

-- add_blocking_trains (153-194)
unfoldable pub add_blocking_trains : List TrainIdx → TrainIdxsView → TrainIdxsView → Res Pooled
add_blocking_trains pool base add = do
  need (nat_le base.idx_begin base.idx_end)
  need (length pool == base.idx_end)
  need (nat_le add.idx_begin add.idx_end)
  q ← pool_push pool no_train
  r ← add_from base (add.idx_end - add.idx_begin) add.idx_begin q
  closed base r

-- add_all_blocking_trains (197-214)
unfoldable pub add_all_blocking_trains : List TrainIdx → TrainIdxsView → TrainIdxsView → Res Pooled
add_all_blocking_trains pool large small = do
  need (nat_le small.idx_begin small.idx_end)
  ts ← slice pool large.idx_begin large.idx_end
  room (nat_le (length pool + length ts) pool_room)
  let q = pool ++ ts
  add_blocking_trains q (view (length q - length ts) (length q)) small

-- is v empty, or does u hold its index range? (221-223, 226-228)
abbrev pub covers : TrainIdxsView → TrainIdxsView → Bool
covers u v = v.idx_begin == v.idx_end || (nat_le u.idx_begin v.idx_begin && nat_le v.idx_end u.idx_end)

-- TrainIdxsView::len
abbrev pub size : TrainIdxsView → ℕ
size v = v.idx_end - v.idx_begin

-- concat_train_idx_views (216-240)
unfoldable pub concat_train_idx_views : List TrainIdx → TrainIdxsView → TrainIdxsView → Res Pooled
concat_train_idx_views pool v w =
    let by_end = add_blocking_trains pool v w in
    let by_add = add_blocking_trains pool w v in
    let by_large = add_all_blocking_trains pool v w in
    let by_small = add_all_blocking_trains pool w v in
    cond (covers v w) (ok (record { pool = pool; made = v }))
    (cond (covers w v) (ok (record { pool = pool; made = w }))
    (cond (length pool == v.idx_end) by_end
    (cond (length pool == w.idx_end) by_add
    (cond (nat_le (size w) (size v)) by_large by_small))))
