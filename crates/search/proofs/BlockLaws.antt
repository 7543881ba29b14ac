-- An est blocked by trains: the pool, a push at a time, and block_by over the readings. Assumes nothing.
use mathlib.Core.Path.{◌≡◌}
use mathlib.Core.List.{List, ◌++◌, append_assoc}
use Prim.Native.Nat.{ℕ, ◌+◌, ◌≤◌, ◌<◌}
use native.Mathlib.Omega.{arith}
use native.Mathlib.Numerals.{add-one}
use lib.ListN.{length, get_or, take, set}
use borrow.Author.Tests.{le-leb, lt-leb}
use Rattle.link_rules.specs.declared.link_idx.TrainIdx.{TrainIdx}
use Rattle.disp_structs.specs.Values.{view}
use Rattle.disp_structs.specs.declared.EstIdx.{EstIdx}
use Rattle.disp_structs.specs.declared.DispNode.{DispNode}
use Rattle.disp_structs.specs.declared.DivergeNode.{DivergeNode}
use Rattle.disp_structs.specs.declared.TrainIdxsView.{TrainIdxsView}
use Rattle.free_path.specs.Base.{ok, no}
use Rattle.free_path.specs.Columns.{tr, trains}
use Rattle.disp_structs.specs.Listed.{listed}
use Rattle.free_path.proofs.CountLaws.{counted, push}
use Rattle.free_path.proofs.PoolLaws.{trains-set, trains-length}
use Rattle.update_definition.specs.State.{push_trains}
use Rattle.update_definition.specs.Look.{block_by}
use Rattle.search.specs.Read.{trains_from, search_of}
use Rattle.search.specs.declared.Place.{Place}

-- one train more
pub push_turn : (arr col : List ℕ) (l : List TrainIdx) (n a j : ℕ) → n + j < length arr → take (n + j) (trains arr) ≡ l ++ trains_from col a j
    → (x : ℕ) → x ≡ get_or col (a + j) 0 → take (n + (j + 1)) (trains (set arr (n + j) x)) ≡ l ++ trains_from col a (j + 1)
unfolding listed
push_turn arr col l n a j h q x e =
    let k : n + (j + 1) ≡ n + j + 1 = omega arith in
    rw (k, trains-set arr (n + j) x, push (trains arr) (n + j) (tr x) (omega (arith, trains-length arr)), q, add-one j, e, append_assoc)

module _ (p : Place) (new : List DispNode) (divs : List DivergeNode) (arr : List ℕ) (views : List TrainIdxsView) (e : EstIdx) (ts : List TrainIdx) (l : length arr ≡ 2048) (s : p.pool_count ≤ 2048) where
  has : length (take p.pool_count (trains arr)) ≡ p.pool_count
  has = counted (trains arr) p.pool_count (omega (arith, trains-length arr))

  pub block_full : (k : ℕ) → length ts ≡ k → 2048 < p.pool_count + k → no 11 ≡ block_by (search_of p new divs (take p.pool_count (trains arr)) views) e ts
  unfolding block_by push_trains
  block_full k m h = rw (has, m, lt-leb (p.pool_count + k) 2048 h)

  pub block_room : (k : ℕ) → length ts ≡ k → p.pool_count + k ≤ 2048 → (pool : List TrainIdx) → pool ≡ take p.pool_count (trains arr) ++ ts
      → (after : List TrainIdxsView) → after ≡ set views e.0 (view p.pool_count (p.pool_count + k))
      → ok (search_of p new divs pool after) ≡ block_by (search_of p new divs (take p.pool_count (trains arr)) views) e ts
  unfolding block_by push_trains
  block_room k m h pool q after w = rw (has, m, le-leb (p.pool_count + k) 2048 h, q, w)
