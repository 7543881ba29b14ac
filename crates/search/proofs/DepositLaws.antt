-- Trains of a view deposited at a node, and Alternate, test by test as the code has them. Assumes nothing.
use mathlib.Core.Path.{◌≡◌, refl, sym, ap, ap₂, ◌∙◌}
use mathlib.Core.List.{List, [], ◌∷◌, ◌++◌, append_assoc}
use Prim.Native.Nat.{ℕ, zero, suc, ◌+◌, ◌-◌, ◌≤◌, ◌<◌}
use native.Mathlib.Omega.{arith}
use native.Mathlib.Numerals.{add-one}
use lib.ListN.{length, get_or, take, set, length-map}
use lib.Seq.{take-suc, get_or-set_same, get_or-set_other}
use borrow.Author.Tests.{le-leb, lt-leb}
use Rattle.link_rules.specs.LinkIdx.{no_train}
use Rattle.link_rules.specs.declared.link_idx.TrainIdx.{TrainIdx}
use Rattle.disp_structs.specs.declared.DispNode.{DispNode}
use Rattle.disp_structs.specs.declared.DivergeNode.{DivergeNode}
use Rattle.disp_structs.specs.declared.TrainIdxsView.{TrainIdxsView}
use Rattle.free_path.specs.Base.{Res, ok, no, ◌>>=◌, slice}
use Rattle.free_path.specs.Columns.{div_at, tr, trains}
use Rattle.disp_structs.specs.Listed.{listed}
use Rattle.disp_structs.proofs.ListedLaws.{listed-length, listed-map, listed_same}
use Rattle.free_path.proofs.PoolLaws.{trains-at, trains-length}
use Rattle.update_definition.specs.State as State
use Rattle.update_definition.specs.State.{diverging, push_divs}
use Rattle.update_definition.specs.Look as Look
use Rattle.update_definition.specs.Moves as Moves
use Rattle.update_definition.specs.Moves.{trains_of, alternate_free, alternate_node}
use Rattle.search.specs.Read.{divs_of, trains_from}
use Rattle.search.proofs.ListedLaws.{listed_push, listed-part}
use Rattle.search.specs.Effects.{push_turn, deposit}

abbrev pub div_of : ℕ → ℕ → DivergeNode
div_of node t = record { train_idx = tr t; disp_node_idx = node }

-- k of them, of the trains of a column from b on
abbrev pub divs_from : ℕ → List ℕ → ℕ → ℕ → List DivergeNode
divs_from node col b k = listed k (λ j. div_of node (get_or col (b + j) 0))

pub divs-from : (node : ℕ) (col : List ℕ) (b k : ℕ) → divs_from node col b k ≡ diverging node (trains_from col b k)
unfolding diverging
divs-from node col b k = sym (listed-map (λ (t : TrainIdx). record { train_idx = t; disp_node_idx = node }) k (λ j. tr (get_or col (b + j) 0)))

-- one more
pub div_turn : (ts ns col : List ℕ) (l : List DivergeNode) (node n b j : ℕ) → n + j < length ts → n + j < length ns → divs_of (n + j) ts ns ≡ l ++ divs_from node col b j
    → divs_of (n + (j + 1)) (set ts (n + j) (get_or col (b + j) 0)) (set ns (n + j) node) ≡ l ++ divs_from node col b (j + 1)
unfolding listed
div_turn ts ns col l node n b j h k q =
    let e : n + (j + 1) ≡ n + j + 1 = omega arith in
    let x = get_or col (b + j) 0 in
    let w : divs_of (n + j + 1) (set ts (n + j) (get_or col (b + j) 0)) (set ns (n + j) node) ≡ divs_of (n + j) ts ns ++ (div_of node (get_or col (b + j) 0) ∷ []) =
    listed_push (n + j) (div_at ts ns) (div_at (set ts (n + j) (get_or col (b + j) 0)) (set ns (n + j) node)) (div_of node (get_or col (b + j) 0))
    (λ i m. ap₂ (λ (u : ℕ) (v : ℕ). div_of v u) (get_or-set_other ts (n + j) i (get_or col (b + j) 0) 0 (λ o. omega arith)) (get_or-set_other ns (n + j) i node 0 (λ o. omega arith)))
    (ap₂ (λ (u : ℕ) (v : ℕ). div_of v u) (get_or-set_same ts (n + j) (get_or col (b + j) 0) 0 h) (get_or-set_same ns (n + j) node 0 k)) in
    rw (e, w, q, add-one j, append_assoc)

-- the pool by number
array_listed : {A : Type 0} (n : ℕ) (xs : List A) (d : A) → n ≤ length xs → take n xs ≡ listed n (λ i. get_or xs i d)
unfolding listed
array_listed zero xs d h = refl
array_listed {A} (suc n) xs d h = take-suc xs n d (omega arith) ∙ ap (λ (l : List A). l ++ (get_or xs n d ∷ [])) (array_listed n xs d (omega arith))

module _ (arr : List ℕ) (len : ℕ) (v : TrainIdxsView) (room n node : ℕ) (ts ns : List ℕ) (l : length arr ≡ 2048) (m : len ≤ 2048) where
  pool-listed : take len (trains arr) ≡ listed len (λ i. tr (get_or arr i 0))
  pool-listed = array_listed len (trains arr) no_train (omega (arith, trains-length arr)) ∙ listed_same len (λ i. tr (get_or arr i 0)) (λ i. get_or (trains arr) i no_train) (λ i k. trains-at arr i)

  pub deposit-order : v.idx_end < v.idx_begin → no 13 ≡ deposit (take len (trains arr)) v room (divs_of n ts ns) node
  unfolding slice
  deposit-order h = rw (lt-leb v.idx_begin v.idx_end h)

  module _ (o : v.idx_begin ≤ v.idx_end) where
    pub deposit_out : len < v.idx_end → no 13 ≡ deposit (take len (trains arr)) v room (divs_of n ts ns) node
    unfolding slice
    deposit_out h = rw (pool-listed, listed-length len (λ i. tr (get_or arr i 0)), le-leb v.idx_begin v.idx_end o, lt-leb v.idx_end len h)

    module _ (o₂ : v.idx_end ≤ len) where
      through : deposit (take len (trains arr)) v room (divs_of n ts ns) node ≡ push_divs room (divs_of n ts ns) (diverging node (trains_from arr v.idx_begin (v.idx_end - v.idx_begin)))
      unfolding slice
      through = rw (pool-listed, listed-length len (λ i. tr (get_or arr i 0)), le-leb v.idx_begin v.idx_end o, le-leb v.idx_end len o₂, listed-part len (λ i. tr (get_or arr i 0)) v.idx_begin v.idx_end o o₂)

      size : length (divs_of n ts ns) + length (diverging node (trains_from arr v.idx_begin (v.idx_end - v.idx_begin))) ≡ n + (v.idx_end - v.idx_begin)
      unfolding diverging
      size = rw (listed-length n (div_at ts ns), length-map, listed-length (v.idx_end - v.idx_begin) (λ j. tr (get_or arr (v.idx_begin + j) 0)))

      pub deposit_full : room < n + (v.idx_end - v.idx_begin) → no 11 ≡ deposit (take len (trains arr)) v room (divs_of n ts ns) node
      unfolding push_divs
      deposit_full h = sym (through ∙ rw (size, lt-leb (n + (v.idx_end - v.idx_begin)) room h))

      pub deposit-room : n + (v.idx_end - v.idx_begin) ≤ room → (d : List DivergeNode) → d ≡ divs_of n ts ns ++ diverging node (trains_from arr v.idx_begin (v.idx_end - v.idx_begin)) → ok d ≡ deposit (take len (trains arr)) v room (divs_of n ts ns) node
      unfolding push_divs
      deposit-room h d q = sym (through ∙ rw (size, le-leb (n + (v.idx_end - v.idx_begin)) room h, q))

-- ---- Alternate

module _ (r : State.Round) (h : Look.Here) (s : State.Search) where
  abbrev Next : List DivergeNode → Res State.Turn
  Next ds = push_turn (State.set_divs_new (State.set_free s (alternate_free h.idx_join_new s.disp_node_idx_free)) ds) (alternate_node h.disp_node_curr h.est_curr.idx_next_alt)

  whole : Moves.alternate r h s ≡ (deposit s.train_idxs_blocking (State.view_of s.views h.est_curr.idx_next) r.train.diverge_room s.div_nodes_new h.idx_join_new >>= Next)
  unfolding Moves.alternate
  whole = go (trains_of s.train_idxs_blocking (State.view_of s.views h.est_curr.idx_next))
    where
      go : (x : Res (List TrainIdx))
          → (x >>= λ ts. push_divs r.train.diverge_room s.div_nodes_new (diverging h.idx_join_new ts) >>= Next) ≡ ((x >>= λ ts. push_divs r.train.diverge_room s.div_nodes_new (diverging h.idx_join_new ts)) >>= Next)
      go (ok ts) = refl
      go (no n) = refl

  abbrev Deposited : Res (List DivergeNode)
  Deposited = deposit s.train_idxs_blocking (State.view_of s.views h.est_curr.idx_next) r.train.diverge_room s.div_nodes_new h.idx_join_new

  pub alternate_stop : (c : ℕ) → no c ≡ Deposited → no c ≡ Moves.alternate r h s
  alternate_stop c q = ap (λ (x : Res (List DivergeNode)). x >>= Next) q ∙ sym whole

  pub alternate_go : (ds : List DivergeNode) → ok ds ≡ Deposited → (f : ℕ) → f ≡ alternate_free h.idx_join_new s.disp_node_idx_free → (n : DispNode) → n ≡ alternate_node h.disp_node_curr h.est_curr.idx_next_alt
      → push_turn (State.set_divs_new (State.set_free s f) ds) n ≡ Moves.alternate r h s
  alternate_go ds q f e n w = rw (e, w) (ap (λ (x : Res (List DivergeNode)). x >>= Next) q ∙ sym whole)
