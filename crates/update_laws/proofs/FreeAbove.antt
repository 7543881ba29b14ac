-- Within a round disp_node_idx_free can pass E + 1: an accepted train of 10 est records whose search comes to 12, computed. Assumes nothing.
-- The save node goes back from 5 over Fake nodes to node 0, whose event is that of node 6, and fixed - idx_save + idx_join_new is 5 - 0 + 7.
use Prim.Native.Nat.{ℕ, zero, suc}
use mathlib.Core.Path.{◌≡◌, refl}
use mathlib.Core.Bool.{false}
use mathlib.Core.List.{List, [], ◌∷◌}
use Rattle.disp_structs.specs.Train.{Train}
use Rattle.disp_structs.specs.declared.EstType.TheVariants.{Arrive, Clear, Fake}
use Rattle.free_path.specs.Base.{ok, no}
use Rattle.update_definition.specs.State.{Round, Search, go_on, ends}
use Rattle.update_definition.specs.Update.{search_step, search_at, round_at, Given, given_of, split_point, div_point, save_point}
use Rattle.update_laws.proofs.Build.{link, train, metres, est, node, dive, everything}

free-above_in : Train
free-above_in =
    record {
      est_times = (
          est 0 1 0 0 0 1 Clear ∷
          est 0 2 0 0 0 0 Fake ∷
          est 0 3 0 1 0 0 Fake ∷
          est 0 4 0 2 0 0 Fake ∷
          est 0 5 0 3 0 0 Fake ∷
          est 0 6 8 4 0 0 Fake ∷
          est 0 7 0 5 0 1 Clear ∷
          est 0 0 0 6 0 2 Arrive ∷
          est 0 9 0 5 0 0 Fake ∷
          est 0 0 0 8 0 2 Clear ∷ []);
      disp_path = (
          node 0 9218868437227405312 1 0 0 Clear ∷
          node 0 9218868437227405312 0 1 0 Fake ∷
          node 0 9218868437227405312 0 2 0 Fake ∷
          node 0 9218868437227405312 0 3 0 Fake ∷
          node 0 9218868437227405312 0 4 0 Fake ∷
          node 0 9218868437227405312 0 5 0 Fake ∷
          node 0 9218868437227405312 1 6 0 Clear ∷
          node 0 9218868437227405312 2 7 0 Arrive ∷ []);
      div_nodes = (dive 0 0 ∷ dive 9 8 ∷ []);
      disp_node_idx_fixed = 5;
      disp_node_idx_free = 7;
      disp_node_idx_front = 0;
      disp_node_idx_back = 0;
      dist_disp_path_search = metres 0;
      dist_fixed_max = metres 4607182418800017408;
      train_idx = train 1;
      diverge_room = 2;
    }

-- the update: link 2 is held by train 9, which was moved, and blocks
given : Given
given = given_of (0 ∷ 0 ∷ 9 ∷ []) (link 2 ∷ []) (train 9) false free-above_in (node 0 9218868437227405312 2 7 0 Arrive)

-- its first round begins at idx_split 7, div_idx_split 1, idx_save 5
splits : split_point given free-above_in 1 8 ≡ ok 7
unfolding everything free-above_in given
splits = refl

diverges : div_point free-above_in.div_nodes 7 1 (record { node = 8; divs = 2 }) ≡ ok 1
unfolding everything free-above_in
diverges = refl

saves : save_point free-above_in.disp_path 5 7 ≡ ok 5
unfolding everything free-above_in
saves = refl

-- disp_node_idx_free after each of n turns
unfoldable frees : ℕ → Round → Search → List ℕ
frees zero r s = []
frees (suc n) r s = elim (search_step r s) [ no k ↦ k ∷ [] | ok t ↦ elim t [ go_on u ↦ u.disp_node_idx_free ∷ frees n r u | ends e ↦ [] ] ]

free-above : frees 3 (round_at given free-above_in (node 0 9218868437227405312 2 7 0 Arrive) 7) (search_at free-above_in 7 1 5) ≡ (7 ∷ 8 ∷ 12 ∷ [])
unfolding everything free-above_in given frees
free-above = refl
