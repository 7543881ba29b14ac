-- One update for each panic site that an accepted train reaches (free_path.rs, by line): refused 13, computed. Assumes nothing.
use mathlib.Core.Path.{◌≡◌, refl}
use mathlib.Core.Bool.{false}
use mathlib.Core.List.{[], ◌∷◌}
use Rattle.disp_structs.specs.Train.{Train}
use Rattle.disp_structs.specs.declared.EstType.TheVariants.{Arrive, Clear, Fake}
use Rattle.update_definition.specs.Update.{update_free_path}
use Rattle.update_laws.proofs.Build.{link, train, metres, est, node, dive, digest, everything}

line_296_in : Train
line_296_in =
    record {
      est_times = (
          est 0 2 0 0 0 0 Fake ∷
          est 0 3 0 0 0 0 Fake ∷
          est 0 1 3 0 0 0 Fake ∷
          est 0 0 0 0 0 0 Fake ∷ []);
      disp_path = (
          node 0 9218868437227405312 0 0 0 Fake ∷
          node 0 9218868437227405312 0 2 0 Fake ∷
          node 0 9218868437227405312 1 3 0 Arrive ∷ []);
      div_nodes = (dive 0 0 ∷ dive 1 2 ∷ dive 0 3 ∷ []);
      disp_node_idx_fixed = 3;
      disp_node_idx_free = 0;
      disp_node_idx_front = 0;
      disp_node_idx_back = 0;
      dist_disp_path_search = metres 0;
      dist_fixed_max = metres 0;
      train_idx = train 3;
      diverge_room = 3;
    }

line_296 : digest (update_free_path (0 ∷ 0 ∷ []) (link 1 ∷ []) (train 1) false 40 line_296_in) ≡ (3 ∷ 13 ∷ 0 ∷ 2 ∷ 0 ∷ 3 ∷ 0 ∷ 0 ∷ 0 ∷ 0 ∷ 9218868437227405312 ∷ 0 ∷ 0 ∷ 0 ∷ 2 ∷ 0 ∷ 9218868437227405312 ∷ 0 ∷ 2 ∷ 0 ∷ 2 ∷ 0 ∷ 9218868437227405312 ∷ 1 ∷ 3 ∷ 0 ∷ 0 ∷ 0 ∷ 0 ∷ 1 ∷ 2 ∷ 0 ∷ 3 ∷ [])
unfolding everything line_296_in
line_296 = refl

line_338_in : Train
line_338_in =
    record {
      est_times = (
          est 0 1 0 0 0 0 Fake ∷
          est 0 0 0 0 0 0 Fake ∷ []);
      disp_path = (
          node 0 9218868437227405312 0 0 0 Fake ∷
          node 0 9218868437227405312 0 1 0 Fake ∷ []);
      div_nodes = (dive 0 0 ∷ dive 2 1 ∷ dive 0 2 ∷ []);
      disp_node_idx_fixed = 2;
      disp_node_idx_free = 0;
      disp_node_idx_front = 0;
      disp_node_idx_back = 0;
      dist_disp_path_search = metres 0;
      dist_fixed_max = metres 0;
      train_idx = train 6;
      diverge_room = 3;
    }

line_338 : digest (update_free_path (0 ∷ 0 ∷ []) [] (train 2) false 40 line_338_in) ≡ (3 ∷ 13 ∷ 0 ∷ 1 ∷ 0 ∷ 2 ∷ 0 ∷ 0 ∷ 0 ∷ 0 ∷ 9218868437227405312 ∷ 0 ∷ 0 ∷ 0 ∷ 2 ∷ 0 ∷ 9218868437227405312 ∷ 0 ∷ 1 ∷ 0 ∷ 2 ∷ 0 ∷ 0 ∷ 2 ∷ 1 ∷ 0 ∷ 2 ∷ [])
unfolding everything line_338_in
line_338 = refl

line_356_in : Train
line_356_in =
    record {
      est_times = (
          est 0 0 1 0 0 0 Fake ∷
          est 0 0 0 0 0 0 Fake ∷ []);
      disp_path = (
          node 0 9218868437227405312 0 0 0 Fake ∷
          node 0 9218868437227405312 5 1 0 Arrive ∷ []);
      div_nodes = (dive 0 0 ∷ dive 0 2 ∷ []);
      disp_node_idx_fixed = 0;
      disp_node_idx_free = 0;
      disp_node_idx_front = 0;
      disp_node_idx_back = 0;
      dist_disp_path_search = metres 0;
      dist_fixed_max = metres 0;
      train_idx = train 1;
      diverge_room = 2;
    }

line_356 : digest (update_free_path (0 ∷ 0 ∷ 0 ∷ 0 ∷ 0 ∷ 0 ∷ []) (link 5 ∷ []) (train 1) false 40 line_356_in) ≡ (3 ∷ 13 ∷ 0 ∷ 1 ∷ 0 ∷ 0 ∷ 0 ∷ 0 ∷ 0 ∷ 0 ∷ 9218868437227405312 ∷ 0 ∷ 0 ∷ 0 ∷ 2 ∷ 0 ∷ 9218868437227405312 ∷ 5 ∷ 1 ∷ 0 ∷ 0 ∷ 0 ∷ 0 ∷ 0 ∷ 2 ∷ [])
unfolding everything line_356_in
line_356 = refl

line_364_in : Train
line_364_in =
    record {
      est_times = (
          est 0 1 0 0 0 0 Fake ∷
          est 0 0 0 0 0 0 Fake ∷ []);
      disp_path = (
          node 0 9218868437227405312 0 0 0 Fake ∷
          node 0 9218868437227405312 1 1 0 Arrive ∷ []);
      div_nodes = (dive 0 0 ∷ dive 4 1 ∷ dive 6 2 ∷ []);
      disp_node_idx_fixed = 0;
      disp_node_idx_free = 0;
      disp_node_idx_front = 0;
      disp_node_idx_back = 0;
      dist_disp_path_search = metres 0;
      dist_fixed_max = metres 0;
      train_idx = train 1;
      diverge_room = 3;
    }

line_364 : digest (update_free_path (0 ∷ 0 ∷ []) (link 1 ∷ []) (train 1) false 40 line_364_in) ≡ (3 ∷ 13 ∷ 0 ∷ 1 ∷ 0 ∷ 0 ∷ 0 ∷ 0 ∷ 0 ∷ 0 ∷ 9218868437227405312 ∷ 0 ∷ 0 ∷ 0 ∷ 2 ∷ 0 ∷ 9218868437227405312 ∷ 1 ∷ 1 ∷ 0 ∷ 0 ∷ 0 ∷ 0 ∷ 4 ∷ 1 ∷ 6 ∷ 2 ∷ [])
unfolding everything line_364_in
line_364 = refl

line_365_in : Train
line_365_in =
    record {
      est_times = (
          est 0 1 2 0 0 0 Fake ∷
          est 0 0 0 0 0 0 Fake ∷
          est 0 1 0 0 0 0 Fake ∷ []);
      disp_path = (
          node 0 9218868437227405312 0 0 0 Fake ∷
          node 0 9218868437227405312 1 1 0 Arrive ∷ []);
      div_nodes = (dive 0 0 ∷ dive 3 1 ∷ dive 0 2 ∷ []);
      disp_node_idx_fixed = 0;
      disp_node_idx_free = 0;
      disp_node_idx_front = 0;
      disp_node_idx_back = 0;
      dist_disp_path_search = metres 0;
      dist_fixed_max = metres 0;
      train_idx = train 3;
      diverge_room = 3;
    }

line_365 : digest (update_free_path (0 ∷ 0 ∷ []) (link 1 ∷ []) (train 1) false 2 line_365_in) ≡ (3 ∷ 13 ∷ 0 ∷ 1 ∷ 0 ∷ 0 ∷ 0 ∷ 0 ∷ 0 ∷ 0 ∷ 9218868437227405312 ∷ 0 ∷ 0 ∷ 0 ∷ 2 ∷ 0 ∷ 9218868437227405312 ∷ 1 ∷ 1 ∷ 0 ∷ 0 ∷ 0 ∷ 0 ∷ 3 ∷ 1 ∷ 0 ∷ 2 ∷ [])
unfolding everything line_365_in
line_365 = refl

line_366_in : Train
line_366_in =
    record {
      est_times = (
          est 9223372036854775808 1 1 0 0 0 Fake ∷
          est 0 2 0 0 0 0 Fake ∷
          est 0 0 0 0 0 6 Arrive ∷ []);
      disp_path = (
          node 0 9218868437227405312 0 0 0 Fake ∷
          node 0 9218868437227405312 0 1 0 Fake ∷
          node 0 9218868437227405312 6 2 0 Arrive ∷ []);
      div_nodes = (dive 0 0 ∷ dive 1 1 ∷ dive 0 3 ∷ []);
      disp_node_idx_fixed = 0;
      disp_node_idx_free = 0;
      disp_node_idx_front = 0;
      disp_node_idx_back = 0;
      dist_disp_path_search = metres 0;
      dist_fixed_max = metres 4670072834641362944;
      train_idx = train 3;
      diverge_room = 3;
    }

line_366 : digest (update_free_path (0 ∷ 0 ∷ 0 ∷ 0 ∷ 0 ∷ 0 ∷ 2 ∷ []) (link 6 ∷ []) (train 2) false 40 line_366_in) ≡ (3 ∷ 13 ∷ 0 ∷ 1 ∷ 0 ∷ 0 ∷ 0 ∷ 0 ∷ 0 ∷ 0 ∷ 9218868437227405312 ∷ 0 ∷ 0 ∷ 0 ∷ 2 ∷ 0 ∷ 9218868437227405312 ∷ 0 ∷ 1 ∷ 0 ∷ 2 ∷ 0 ∷ 9218868437227405312 ∷ 6 ∷ 2 ∷ 0 ∷ 0 ∷ 0 ∷ 0 ∷ 1 ∷ 1 ∷ 0 ∷ 3 ∷ [])
unfolding everything line_366_in
line_366 = refl

line_378_in : Train
line_378_in =
    record {
      est_times = (
          est 0 1 1 0 0 0 Fake ∷
          est 0 0 0 0 0 0 Fake ∷ []);
      disp_path = (
          node 0 9218868437227405312 0 0 0 Fake ∷
          node 0 9218868437227405312 1 1 0 Arrive ∷ []);
      div_nodes = (dive 0 0 ∷ dive 6 1 ∷ dive 6 2 ∷ []);
      disp_node_idx_fixed = 0;
      disp_node_idx_free = 0;
      disp_node_idx_front = 0;
      disp_node_idx_back = 0;
      dist_disp_path_search = metres 0;
      dist_fixed_max = metres 0;
      train_idx = train 5;
      diverge_room = 3;
    }

line_378 : digest (update_free_path (0 ∷ 0 ∷ []) (link 1 ∷ []) (train 1) false 40 line_378_in) ≡ (3 ∷ 13 ∷ 0 ∷ 1 ∷ 0 ∷ 0 ∷ 0 ∷ 0 ∷ 0 ∷ 0 ∷ 9218868437227405312 ∷ 0 ∷ 0 ∷ 0 ∷ 2 ∷ 0 ∷ 9218868437227405312 ∷ 1 ∷ 1 ∷ 0 ∷ 0 ∷ 0 ∷ 0 ∷ 6 ∷ 1 ∷ 6 ∷ 2 ∷ [])
unfolding everything line_378_in
line_378 = refl

line_424_in : Train
line_424_in =
    record {
      est_times = (
          est 0 1 0 0 0 0 Fake ∷
          est 0 0 0 0 0 1 Arrive ∷ []);
      disp_path = (
          node 0 9218868437227405312 0 0 0 Clear ∷
          node 0 9218868437227405312 1 1 0 Arrive ∷ []);
      div_nodes = (dive 0 0 ∷ dive 4 2 ∷ []);
      disp_node_idx_fixed = 0;
      disp_node_idx_free = 1;
      disp_node_idx_front = 0;
      disp_node_idx_back = 0;
      dist_disp_path_search = metres 0;
      dist_fixed_max = metres 0;
      train_idx = train 6;
      diverge_room = 2;
    }

line_424 : digest (update_free_path (0 ∷ 2 ∷ []) (link 1 ∷ []) (train 1) false 40 line_424_in) ≡ (3 ∷ 13 ∷ 0 ∷ 1 ∷ 0 ∷ 0 ∷ 1 ∷ 0 ∷ 0 ∷ 0 ∷ 9218868437227405312 ∷ 0 ∷ 0 ∷ 0 ∷ 1 ∷ 0 ∷ 9218868437227405312 ∷ 1 ∷ 1 ∷ 0 ∷ 0 ∷ 0 ∷ 0 ∷ 4 ∷ 2 ∷ [])
unfolding everything line_424_in
line_424 = refl

line_426_in : Train
line_426_in =
    record {
      est_times = (
          est 0 1 0 0 0 0 Fake ∷
          est 0 2 0 0 0 0 Fake ∷
          est 0 0 0 0 0 5 Arrive ∷ []);
      disp_path = (
          node 0 9218868437227405312 0 0 0 Fake ∷
          node 0 9218868437227405312 1 1 0 Arrive ∷
          node 0 9218868437227405312 5 2 0 Arrive ∷ []);
      div_nodes = (dive 0 0 ∷ dive 6 3 ∷ []);
      disp_node_idx_fixed = 1;
      disp_node_idx_free = 2;
      disp_node_idx_front = 0;
      disp_node_idx_back = 0;
      dist_disp_path_search = metres 0;
      dist_fixed_max = metres 0;
      train_idx = train 5;
      diverge_room = 2;
    }

line_426 : digest (update_free_path (0 ∷ 0 ∷ 0 ∷ 0 ∷ 0 ∷ 15 ∷ []) (link 5 ∷ []) (train 1) false 40 line_426_in) ≡ (3 ∷ 13 ∷ 0 ∷ 1 ∷ 0 ∷ 1 ∷ 2 ∷ 0 ∷ 0 ∷ 0 ∷ 9218868437227405312 ∷ 0 ∷ 0 ∷ 0 ∷ 2 ∷ 0 ∷ 9218868437227405312 ∷ 1 ∷ 1 ∷ 0 ∷ 0 ∷ 0 ∷ 9218868437227405312 ∷ 5 ∷ 2 ∷ 0 ∷ 0 ∷ 0 ∷ 0 ∷ 6 ∷ 3 ∷ [])
unfolding everything line_426_in
line_426 = refl

line_430_in : Train
line_430_in =
    record {
      est_times = (
          est 0 1 0 0 0 0 Fake ∷
          est 0 2 0 0 0 0 Fake ∷
          est 0 3 0 0 0 0 Fake ∷
          est 0 0 0 0 0 5 Arrive ∷ []);
      disp_path = (
          node 0 9218868437227405312 0 0 0 Fake ∷
          node 0 9218868437227405312 3 1 0 Arrive ∷
          node 0 9218868437227405312 2 2 0 Arrive ∷
          node 0 9218868437227405312 5 3 0 Arrive ∷ []);
      div_nodes = (dive 0 0 ∷ dive 2 4 ∷ []);
      disp_node_idx_fixed = 2;
      disp_node_idx_free = 3;
      disp_node_idx_front = 0;
      disp_node_idx_back = 0;
      dist_disp_path_search = metres 0;
      dist_fixed_max = metres 0;
      train_idx = train 6;
      diverge_room = 2;
    }

line_430 : digest (update_free_path (0 ∷ 0 ∷ 0 ∷ 0 ∷ 0 ∷ 5 ∷ []) (link 5 ∷ []) (train 1) false 40 line_430_in) ≡ (3 ∷ 13 ∷ 0 ∷ 1 ∷ 0 ∷ 2 ∷ 3 ∷ 0 ∷ 0 ∷ 0 ∷ 9218868437227405312 ∷ 0 ∷ 0 ∷ 0 ∷ 2 ∷ 0 ∷ 9218868437227405312 ∷ 3 ∷ 1 ∷ 0 ∷ 0 ∷ 0 ∷ 9218868437227405312 ∷ 2 ∷ 2 ∷ 0 ∷ 0 ∷ 0 ∷ 9218868437227405312 ∷ 5 ∷ 3 ∷ 0 ∷ 0 ∷ 0 ∷ 0 ∷ 2 ∷ 4 ∷ [])
unfolding everything line_430_in
line_430 = refl

line_503_in : Train
line_503_in =
    record {
      est_times = (
          est 0 3 1 0 0 0 Fake ∷
          est 0 3 2 0 0 0 Fake ∷
          est 0 0 0 0 0 0 Fake ∷
          est 0 2 0 0 0 14 Arrive ∷ []);
      disp_path = (
          node 0 9218868437227405312 0 0 0 Fake ∷
          node 0 9218868437227405312 14 3 0 Arrive ∷
          node 0 9218868437227405312 0 2 0 Fake ∷ []);
      div_nodes = (dive 0 0 ∷ dive 1 3 ∷ []);
      disp_node_idx_fixed = 0;
      disp_node_idx_free = 0;
      disp_node_idx_front = 0;
      disp_node_idx_back = 0;
      dist_disp_path_search = metres 0;
      dist_fixed_max = metres 0;
      train_idx = train 5;
      diverge_room = 2;
    }

line_503 : digest (update_free_path (0 ∷ 0 ∷ 0 ∷ 0 ∷ 0 ∷ 0 ∷ 0 ∷ 0 ∷ 0 ∷ 0 ∷ 0 ∷ 0 ∷ 0 ∷ 0 ∷ 4 ∷ []) (link 14 ∷ []) (train 1) false 40 line_503_in) ≡ (3 ∷ 13 ∷ 0 ∷ 1 ∷ 0 ∷ 0 ∷ 0 ∷ 0 ∷ 0 ∷ 0 ∷ 9218868437227405312 ∷ 0 ∷ 0 ∷ 0 ∷ 2 ∷ 0 ∷ 9218868437227405312 ∷ 14 ∷ 3 ∷ 0 ∷ 0 ∷ 0 ∷ 9218868437227405312 ∷ 0 ∷ 2 ∷ 0 ∷ 2 ∷ 0 ∷ 0 ∷ 1 ∷ 3 ∷ [])
unfolding everything line_503_in
line_503 = refl

line_506_in : Train
line_506_in =
    record {
      est_times = (
          est 0 1 2 0 0 0 Fake ∷
          est 0 2 0 0 0 1 Arrive ∷
          est 0 0 0 0 0 0 Fake ∷ []);
      disp_path = (
          node 0 9218868437227405312 0 0 0 Fake ∷
          node 0 9218868437227405312 1 1 0 Arrive ∷
          node 0 9218868437227405312 0 2 0 Fake ∷ []);
      div_nodes = (dive 0 0 ∷ dive 0 3 ∷ []);
      disp_node_idx_fixed = 0;
      disp_node_idx_free = 0;
      disp_node_idx_front = 0;
      disp_node_idx_back = 0;
      dist_disp_path_search = metres 0;
      dist_fixed_max = metres 0;
      train_idx = train 3;
      diverge_room = 2;
    }

line_506 : digest (update_free_path (0 ∷ 29432 ∷ []) (link 1 ∷ []) (train 1) false 40 line_506_in) ≡ (3 ∷ 13 ∷ 0 ∷ 1 ∷ 0 ∷ 0 ∷ 0 ∷ 0 ∷ 0 ∷ 0 ∷ 9218868437227405312 ∷ 0 ∷ 0 ∷ 0 ∷ 2 ∷ 0 ∷ 9218868437227405312 ∷ 1 ∷ 1 ∷ 0 ∷ 0 ∷ 0 ∷ 9218868437227405312 ∷ 0 ∷ 2 ∷ 0 ∷ 2 ∷ 0 ∷ 0 ∷ 0 ∷ 3 ∷ [])
unfolding everything line_506_in
line_506 = refl

line_507_in : Train
line_507_in =
    record {
      est_times = (
          est 0 3 1 0 0 0 Fake ∷
          est 0 2 3 0 0 0 Fake ∷
          est 0 0 0 0 0 0 Fake ∷
          est 0 0 0 0 0 0 Fake ∷ []);
      disp_path = (
          node 0 9218868437227405312 0 0 0 Fake ∷
          node 0 9218868437227405312 0 1 0 Fake ∷
          node 0 9218868437227405312 4 3 0 Arrive ∷ []);
      div_nodes = (dive 0 0 ∷ dive 5 3 ∷ []);
      disp_node_idx_fixed = 3;
      disp_node_idx_free = 0;
      disp_node_idx_front = 0;
      disp_node_idx_back = 0;
      dist_disp_path_search = metres 0;
      dist_fixed_max = metres 0;
      train_idx = train 6;
      diverge_room = 2;
    }

line_507 : digest (update_free_path (0 ∷ 0 ∷ 0 ∷ 0 ∷ 0 ∷ []) (link 4 ∷ []) (train 1) false 40 line_507_in) ≡ (3 ∷ 13 ∷ 0 ∷ 1 ∷ 0 ∷ 3 ∷ 0 ∷ 0 ∷ 0 ∷ 0 ∷ 9218868437227405312 ∷ 0 ∷ 0 ∷ 0 ∷ 2 ∷ 0 ∷ 9218868437227405312 ∷ 0 ∷ 1 ∷ 0 ∷ 2 ∷ 0 ∷ 9218868437227405312 ∷ 4 ∷ 3 ∷ 0 ∷ 0 ∷ 0 ∷ 0 ∷ 5 ∷ 3 ∷ [])
unfolding everything line_507_in
line_507 = refl

line_544_in : Train
line_544_in =
    record {
      est_times = (
          est 0 1 2 0 0 0 Fake ∷
          est 0 2 0 0 0 1 Clear ∷
          est 0 0 0 0 0 0 Fake ∷ []);
      disp_path = (
          node 0 9218868437227405312 0 0 0 Fake ∷
          node 4591870180066957722 9218868437227405312 1 2 0 Clear ∷ []);
      div_nodes = (dive 0 0 ∷ dive 1 1 ∷ dive 0 2 ∷ []);
      disp_node_idx_fixed = 2;
      disp_node_idx_free = 0;
      disp_node_idx_front = 0;
      disp_node_idx_back = 0;
      dist_disp_path_search = metres 0;
      dist_fixed_max = metres 0;
      train_idx = train 2;
      diverge_room = 3;
    }

line_544 : digest (update_free_path (0 ∷ 0 ∷ []) [] (train 1) false 40 line_544_in) ≡ (3 ∷ 13 ∷ 0 ∷ 1 ∷ 0 ∷ 2 ∷ 0 ∷ 0 ∷ 0 ∷ 0 ∷ 9218868437227405312 ∷ 0 ∷ 0 ∷ 0 ∷ 2 ∷ 4591870180066957722 ∷ 9218868437227405312 ∷ 1 ∷ 2 ∷ 0 ∷ 1 ∷ 0 ∷ 0 ∷ 1 ∷ 1 ∷ 0 ∷ 2 ∷ [])
unfolding everything line_544_in
line_544 = refl

line_552_in : Train
line_552_in =
    record {
      est_times = (
          est 4591870180066957722 1 2 0 0 0 Fake ∷
          est 0 0 0 0 0 14 Arrive ∷
          est 0 0 0 0 0 0 Fake ∷ []);
      disp_path = (
          node 0 9218868437227405312 0 0 0 Fake ∷
          node 4591870180066957722 9218868437227405312 14 2 0 Arrive ∷ []);
      div_nodes = (dive 0 0 ∷ dive 5 1 ∷ dive 1 2 ∷ []);
      disp_node_idx_fixed = 2;
      disp_node_idx_free = 0;
      disp_node_idx_front = 0;
      disp_node_idx_back = 0;
      dist_disp_path_search = metres 0;
      dist_fixed_max = metres 0;
      train_idx = train 4;
      diverge_room = 3;
    }

line_552 : digest (update_free_path (0 ∷ 0 ∷ 0 ∷ 0 ∷ 0 ∷ 0 ∷ 0 ∷ 0 ∷ 0 ∷ 0 ∷ 0 ∷ 0 ∷ 0 ∷ 0 ∷ 0 ∷ []) [] (train 5) false 1 line_552_in) ≡ (3 ∷ 13 ∷ 0 ∷ 1 ∷ 0 ∷ 2 ∷ 0 ∷ 0 ∷ 0 ∷ 0 ∷ 9218868437227405312 ∷ 0 ∷ 0 ∷ 0 ∷ 2 ∷ 4591870180066957722 ∷ 9218868437227405312 ∷ 14 ∷ 2 ∷ 0 ∷ 0 ∷ 0 ∷ 0 ∷ 5 ∷ 1 ∷ 1 ∷ 2 ∷ [])
unfolding everything line_552_in
line_552 = refl

line_616_in : Train
line_616_in =
    record {
      est_times = (
          est 0 1 0 0 0 0 Fake ∷
          est 0 0 0 0 0 0 Fake ∷ []);
      disp_path = (
          node 0 0 0 0 0 Fake ∷
          node 0 9218868437227405312 1 1 0 Arrive ∷ []);
      div_nodes = (dive 0 0 ∷ dive 4 2 ∷ []);
      disp_node_idx_fixed = 0;
      disp_node_idx_free = 0;
      disp_node_idx_front = 0;
      disp_node_idx_back = 0;
      dist_disp_path_search = metres 0;
      dist_fixed_max = metres 0;
      train_idx = train 1;
      diverge_room = 2;
    }

line_616 : digest (update_free_path (0 ∷ 0 ∷ []) (link 1 ∷ []) (train 1) false 40 line_616_in) ≡ (3 ∷ 13 ∷ 0 ∷ 1 ∷ 0 ∷ 0 ∷ 0 ∷ 0 ∷ 0 ∷ 0 ∷ 0 ∷ 0 ∷ 0 ∷ 0 ∷ 2 ∷ 0 ∷ 9218868437227405312 ∷ 1 ∷ 1 ∷ 0 ∷ 0 ∷ 0 ∷ 0 ∷ 4 ∷ 2 ∷ [])
unfolding everything line_616_in
line_616 = refl

line_617_in : Train
line_617_in =
    record {
      est_times = (
          est 0 2 1 0 0 0 Fake ∷
          est 0 2 0 0 0 0 Fake ∷
          est 0 0 0 0 0 0 Fake ∷ []);
      disp_path = (
          node 0 9218868437227405312 0 0 0 Fake ∷
          node 0 9218868437227405312 0 1 0 Fake ∷
          node 0 9218868437227405312 0 2 0 Fake ∷ []);
      div_nodes = (dive 0 0 ∷ dive 3 1 ∷ dive 0 3 ∷ []);
      disp_node_idx_fixed = 0;
      disp_node_idx_free = 2;
      disp_node_idx_front = 0;
      disp_node_idx_back = 0;
      dist_disp_path_search = metres 0;
      dist_fixed_max = metres 0;
      train_idx = train 1;
      diverge_room = 3;
    }

line_617 : digest (update_free_path (0 ∷ 0 ∷ []) [] (train 3) false 40 line_617_in) ≡ (3 ∷ 13 ∷ 0 ∷ 1 ∷ 0 ∷ 0 ∷ 2 ∷ 0 ∷ 0 ∷ 0 ∷ 9218868437227405312 ∷ 0 ∷ 0 ∷ 0 ∷ 2 ∷ 0 ∷ 9218868437227405312 ∷ 0 ∷ 1 ∷ 0 ∷ 2 ∷ 0 ∷ 9218868437227405312 ∷ 0 ∷ 2 ∷ 0 ∷ 2 ∷ 0 ∷ 0 ∷ 3 ∷ 1 ∷ 0 ∷ 3 ∷ [])
unfolding everything line_617_in
line_617 = refl

line_624_in : Train
line_624_in =
    record {
      est_times = (
          est 0 1 0 0 0 0 Fake ∷
          est 0 0 0 0 0 0 Fake ∷ []);
      disp_path = (
          node 4635400285215260672 9218868437227405312 0 0 0 Fake ∷
          node 0 9218868437227405312 4 1 0 Arrive ∷ []);
      div_nodes = (dive 0 0 ∷ dive 0 2 ∷ []);
      disp_node_idx_fixed = 0;
      disp_node_idx_free = 1;
      disp_node_idx_front = 0;
      disp_node_idx_back = 0;
      dist_disp_path_search = metres 0;
      dist_fixed_max = metres 0;
      train_idx = train 3;
      diverge_room = 2;
    }

line_624 : digest (update_free_path (0 ∷ 0 ∷ 0 ∷ 0 ∷ 0 ∷ []) (link 4 ∷ []) (train 1) false 40 line_624_in) ≡ (3 ∷ 13 ∷ 0 ∷ 1 ∷ 0 ∷ 0 ∷ 1 ∷ 0 ∷ 0 ∷ 4635400285215260672 ∷ 9218868437227405312 ∷ 0 ∷ 0 ∷ 0 ∷ 2 ∷ 0 ∷ 9218868437227405312 ∷ 4 ∷ 1 ∷ 0 ∷ 0 ∷ 0 ∷ 0 ∷ 0 ∷ 2 ∷ [])
unfolding everything line_624_in
line_624 = refl

line_709_in : Train
line_709_in =
    record {
      est_times = (
          est 0 2 1 0 0 0 Fake ∷
          est 0 0 0 0 0 0 Fake ∷
          est 0 1 0 0 0 1 Arrive ∷ []);
      disp_path = (
          node 0 9218868437227405312 0 0 0 Fake ∷
          node 0 9218868437227405312 1 1 0 Arrive ∷ []);
      div_nodes = (dive 0 0 ∷ dive 3 1 ∷ dive 0 2 ∷ []);
      disp_node_idx_fixed = 0;
      disp_node_idx_free = 0;
      disp_node_idx_front = 0;
      disp_node_idx_back = 0;
      dist_disp_path_search = metres 0;
      dist_fixed_max = metres 0;
      train_idx = train 6;
      diverge_room = 3;
    }

line_709 : digest (update_free_path (0 ∷ 0 ∷ []) [] (train 3) false 40 line_709_in) ≡ (3 ∷ 13 ∷ 0 ∷ 1 ∷ 0 ∷ 0 ∷ 0 ∷ 0 ∷ 0 ∷ 0 ∷ 9218868437227405312 ∷ 0 ∷ 0 ∷ 0 ∷ 2 ∷ 0 ∷ 9218868437227405312 ∷ 1 ∷ 1 ∷ 0 ∷ 0 ∷ 0 ∷ 0 ∷ 3 ∷ 1 ∷ 0 ∷ 2 ∷ [])
unfolding everything line_709_in
line_709 = refl

line_726_in : Train
line_726_in =
    record {
      est_times = (
          est 0 1 0 0 0 0 Fake ∷
          est 0 0 0 0 0 0 Fake ∷ []);
      disp_path = (
          node 0 9218868437227405312 0 0 0 Fake ∷
          node 0 9218868437227405312 8 1 0 Arrive ∷ []);
      div_nodes = (dive 0 0 ∷ dive 2 2 ∷ []);
      disp_node_idx_fixed = 0;
      disp_node_idx_free = 0;
      disp_node_idx_front = 0;
      disp_node_idx_back = 1;
      dist_disp_path_search = metres 0;
      dist_fixed_max = metres 0;
      train_idx = train 2;
      diverge_room = 2;
    }

line_726 : digest (update_free_path (0 ∷ 0 ∷ 0 ∷ 0 ∷ 0 ∷ 0 ∷ 0 ∷ 0 ∷ 0 ∷ []) (link 8 ∷ []) (train 1) false 40 line_726_in) ≡ (3 ∷ 13 ∷ 0 ∷ 1 ∷ 0 ∷ 0 ∷ 0 ∷ 0 ∷ 1 ∷ 0 ∷ 9218868437227405312 ∷ 0 ∷ 0 ∷ 0 ∷ 2 ∷ 0 ∷ 9218868437227405312 ∷ 8 ∷ 1 ∷ 0 ∷ 0 ∷ 0 ∷ 0 ∷ 2 ∷ 2 ∷ [])
unfolding everything line_726_in
line_726 = refl

line_733_in : Train
line_733_in =
    record {
      est_times = (
          est 0 2 1 0 0 0 Fake ∷
          est 0 2 0 0 0 0 Fake ∷
          est 0 0 0 0 0 0 Fake ∷ []);
      disp_path = (
          node 0 9218868437227405312 0 0 0 Fake ∷
          node 0 9218868437227405312 0 1 0 Fake ∷
          node 0 9218868437227405312 0 2 0 Fake ∷ []);
      div_nodes = (dive 0 0 ∷ dive 2 1 ∷ dive 1 3 ∷ []);
      disp_node_idx_fixed = 0;
      disp_node_idx_free = 0;
      disp_node_idx_front = 1;
      disp_node_idx_back = 0;
      dist_disp_path_search = metres 0;
      dist_fixed_max = metres 0;
      train_idx = train 4;
      diverge_room = 3;
    }

line_733 : digest (update_free_path (0 ∷ 0 ∷ []) [] (train 2) false 40 line_733_in) ≡ (3 ∷ 13 ∷ 0 ∷ 1 ∷ 0 ∷ 0 ∷ 0 ∷ 1 ∷ 0 ∷ 0 ∷ 9218868437227405312 ∷ 0 ∷ 0 ∷ 0 ∷ 2 ∷ 0 ∷ 9218868437227405312 ∷ 0 ∷ 1 ∷ 0 ∷ 2 ∷ 0 ∷ 9218868437227405312 ∷ 0 ∷ 2 ∷ 0 ∷ 2 ∷ 0 ∷ 0 ∷ 2 ∷ 1 ∷ 1 ∷ 3 ∷ [])
unfolding everything line_733_in
line_733 = refl
