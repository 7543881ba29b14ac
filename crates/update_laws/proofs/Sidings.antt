-- The sheet example of document 01, a siding with a main track and an alternate, and the moves on a path laid before: answers of the Rust, computed. Assumes nothing.
use mathlib.Core.Path.{◌≡◌, refl}
use mathlib.Core.Bool.{true, false}
use mathlib.Core.List.{[], ◌∷◌}
use Rattle.disp_structs.specs.Train.{Train}
use Rattle.disp_structs.specs.declared.EstType.TheVariants.{Arrive, Clear, Fake}
use Rattle.update_definition.specs.Update.{update_free_path}
use Rattle.update_laws.proofs.Build.{link, train, metres, est, node, dive, digest, everything}

sheet_slot_in : Train
sheet_slot_in =
    record {
      est_times = (
          est 0 1 0 0 0 0 Fake ∷
          est 0 2 0 0 0 1 Arrive ∷
          est 0 0 0 1 0 1 Clear ∷ []);
      disp_path = (
          node 0 9218868437227405312 0 0 0 Fake ∷
          node 0 9218868437227405312 1 1 0 Arrive ∷
          node 0 9218868437227405312 1 2 0 Clear ∷ []);
      div_nodes = (dive 0 0 ∷ dive 0 3 ∷ []);
      disp_node_idx_fixed = 0;
      disp_node_idx_free = 0;
      disp_node_idx_front = 0;
      disp_node_idx_back = 0;
      dist_disp_path_search = metres 0;
      dist_fixed_max = metres 0;
      train_idx = train 1;
      diverge_room = 2;
    }

-- Success, rounds 1, strays 0
sheet_slot : digest (update_free_path (0 ∷ 0 ∷ 0 ∷ []) [] (train 2) false 1 sheet_slot_in) ≡ (0 ∷ 0 ∷ 0 ∷ 1 ∷ 0 ∷ 0 ∷ 0 ∷ 0 ∷ 0 ∷ 0 ∷ 9218868437227405312 ∷ 0 ∷ 0 ∷ 0 ∷ 2 ∷ 0 ∷ 9218868437227405312 ∷ 1 ∷ 1 ∷ 0 ∷ 0 ∷ 0 ∷ 9218868437227405312 ∷ 1 ∷ 2 ∷ 0 ∷ 1 ∷ 0 ∷ 0 ∷ 2 ∷ 3 ∷ [])
unfolding everything sheet_slot_in
sheet_slot = refl

siding_taken_in : Train
siding_taken_in =
    record {
      est_times = (
          est 0 1 0 0 0 0 Fake ∷
          est 4621819117588971520 2 0 0 0 1 Arrive ∷
          est 4621819117588971520 3 5 1 0 1 Clear ∷
          est 4626322717216342016 4 0 2 0 2 Arrive ∷
          est 4617315517961601024 7 0 3 0 2 Clear ∷
          est 0 6 0 2 0 0 Fake ∷
          est 4627730092099895296 8 0 5 0 3 Arrive ∷
          est 0 0 0 4 8 4 Arrive ∷
          est 0 7 0 6 0 3 Clear ∷ []);
      disp_path = (
          node 0 9218868437227405312 0 0 0 Fake ∷
          node 0 9218868437227405312 1 1 0 Arrive ∷
          node 4621819117588971520 9218868437227405312 1 2 0 Clear ∷
          node 4626322717216342016 9218868437227405312 2 3 0 Arrive ∷
          node 4630826316843712512 9218868437227405312 2 4 0 Clear ∷
          node 4631530004285489152 9218868437227405312 4 7 0 Arrive ∷ []);
      div_nodes = (dive 0 0 ∷ dive 0 6 ∷ []);
      disp_node_idx_fixed = 1;
      disp_node_idx_free = 1;
      disp_node_idx_front = 0;
      disp_node_idx_back = 0;
      dist_disp_path_search = metres 4696837146684686336;
      dist_fixed_max = metres 4696837146684686336;
      train_idx = train 1;
      diverge_room = 8;
    }

-- Success, rounds 2, strays 0
siding_taken : digest (update_free_path (0 ∷ 0 ∷ 9 ∷ 0 ∷ 0 ∷ []) (link 2 ∷ []) (train 9) false 5 siding_taken_in) ≡ (0 ∷ 0 ∷ 0 ∷ 2 ∷ 0 ∷ 1 ∷ 1 ∷ 0 ∷ 0 ∷ 0 ∷ 9218868437227405312 ∷ 0 ∷ 0 ∷ 0 ∷ 2 ∷ 0 ∷ 9218868437227405312 ∷ 1 ∷ 1 ∷ 0 ∷ 0 ∷ 4621819117588971520 ∷ 9218868437227405312 ∷ 1 ∷ 2 ∷ 0 ∷ 1 ∷ 4621819117588971520 ∷ 9218868437227405312 ∷ 0 ∷ 5 ∷ 0 ∷ 2 ∷ 4621819117588971520 ∷ 9218868437227405312 ∷ 3 ∷ 6 ∷ 0 ∷ 0 ∷ 4630122629401935872 ∷ 9218868437227405312 ∷ 3 ∷ 8 ∷ 0 ∷ 1 ∷ 4630122629401935872 ∷ 9218868437227405312 ∷ 4 ∷ 7 ∷ 0 ∷ 0 ∷ 0 ∷ 0 ∷ 9 ∷ 3 ∷ 9 ∷ 7 ∷ [])
unfolding everything siding_taken_in
siding_taken = refl

siding_limit_in : Train
siding_limit_in =
    record {
      est_times = (
          est 0 1 0 0 0 0 Fake ∷
          est 4621819117588971520 2 0 0 0 1 Arrive ∷
          est 4621819117588971520 3 5 1 0 1 Clear ∷
          est 4626322717216342016 4 0 2 0 2 Arrive ∷
          est 4617315517961601024 7 0 3 0 2 Clear ∷
          est 0 6 0 2 0 0 Fake ∷
          est 4627730092099895296 8 0 5 0 3 Arrive ∷
          est 0 0 0 4 8 4 Arrive ∷
          est 0 7 0 6 0 3 Clear ∷ []);
      disp_path = (
          node 0 9218868437227405312 0 0 0 Fake ∷
          node 0 9218868437227405312 1 1 0 Arrive ∷
          node 4621819117588971520 9218868437227405312 1 2 0 Clear ∷
          node 4626322717216342016 9218868437227405312 2 3 0 Arrive ∷
          node 4630826316843712512 9218868437227405312 2 4 0 Clear ∷
          node 4631530004285489152 9218868437227405312 4 7 0 Arrive ∷ []);
      div_nodes = (dive 0 0 ∷ dive 0 6 ∷ []);
      disp_node_idx_fixed = 1;
      disp_node_idx_free = 1;
      disp_node_idx_front = 0;
      disp_node_idx_back = 0;
      dist_disp_path_search = metres 4696837146684686336;
      dist_fixed_max = metres 4696837146684686336;
      train_idx = train 1;
      diverge_room = 8;
    }

-- Refused 12, rounds 1, strays 0
siding_limit : digest (update_free_path (0 ∷ 0 ∷ 9 ∷ 0 ∷ 0 ∷ []) (link 2 ∷ []) (train 9) false 1 siding_limit_in) ≡ (3 ∷ 12 ∷ 0 ∷ 1 ∷ 0 ∷ 1 ∷ 1 ∷ 0 ∷ 0 ∷ 0 ∷ 9218868437227405312 ∷ 0 ∷ 0 ∷ 0 ∷ 2 ∷ 0 ∷ 9218868437227405312 ∷ 1 ∷ 1 ∷ 0 ∷ 0 ∷ 4621819117588971520 ∷ 9218868437227405312 ∷ 1 ∷ 2 ∷ 0 ∷ 1 ∷ 4626322717216342016 ∷ 9218868437227405312 ∷ 2 ∷ 3 ∷ 0 ∷ 0 ∷ 4630826316843712512 ∷ 9218868437227405312 ∷ 2 ∷ 4 ∷ 0 ∷ 1 ∷ 4631530004285489152 ∷ 9218868437227405312 ∷ 4 ∷ 7 ∷ 0 ∷ 0 ∷ 0 ∷ 0 ∷ 0 ∷ 6 ∷ [])
unfolding everything siding_limit_in
siding_limit = refl

siding_room_in : Train
siding_room_in =
    record {
      est_times = (
          est 0 1 0 0 0 0 Fake ∷
          est 4621819117588971520 2 0 0 0 1 Arrive ∷
          est 4621819117588971520 3 5 1 0 1 Clear ∷
          est 4626322717216342016 4 0 2 0 2 Arrive ∷
          est 4617315517961601024 7 0 3 0 2 Clear ∷
          est 0 6 0 2 0 0 Fake ∷
          est 4627730092099895296 8 0 5 0 3 Arrive ∷
          est 0 0 0 4 8 4 Arrive ∷
          est 0 7 0 6 0 3 Clear ∷ []);
      disp_path = (
          node 0 9218868437227405312 0 0 0 Fake ∷
          node 0 9218868437227405312 1 1 0 Arrive ∷
          node 4621819117588971520 9218868437227405312 1 2 0 Clear ∷
          node 4626322717216342016 9218868437227405312 2 3 0 Arrive ∷
          node 4630826316843712512 9218868437227405312 2 4 0 Clear ∷
          node 4631530004285489152 9218868437227405312 4 7 0 Arrive ∷ []);
      div_nodes = (dive 0 0 ∷ dive 0 6 ∷ []);
      disp_node_idx_fixed = 1;
      disp_node_idx_free = 1;
      disp_node_idx_front = 0;
      disp_node_idx_back = 0;
      dist_disp_path_search = metres 4696837146684686336;
      dist_fixed_max = metres 4696837146684686336;
      train_idx = train 1;
      diverge_room = 2;
    }

-- Refused 11, rounds 1, strays 0
siding_room : digest (update_free_path (0 ∷ 0 ∷ 9 ∷ 0 ∷ 0 ∷ []) (link 2 ∷ []) (train 9) false 5 siding_room_in) ≡ (3 ∷ 11 ∷ 0 ∷ 1 ∷ 0 ∷ 1 ∷ 1 ∷ 0 ∷ 0 ∷ 0 ∷ 9218868437227405312 ∷ 0 ∷ 0 ∷ 0 ∷ 2 ∷ 0 ∷ 9218868437227405312 ∷ 1 ∷ 1 ∷ 0 ∷ 0 ∷ 4621819117588971520 ∷ 9218868437227405312 ∷ 1 ∷ 2 ∷ 0 ∷ 1 ∷ 4626322717216342016 ∷ 9218868437227405312 ∷ 2 ∷ 3 ∷ 0 ∷ 0 ∷ 4630826316843712512 ∷ 9218868437227405312 ∷ 2 ∷ 4 ∷ 0 ∷ 1 ∷ 4631530004285489152 ∷ 9218868437227405312 ∷ 4 ∷ 7 ∷ 0 ∷ 0 ∷ 0 ∷ 0 ∷ 0 ∷ 6 ∷ [])
unfolding everything siding_room_in
siding_room = refl

siding_blocked_in : Train
siding_blocked_in =
    record {
      est_times = (
          est 0 1 0 0 0 0 Fake ∷
          est 4621819117588971520 2 0 0 0 1 Arrive ∷
          est 4621819117588971520 3 5 1 0 1 Clear ∷
          est 4626322717216342016 4 0 2 0 2 Arrive ∷
          est 4617315517961601024 7 0 3 0 2 Clear ∷
          est 0 6 0 2 0 0 Fake ∷
          est 4627730092099895296 8 0 5 0 3 Arrive ∷
          est 0 0 0 4 8 4 Arrive ∷
          est 0 7 0 6 0 3 Clear ∷ []);
      disp_path = (
          node 0 9218868437227405312 0 0 0 Fake ∷
          node 0 9218868437227405312 1 1 0 Arrive ∷
          node 4621819117588971520 9218868437227405312 1 2 0 Clear ∷
          node 4626322717216342016 9218868437227405312 2 3 0 Arrive ∷
          node 4630826316843712512 9218868437227405312 2 4 0 Clear ∷
          node 4631530004285489152 9218868437227405312 4 7 0 Arrive ∷ []);
      div_nodes = (dive 0 0 ∷ dive 0 6 ∷ []);
      disp_node_idx_fixed = 1;
      disp_node_idx_free = 1;
      disp_node_idx_front = 0;
      disp_node_idx_back = 0;
      dist_disp_path_search = metres 4696837146684686336;
      dist_fixed_max = metres 4696837146684686336;
      train_idx = train 1;
      diverge_room = 8;
    }

-- Blocked by 8, which holds the siding, where the moved train is 9; rounds 1, strays 0
siding_blocked : digest (update_free_path (0 ∷ 0 ∷ 9 ∷ 8 ∷ 0 ∷ []) (link 2 ∷ []) (train 9) false 5 siding_blocked_in) ≡ (1 ∷ 8 ∷ 0 ∷ 1 ∷ 0 ∷ 1 ∷ 1 ∷ 0 ∷ 0 ∷ 0 ∷ 9218868437227405312 ∷ 0 ∷ 0 ∷ 0 ∷ 2 ∷ 0 ∷ 9218868437227405312 ∷ 1 ∷ 1 ∷ 0 ∷ 0 ∷ 4621819117588971520 ∷ 9218868437227405312 ∷ 1 ∷ 2 ∷ 0 ∷ 1 ∷ 4626322717216342016 ∷ 9218868437227405312 ∷ 2 ∷ 3 ∷ 0 ∷ 0 ∷ 4630826316843712512 ∷ 9218868437227405312 ∷ 2 ∷ 4 ∷ 0 ∷ 1 ∷ 4631530004285489152 ∷ 9218868437227405312 ∷ 4 ∷ 7 ∷ 0 ∷ 0 ∷ 0 ∷ 0 ∷ 9 ∷ 6 ∷ [])
unfolding everything siding_blocked_in
siding_blocked = refl

siding_stray_in : Train
siding_stray_in =
    record {
      est_times = (
          est 0 1 0 0 0 0 Fake ∷
          est 4621819117588971520 2 0 0 0 1 Arrive ∷
          est 4621819117588971520 3 5 1 0 1 Clear ∷
          est 4626322717216342016 4 0 2 0 2 Arrive ∷
          est 4617315517961601024 7 0 3 0 2 Clear ∷
          est 0 6 0 2 0 0 Fake ∷
          est 4627730092099895296 8 0 5 0 3 Arrive ∷
          est 0 0 0 4 8 4 Arrive ∷
          est 0 7 0 6 0 3 Clear ∷ []);
      disp_path = (
          node 0 9218868437227405312 0 0 0 Fake ∷
          node 0 9218868437227405312 1 1 0 Arrive ∷
          node 4621819117588971520 9218868437227405312 1 2 0 Clear ∷
          node 4626322717216342016 9218868437227405312 2 3 0 Arrive ∷
          node 4630826316843712512 9218868437227405312 2 4 0 Clear ∷
          node 4631530004285489152 9218868437227405312 4 7 0 Arrive ∷ []);
      div_nodes = (dive 0 0 ∷ dive 0 6 ∷ []);
      disp_node_idx_fixed = 1;
      disp_node_idx_free = 1;
      disp_node_idx_front = 0;
      disp_node_idx_back = 0;
      dist_disp_path_search = metres 4696837146684686336;
      dist_fixed_max = metres 4696837146684686336;
      train_idx = train 1;
      diverge_room = 8;
    }

-- Blocked by 8, rounds 1, strays 1
siding_stray : digest (update_free_path (0 ∷ 0 ∷ 9 ∷ 0 ∷ 8 ∷ []) (link 2 ∷ []) (train 9) false 5 siding_stray_in) ≡ (1 ∷ 8 ∷ 0 ∷ 1 ∷ 1 ∷ 1 ∷ 1 ∷ 0 ∷ 0 ∷ 0 ∷ 9218868437227405312 ∷ 0 ∷ 0 ∷ 0 ∷ 2 ∷ 0 ∷ 9218868437227405312 ∷ 1 ∷ 1 ∷ 0 ∷ 0 ∷ 4621819117588971520 ∷ 9218868437227405312 ∷ 1 ∷ 2 ∷ 0 ∷ 1 ∷ 4626322717216342016 ∷ 9218868437227405312 ∷ 2 ∷ 3 ∷ 0 ∷ 0 ∷ 4630826316843712512 ∷ 9218868437227405312 ∷ 2 ∷ 4 ∷ 0 ∷ 1 ∷ 4631530004285489152 ∷ 9218868437227405312 ∷ 4 ∷ 7 ∷ 0 ∷ 0 ∷ 0 ∷ 0 ∷ 9 ∷ 6 ∷ [])
unfolding everything siding_stray_in
siding_stray = refl

siding_panic_in : Train
siding_panic_in =
    record {
      est_times = (
          est 0 1 0 0 0 0 Fake ∷
          est 4621819117588971520 2 0 0 0 1 Arrive ∷
          est 4621819117588971520 3 5 1 0 1 Clear ∷
          est 4626322717216342016 4 0 2 0 2 Arrive ∷
          est 4617315517961601024 7 0 3 0 2 Clear ∷
          est 0 6 0 2 0 0 Fake ∷
          est 4627730092099895296 8 0 5 0 3 Arrive ∷
          est 0 0 0 4 8 4 Arrive ∷
          est 0 7 0 6 0 3 Clear ∷ []);
      disp_path = (
          node 0 9218868437227405312 0 0 0 Fake ∷
          node 0 4617315517961601024 1 1 0 Arrive ∷
          node 4621819117588971520 9218868437227405312 1 2 0 Clear ∷
          node 4626322717216342016 9218868437227405312 2 3 0 Arrive ∷
          node 4630826316843712512 9218868437227405312 2 4 0 Clear ∷
          node 4631530004285489152 9218868437227405312 4 7 0 Arrive ∷ []);
      div_nodes = (dive 0 0 ∷ dive 0 6 ∷ []);
      disp_node_idx_fixed = 1;
      disp_node_idx_free = 1;
      disp_node_idx_front = 0;
      disp_node_idx_back = 0;
      dist_disp_path_search = metres 4696837146684686336;
      dist_fixed_max = metres 4696837146684686336;
      train_idx = train 1;
      diverge_room = 8;
    }

-- Refused 13, rounds 1, strays 0, free_path.rs 616
siding_panic : digest (update_free_path (0 ∷ 0 ∷ 9 ∷ 0 ∷ 0 ∷ []) (link 2 ∷ []) (train 9) false 5 siding_panic_in) ≡ (3 ∷ 13 ∷ 0 ∷ 1 ∷ 0 ∷ 1 ∷ 1 ∷ 0 ∷ 0 ∷ 0 ∷ 9218868437227405312 ∷ 0 ∷ 0 ∷ 0 ∷ 2 ∷ 0 ∷ 4617315517961601024 ∷ 1 ∷ 1 ∷ 0 ∷ 0 ∷ 4621819117588971520 ∷ 9218868437227405312 ∷ 1 ∷ 2 ∷ 0 ∷ 1 ∷ 4626322717216342016 ∷ 9218868437227405312 ∷ 2 ∷ 3 ∷ 0 ∷ 0 ∷ 4630826316843712512 ∷ 9218868437227405312 ∷ 2 ∷ 4 ∷ 0 ∷ 1 ∷ 4631530004285489152 ∷ 9218868437227405312 ∷ 4 ∷ 7 ∷ 0 ∷ 0 ∷ 0 ∷ 0 ∷ 0 ∷ 6 ∷ [])
unfolding everything siding_panic_in
siding_panic = refl

siding_far_in : Train
siding_far_in =
    record {
      est_times = (
          est 0 1 0 0 0 0 Fake ∷
          est 4621819117588971520 2 0 0 0 1 Arrive ∷
          est 4621819117588971520 3 5 1 0 1 Clear ∷
          est 4626322717216342016 4 0 2 0 2 Arrive ∷
          est 4617315517961601024 7 0 3 0 2 Clear ∷
          est 4786511204640096256 6 0 2 0 0 Fake ∷
          est 4627730092099895296 8 0 5 0 3 Arrive ∷
          est 0 0 0 4 8 4 Arrive ∷
          est 0 7 0 6 0 3 Clear ∷ []);
      disp_path = (
          node 0 9218868437227405312 0 0 0 Fake ∷
          node 0 9218868437227405312 1 1 0 Arrive ∷
          node 4621819117588971520 9218868437227405312 1 2 0 Clear ∷
          node 4626322717216342016 9218868437227405312 2 3 0 Arrive ∷
          node 4630826316843712512 9218868437227405312 2 4 0 Clear ∷
          node 4631530004285489152 9218868437227405312 4 7 0 Arrive ∷ []);
      div_nodes = (dive 0 0 ∷ dive 0 6 ∷ []);
      disp_node_idx_fixed = 1;
      disp_node_idx_free = 1;
      disp_node_idx_front = 0;
      disp_node_idx_back = 0;
      dist_disp_path_search = metres 4696837146684686336;
      dist_fixed_max = metres 4696837146684686336;
      train_idx = train 1;
      diverge_room = 8;
    }

-- Refused 11, rounds 1, strays 0
siding_far : digest (update_free_path (0 ∷ 0 ∷ 9 ∷ 0 ∷ 0 ∷ []) (link 2 ∷ []) (train 9) false 5 siding_far_in) ≡ (3 ∷ 11 ∷ 0 ∷ 1 ∷ 0 ∷ 1 ∷ 1 ∷ 0 ∷ 0 ∷ 0 ∷ 9218868437227405312 ∷ 0 ∷ 0 ∷ 0 ∷ 2 ∷ 0 ∷ 9218868437227405312 ∷ 1 ∷ 1 ∷ 0 ∷ 0 ∷ 4621819117588971520 ∷ 9218868437227405312 ∷ 1 ∷ 2 ∷ 0 ∷ 1 ∷ 4626322717216342016 ∷ 9218868437227405312 ∷ 2 ∷ 3 ∷ 0 ∷ 0 ∷ 4630826316843712512 ∷ 9218868437227405312 ∷ 2 ∷ 4 ∷ 0 ∷ 1 ∷ 4631530004285489152 ∷ 9218868437227405312 ∷ 4 ∷ 7 ∷ 0 ∷ 0 ∷ 0 ∷ 0 ∷ 0 ∷ 6 ∷ [])
unfolding everything siding_far_in
siding_far = refl

siding_range_in : Train
siding_range_in =
    record {
      est_times = (
          est 0 1 0 0 0 0 Fake ∷
          est 4621819117588971520 2 0 0 0 1 Arrive ∷
          est 4621819117588971520 3 5 1 0 1 Clear ∷
          est 4626322717216342016 4 0 2 0 2 Arrive ∷
          est 4617315517961601024 7 0 3 0 2 Clear ∷
          est 0 6 0 2 0 0 Fake ∷
          est 4627730092099895296 8 0 5 0 3 Arrive ∷
          est 0 0 0 4 8 4 Arrive ∷
          est 0 7 0 6 0 3 Clear ∷ []);
      disp_path = (
          node 0 9218868437227405312 0 0 0 Fake ∷
          node 0 9218868437227405312 1 1 0 Arrive ∷
          node 4621819117588971520 9218868437227405312 1 2 0 Clear ∷
          node 4626322717216342016 9218868437227405312 2 3 0 Arrive ∷
          node 4630826316843712512 9218868437227405312 2 4 0 Clear ∷
          node 4631530004285489152 9218868437227405312 4 7 0 Arrive ∷ []);
      div_nodes = (dive 0 0 ∷ dive 0 6 ∷ []);
      disp_node_idx_fixed = 1;
      disp_node_idx_free = 1;
      disp_node_idx_front = 0;
      disp_node_idx_back = 0;
      dist_disp_path_search = metres 4696837146684686336;
      dist_fixed_max = metres 4696837146684686336;
      train_idx = train 1;
      diverge_room = 8;
    }

-- Success, rounds 2, strays 0
siding_range : digest (update_free_path (0 ∷ 0 ∷ 9 ∷ 0 ∷ 0 ∷ []) (link 2 ∷ link 2 ∷ link 4 ∷ []) (train 9) false 5 siding_range_in) ≡ (0 ∷ 0 ∷ 0 ∷ 2 ∷ 0 ∷ 1 ∷ 1 ∷ 0 ∷ 0 ∷ 0 ∷ 9218868437227405312 ∷ 0 ∷ 0 ∷ 0 ∷ 2 ∷ 0 ∷ 9218868437227405312 ∷ 1 ∷ 1 ∷ 0 ∷ 0 ∷ 4621819117588971520 ∷ 9218868437227405312 ∷ 1 ∷ 2 ∷ 0 ∷ 1 ∷ 4621819117588971520 ∷ 9218868437227405312 ∷ 0 ∷ 5 ∷ 0 ∷ 2 ∷ 4621819117588971520 ∷ 9218868437227405312 ∷ 3 ∷ 6 ∷ 0 ∷ 0 ∷ 4630122629401935872 ∷ 9218868437227405312 ∷ 3 ∷ 8 ∷ 0 ∷ 1 ∷ 4630122629401935872 ∷ 9218868437227405312 ∷ 4 ∷ 7 ∷ 0 ∷ 0 ∷ 0 ∷ 0 ∷ 9 ∷ 3 ∷ 9 ∷ 7 ∷ [])
unfolding everything siding_range_in
siding_range = refl

siding_clear_in : Train
siding_clear_in =
    record {
      est_times = (
          est 0 1 0 0 0 0 Fake ∷
          est 4621819117588971520 2 0 0 0 1 Arrive ∷
          est 4621819117588971520 3 5 1 0 1 Clear ∷
          est 4626322717216342016 4 0 2 0 2 Arrive ∷
          est 4617315517961601024 7 0 3 0 2 Clear ∷
          est 0 6 0 2 0 0 Fake ∷
          est 4627730092099895296 8 0 5 0 3 Arrive ∷
          est 0 0 0 4 8 4 Arrive ∷
          est 0 7 0 6 0 3 Clear ∷ []);
      disp_path = (
          node 0 9218868437227405312 0 0 0 Fake ∷
          node 0 9218868437227405312 1 1 0 Arrive ∷
          node 4621819117588971520 9218868437227405312 1 2 0 Clear ∷
          node 4626322717216342016 9218868437227405312 2 3 0 Arrive ∷
          node 4630826316843712512 9218868437227405312 2 4 0 Clear ∷
          node 4631530004285489152 9218868437227405312 4 7 0 Arrive ∷ []);
      div_nodes = (dive 0 0 ∷ dive 0 6 ∷ []);
      disp_node_idx_fixed = 1;
      disp_node_idx_free = 1;
      disp_node_idx_front = 0;
      disp_node_idx_back = 0;
      dist_disp_path_search = metres 4696837146684686336;
      dist_fixed_max = metres 4696837146684686336;
      train_idx = train 1;
      diverge_room = 8;
    }

-- Refused 12, rounds 5, strays 0
siding_clear : digest (update_free_path (0 ∷ 0 ∷ 0 ∷ 0 ∷ 0 ∷ []) (link 2 ∷ []) (train 9) false 5 siding_clear_in) ≡ (3 ∷ 12 ∷ 0 ∷ 5 ∷ 0 ∷ 1 ∷ 1 ∷ 0 ∷ 0 ∷ 0 ∷ 9218868437227405312 ∷ 0 ∷ 0 ∷ 0 ∷ 2 ∷ 0 ∷ 9218868437227405312 ∷ 1 ∷ 1 ∷ 0 ∷ 0 ∷ 4621819117588971520 ∷ 9218868437227405312 ∷ 1 ∷ 2 ∷ 0 ∷ 1 ∷ 4626322717216342016 ∷ 9218868437227405312 ∷ 2 ∷ 3 ∷ 0 ∷ 0 ∷ 4630826316843712512 ∷ 9218868437227405312 ∷ 2 ∷ 4 ∷ 0 ∷ 1 ∷ 4631530004285489152 ∷ 9218868437227405312 ∷ 4 ∷ 7 ∷ 0 ∷ 0 ∷ 0 ∷ 0 ∷ 0 ∷ 6 ∷ [])
unfolding everything siding_clear_in
siding_clear = refl

changed-diverge_in : Train
changed-diverge_in =
    record {
      est_times = (
          est 4636754883540680704 1 1 1 0 0 Fake ∷
          est 0 0 0 0 0 0 Fake ∷ []);
      disp_path = (
          node 0 0 0 0 0 Fake ∷
          node 0 9218868437227405312 0 1 0 Fake ∷ []);
      div_nodes = (dive 0 0 ∷ dive 4 1 ∷ dive 0 2 ∷ []);
      disp_node_idx_fixed = 0;
      disp_node_idx_free = 1;
      disp_node_idx_front = 0;
      disp_node_idx_back = 0;
      dist_disp_path_search = metres 4619567317775286272;
      dist_fixed_max = metres 4670072834641362944;
      train_idx = train 4;
      diverge_room = 21;
    }

-- Success, rounds 2, strays 0
changed-diverge : digest (update_free_path (0 ∷ 0 ∷ []) [] (train 4) true 40 changed-diverge_in) ≡ (0 ∷ 0 ∷ 0 ∷ 2 ∷ 0 ∷ 1 ∷ 1 ∷ 0 ∷ 0 ∷ 0 ∷ 0 ∷ 0 ∷ 0 ∷ 0 ∷ 2 ∷ 4636754883540680704 ∷ 9218868437227405312 ∷ 0 ∷ 1 ∷ 0 ∷ 2 ∷ 0 ∷ 0 ∷ 4 ∷ 2 ∷ [])
unfolding everything changed-diverge_in
changed-diverge = refl

saved_path_in : Train
saved_path_in =
    record {
      est_times = (
          est 4617315517961601024 12 0 0 0 0 Fake ∷
          est 4627448617123184640 9 0 8 0 1 Arrive ∷
          est 4599676419421066581 3 0 7 0 0 Fake ∷
          est 4628293042053316608 11 0 2 0 9 Arrive ∷
          est 0 0 0 6 11 0 Fake ∷
          est 4628855992006737920 7 0 12 0 17 Arrive ∷
          est 4599676419421066581 4 0 10 0 11 Clear ∷
          est 4599676419421066581 8 2 5 0 10 Clear ∷
          est 4628293042053316608 1 0 7 0 9 Arrive ∷
          est 4628855992006737920 10 0 1 0 11 Arrive ∷
          est 4626604192193052672 6 0 9 0 5 Arrive ∷
          est 4627448617123184640 4 0 3 0 1 Arrive ∷
          est 4623507967449235456 5 0 0 0 10 Arrive ∷ []);
      disp_path = (
          node 0 0 0 0 0 Fake ∷
          node 4617315517961601024 4616189618054758400 10 12 0 Arrive ∷
          node 4625759767262920704 4621819117588971520 17 5 0 Arrive ∷
          node 4631811479262199808 4622945017495814144 10 7 0 Clear ∷
          node 4631858391758318251 4625196817309499392 9 8 0 Arrive ∷
          node 4634931160254076246 4629418941960159232 1 1 0 Arrive ∷
          node 4636620010114340182 9218868437227405312 11 9 0 Arrive ∷
          node 4638660703695492438 9218868437227405312 5 10 0 Arrive ∷
          node 4639423031757417131 9218868437227405312 11 6 0 Clear ∷
          node 4639434759881446742 9218868437227405312 0 4 0 Fake ∷ []);
      div_nodes = (dive 0 0 ∷ dive 5 7 ∷ dive 4 10 ∷ []);
      disp_node_idx_fixed = 6;
      disp_node_idx_free = 6;
      disp_node_idx_front = 1;
      disp_node_idx_back = 1;
      dist_disp_path_search = metres 4624633867356078080;
      dist_fixed_max = metres 4670072834641362944;
      train_idx = train 2;
      diverge_room = 18;
    }

-- Success, rounds 2, strays 0
saved_path : digest (update_free_path (0 ∷ 6 ∷ 0 ∷ 6 ∷ 0 ∷ 0 ∷ 3 ∷ 6 ∷ 0 ∷ 6 ∷ 0 ∷ 6 ∷ 6 ∷ 6 ∷ 6 ∷ 5 ∷ 5 ∷ 4 ∷ 37627 ∷ []) (link 1 ∷ link 5 ∷ link 11 ∷ []) (train 6) false 40 saved_path_in) ≡ (0 ∷ 0 ∷ 0 ∷ 2 ∷ 0 ∷ 7 ∷ 7 ∷ 1 ∷ 1 ∷ 0 ∷ 0 ∷ 0 ∷ 0 ∷ 0 ∷ 2 ∷ 4617315517961601024 ∷ 4616189618054758400 ∷ 10 ∷ 12 ∷ 0 ∷ 0 ∷ 4625759767262920704 ∷ 4621819117588971520 ∷ 17 ∷ 5 ∷ 0 ∷ 0 ∷ 4631811479262199808 ∷ 4622945017495814144 ∷ 10 ∷ 7 ∷ 0 ∷ 1 ∷ 4631811479262199808 ∷ 4622945017495814144 ∷ 0 ∷ 2 ∷ 0 ∷ 2 ∷ 4631858391758318251 ∷ 4625196817309499392 ∷ 9 ∷ 3 ∷ 0 ∷ 0 ∷ 4634931160254076246 ∷ 4629418941960159232 ∷ 1 ∷ 11 ∷ 0 ∷ 0 ∷ 4636620010114340182 ∷ 9218868437227405312 ∷ 0 ∷ 4 ∷ 0 ∷ 2 ∷ 0 ∷ 0 ∷ 6 ∷ 4 ∷ 6 ∷ 8 ∷ [])
unfolding everything saved_path_in
saved_path = refl

-- ---- the train met in the first round (document 02, Q-14): train 9 on link 2

met_success : (update_free_path (0 ∷ 0 ∷ 9 ∷ 0 ∷ 0 ∷ []) (link 2 ∷ []) (train 9) false 5 siding_taken_in).answer.met ≡ train 9
unfolding everything siding_taken_in
met_success = refl

met-blocked : (update_free_path (0 ∷ 0 ∷ 9 ∷ 8 ∷ 0 ∷ []) (link 2 ∷ []) (train 9) false 5 siding_blocked_in).answer.met ≡ train 9
unfolding everything siding_blocked_in
met-blocked = refl

-- refused by 12
met-refused : (update_free_path (0 ∷ 0 ∷ 9 ∷ 0 ∷ 0 ∷ []) (link 2 ∷ []) (train 9) false 1 siding_limit_in).answer.met ≡ train 0
unfolding everything siding_limit_in
met-refused = refl
