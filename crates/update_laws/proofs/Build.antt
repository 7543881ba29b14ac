-- Values in short, and an answer as one list of numbers: floats by their bit patterns, types as document 01 numbers them. Assumes nothing.
use Prim.Native.Nat.{ℕ}
use mathlib.Core.List.{List, [], ◌∷◌}
use lib.Ieee.{binary64, of_bits, to_bits, add, sub, div, neg, lt, le, eq, is_nan}
use Rattle.link_rules.specs.LinkIdx.{occupied}
use Rattle.link_rules.specs.declared.link_idx.LinkIdx.{LinkIdx}
use Rattle.link_rules.specs.declared.link_idx.TrainIdx.{TrainIdx}
use Rattle.disp_structs.specs.Floats.{in_reach, magnitude, near_float}
use Rattle.disp_structs.specs.Values.{same_event, arriving}
use Rattle.disp_structs.specs.declared.Metres.{Metres}
use Rattle.disp_structs.specs.declared.EstType.{EstType}
use Rattle.disp_structs.specs.declared.EstType.TheVariants.{Arrive, Clear, Fake}
use Rattle.disp_structs.specs.declared.EstTime.{EstTime}
use Rattle.disp_structs.specs.declared.DispNode.{DispNode}
use Rattle.disp_structs.specs.declared.DivergeNode.{DivergeNode}
use Rattle.free_path.specs.Base.{at, slice, steps_to, walk_from, walk_back, passes, count, any}
use Rattle.free_path.specs.LinkOptType.{links_on_path, contains, class_walk, link_opt_type_of, calc_idx_sentinels, find_train_intersect}
use Rattle.free_path.specs.TrainIdxsView.{pool_push, add_one, add_from, closed, add_blocking_trains, add_all_blocking_trains, concat_train_idx_views}
use Rattle.free_path.specs.SearchLimit.{maximum_number}
use Rattle.free_path.specs.Validate.{is_stray, strays, steps_next, steps_alt, bad_step, on_path, bad_steps, in_conflict, validate_free_path}
use Rattle.update_definition.specs.State.{push_trains, push_node, push_divs, diverging}
use Rattle.update_definition.specs.Look.{look_from, block_by, stored_from, block_stored, take_stored, stored_trains, occupied_next, move_of}
use Rattle.update_definition.specs.Moves.{shift_save, rewind_divs, one_back, rewind, alternate, change_diverge, push_saved, block_empty, advance}
use Rattle.update_definition.specs.Join.{without, remove_links, insert_links, shift_offsets, move_ends, new_ends, update_free_path_helpers, shift_divs, update_div_nodes, free_is_correct, splice_at, join}
use Rattle.update_definition.specs.Update.{Updated, Status, Success, Blocked, Faulty, Refused, search_step, search_from, steps_from, meeting, split_point, round_met, begin_at, begin_of, round_of, round_steps, finish, after_round, rounds_from, adjust_sentinel, update_free_path}

abbrev pub link : ℕ → LinkIdx
link n = record { 0 = n }

abbrev pub train : ℕ → TrainIdx
train n = record { 0 = n }

abbrev pub metres : ℕ → Metres
metres b = record { 0 = of_bits binary64 b }

-- an est record: dist_to_next, next, alt, prev, prev_alt, link, type
abbrev pub est : (dist next alt prev prev_alt l : ℕ) (t : EstType) → EstTime
est dist next alt prev prev_alt l t =
    record {
      dist_to_next = metres dist;
      idx_next = record { 0 = next };
      idx_next_alt = record { 0 = alt };
      idx_prev = record { 0 = prev };
      idx_prev_alt = record { 0 = prev_alt };
      link_event = record { link_idx = link l; est_type = t };
    }

-- a path record: offset, time_pass, link, est, auth, type
abbrev pub node : (offset time l e auth : ℕ) (t : EstType) → DispNode
node offset time l e auth t =
    record {
      offset = metres offset;
      time_pass = record { 0 = of_bits binary64 time };
      link_event = record { link_idx = link l; est_type = t };
      est_idx = record { 0 = e };
      disp_auth_idx_entry = auth;
    }

-- a diverge record: train, node
abbrev pub dive : ℕ → ℕ → DivergeNode
dive t n = record { train_idx = train t; disp_node_idx = n }

abbrev pub type_number : EstType → ℕ
type_number Arrive = 0
type_number Clear = 1
type_number Fake = 2

unfoldable pub node_numbers : List DispNode → List ℕ → List ℕ
node_numbers [] rest = rest
node_numbers (n ∷ ns) rest =
    to_bits binary64 n.offset.0 ∷ to_bits binary64 n.time_pass.0 ∷ n.link_event.link_idx.0 ∷ n.est_idx.0 ∷ n.disp_auth_idx_entry ∷ type_number n.link_event.est_type ∷ node_numbers ns rest

unfoldable pub div_numbers : List DivergeNode → List ℕ
div_numbers [] = []
div_numbers (d ∷ ds) = d.train_idx.0 ∷ d.disp_node_idx ∷ div_numbers ds

-- 0 Success, 1 Blocked, 2 Faulty, 3 Refused; then the holder, the count or the number, and the place
abbrev pub status_numbers : Status → List ℕ → List ℕ
status_numbers Success rest = 0 ∷ 0 ∷ 0 ∷ rest
status_numbers (Blocked holder) rest = 1 ∷ holder.0 ∷ 0 ∷ rest
status_numbers (Faulty n) rest = 2 ∷ n ∷ 0 ∷ rest
status_numbers (Refused r) rest = 3 ∷ r.number ∷ r.place ∷ rest

-- status, rounds, strays, fixed, free, front, back, path records, diverge records
unfoldable pub digest : Updated → List ℕ
digest u =
    status_numbers u.answer.status
    (u.answer.tally.rounds ∷ u.answer.tally.strays ∷ u.train.disp_node_idx_fixed ∷ u.train.disp_node_idx_free ∷ u.train.disp_node_idx_front ∷ u.train.disp_node_idx_back ∷ node_numbers u.train.disp_path (div_numbers u.train.div_nodes))

-- what a case computes with: `unfolding everything` unfolds all of it
unfoldable pub everything : ℕ
unfolding node_numbers div_numbers digest of_bits to_bits add sub div neg lt le eq is_nan at slice steps_to walk_from walk_back passes count any same_event arriving occupied in_reach magnitude near_float maximum_number on_path push_trains block_by push_node diverging push_divs links_on_path contains class_walk link_opt_type_of calc_idx_sentinels find_train_intersect pool_push add_one add_from closed add_blocking_trains add_all_blocking_trains concat_train_idx_views look_from stored_from block_stored take_stored stored_trains occupied_next move_of shift_save rewind_divs one_back rewind alternate change_diverge push_saved block_empty advance without remove_links insert_links shift_offsets move_ends new_ends update_free_path_helpers shift_divs update_div_nodes free_is_correct splice_at join is_stray strays steps_next steps_alt bad_step bad_steps in_conflict validate_free_path search_step search_from steps_from meeting split_point round_met begin_at begin_of round_of round_steps finish after_round rounds_from adjust_sentinel update_free_path
everything = 0
