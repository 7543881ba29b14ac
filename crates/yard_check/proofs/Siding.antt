-- A yard of two trains, by the numbers of its links and trains: train t may go over link a or, by a siding, over link b; the other train goes over link c. Assumes nothing.
use mathlib.Core.List.{List, [], ◌∷◌, ◌++◌}
use Prim.Native.Nat.{ℕ, ◌+◌, ◌/◌, ◌%◌}
use lib.Ieee.{of_bits, to_bits, add, sub, div, neg, lt, le, eq, ne, is_nan}
use Rattle.link_rules.specs.Octets.{le_at, put_le}
use Rattle.link_rules.specs.Network.{all_below}
use Rattle.link_rules.specs.LinkIdx.{occupied}
use Rattle.disp_structs.specs.Floats.{real_of, bits_of, in_reach, magnitude, near_float}
use Rattle.disp_structs.specs.Values.{same_event, arriving}
use Rattle.disp_structs.specs.Listed.{listed}
use Rattle.est_times.specs.Cycles.{follow, via, reach, first_at}
use Rattle.free_path.specs.Base.{at, slice, steps_to, walk_from, walk_back, passes, count, any}
use Rattle.free_path.specs.LinkOptType.{links_on_path, contains, class_walk, link_opt_type_of, calc_idx_sentinels, find_train_intersect}
use Rattle.free_path.specs.TrainIdxsView.{pool_push, add_one, add_from, closed, add_blocking_trains, add_all_blocking_trains, concat_train_idx_views}
use Rattle.free_path.specs.SearchLimit.{maximum_number}
use Rattle.free_path.specs.Validate.{is_stray, strays, steps_next, steps_alt, bad_step, on_path, bad_steps, in_conflict, validate_free_path}
use Rattle.update_definition.specs.State.{push_trains, push_node, push_divs, diverging}
use Rattle.update_definition.specs.Look.{look_from, block_by, stored_from, block_stored, take_stored, stored_trains, occupied_next, move_of}
use Rattle.update_definition.specs.Moves.{shift_save, rewind_divs, one_back, rewind, alternate, change_diverge, push_saved, block_empty, advance}
use Rattle.update_definition.specs.Join.{without, remove_links, insert_links, shift_offsets, move_ends, new_ends, update_free_path_helpers, shift_divs, update_div_nodes, free_is_correct, splice_at, join}
use Rattle.update_definition.specs.Update.{search_step, search_from, steps_from, meeting, split_point, round_met, begin_at, begin_of, round_of, round_steps, finish, after_round, rounds_from, adjust_sentinel, update_free_path}
use Rattle.image.specs.Fields.{diverge_words}
use Rattle.image.specs.Image.{type_of, is_wide, largest_of, path_header, est_from, node_from, diverge_from, put_node, put_diverge, zero_words, put_path_header}
use Rattle.image.specs.Codec.{decoded, put_each, put_records, put_changes}
use Rattle.image_fault.specs.ImageFault.{first_unfit, counts_fit, parts_fit, train_fits, est_type_fits, node_type_fits, diverge_spare_fits, zero_word, unused_zero, records_fit, image_fits, float_fits, time_fits, dist_fits, event_fits, est_links_fit, est_fits, node_fits, indices_fit, header_fits, diverge_train_fits, trains_fault, value_fault, cycle_fault, steps_to as steps, comes_from, ends_at, arrives_on, arrived, first_arrival, on_route, inner_fits, diverge_fits, route_fault, fault_with}
use Rattle.update_definition.specs.UpdateImage.{links_below, call_fault, update_fault_in, updated_image_in}
use Rattle.yard_check.specs.Yard.{part_end, part_of, with_part, part_fits, yard_fits}
use Rattle.yard_check.specs.Check.{slots_fault, report_fault, check_fault, put_row, is_finished, visited, slot_visit, yard_after, report_after, how_many, first_not, answer_of, checked_with}

-- numbers of 4 bytes
unfoldable pub words : List ℕ → List ℕ
words [] = []
words (x ∷ xs) = x % 256 ∷ x / 256 % 256 ∷ x / 65536 % 256 ∷ x / 16777216 ∷ words xs

-- the image of train t: est records Fake, Arrive a, Fake (the alternate of the first), Arrive b, Fake; the path goes over a. The last diverge record has train o
unfoldable pub siding : ℕ → ℕ → ℕ → ℕ → List ℕ
siding t o a b =
    words (
    400 ∷ 5 ∷ 3 ∷ 2 ∷ 4 ∷ 64 ∷ 224 ∷ 384 ∷ t ∷ 1 ∷ 0 ∷ 0 ∷ 0 ∷ 0 ∷ 0 ∷ 0 ∷
    0 ∷ 0 ∷ 1 ∷ 2 ∷ 0 ∷ 0 ∷ 0 ∷ 2 ∷
    0 ∷ 0 ∷ 4 ∷ 0 ∷ 0 ∷ 0 ∷ a ∷ 0 ∷
    0 ∷ 0 ∷ 3 ∷ 0 ∷ 0 ∷ 0 ∷ 0 ∷ 2 ∷
    0 ∷ 0 ∷ 4 ∷ 0 ∷ 2 ∷ 0 ∷ b ∷ 0 ∷
    0 ∷ 0 ∷ 0 ∷ 0 ∷ 1 ∷ 3 ∷ 0 ∷ 2 ∷
    0 ∷ 0 ∷ 0 ∷ 0 ∷ 0 ∷ 0 ∷ 131072 ∷ 0 ∷
    0 ∷ 0 ∷ 0 ∷ 0 ∷ a ∷ 1 ∷ 0 ∷ 0 ∷
    0 ∷ 0 ∷ 0 ∷ 0 ∷ 0 ∷ 4 ∷ 131072 ∷ 0 ∷
    0 ∷ 0 ∷ 0 ∷ 0 ∷ 0 ∷ 0 ∷ 0 ∷ 0 ∷
    0 ∷ 0 ∷ 0 ∷ 0 ∷ 0 ∷ 0 ∷ 0 ∷ 0 ∷
    0 ∷ (o + 196608) ∷ 0 ∷ 0 ∷ [])

-- the same with the path over b
unfoldable pub diverted : ℕ → ℕ → ℕ → ℕ → List ℕ
diverted t o a b =
    words (
    400 ∷ 5 ∷ 4 ∷ 3 ∷ 4 ∷ 64 ∷ 224 ∷ 384 ∷ (t + 131072) ∷ 2 ∷ 0 ∷ 0 ∷ 0 ∷ 0 ∷ 0 ∷ 0 ∷
    0 ∷ 0 ∷ 1 ∷ 2 ∷ 0 ∷ 0 ∷ 0 ∷ 2 ∷
    0 ∷ 0 ∷ 4 ∷ 0 ∷ 0 ∷ 0 ∷ a ∷ 0 ∷
    0 ∷ 0 ∷ 3 ∷ 0 ∷ 0 ∷ 0 ∷ 0 ∷ 2 ∷
    0 ∷ 0 ∷ 4 ∷ 0 ∷ 2 ∷ 0 ∷ b ∷ 0 ∷
    0 ∷ 0 ∷ 0 ∷ 0 ∷ 1 ∷ 3 ∷ 0 ∷ 2 ∷
    0 ∷ 0 ∷ 0 ∷ 0 ∷ 0 ∷ 0 ∷ 131072 ∷ 0 ∷
    0 ∷ 0 ∷ 0 ∷ 0 ∷ 0 ∷ 2 ∷ 131072 ∷ 0 ∷
    0 ∷ 0 ∷ 0 ∷ 2146435072 ∷ b ∷ 3 ∷ 0 ∷ 0 ∷
    0 ∷ 0 ∷ 0 ∷ 0 ∷ 0 ∷ 4 ∷ 131072 ∷ 0 ∷
    0 ∷ 0 ∷ 0 ∷ 0 ∷ 0 ∷ 0 ∷ 0 ∷ 0 ∷
    0 ∷ (o + 65536) ∷ (o + 262144) ∷ 0 ∷ [])

-- the image of train t whose path is Fake, Arrive c; the last diverge record has train o
unfoldable pub plain : ℕ → ℕ → ℕ → List ℕ
plain t o c =
    words (
    200 ∷ 2 ∷ 2 ∷ 2 ∷ 2 ∷ 64 ∷ 128 ∷ 192 ∷ t ∷ 0 ∷ 0 ∷ 0 ∷ 0 ∷ 0 ∷ 0 ∷ 0 ∷
    0 ∷ 0 ∷ 1 ∷ 0 ∷ 0 ∷ 0 ∷ 0 ∷ 2 ∷
    0 ∷ 0 ∷ 0 ∷ 0 ∷ 0 ∷ 0 ∷ c ∷ 0 ∷
    0 ∷ 0 ∷ 0 ∷ 0 ∷ 0 ∷ 0 ∷ 131072 ∷ 0 ∷
    0 ∷ 0 ∷ 0 ∷ 0 ∷ c ∷ 1 ∷ 0 ∷ 0 ∷
    0 ∷ (o + 131072) ∷ [])

-- two images of n and 600 - n bytes in a yard
abbrev pub two_slots : ℕ → List ℕ → List ℕ → List ℕ
two_slots n x y = words (616 ∷ 2 ∷ 16 ∷ (16 + n) ∷ []) ++ (x ++ y)

-- what computed examples unfold
unfoldable pub everything : ℕ
unfolding of_bits to_bits add sub div neg lt le eq ne is_nan le_at put_le all_below occupied real_of bits_of in_reach magnitude near_float same_event arriving listed follow via reach first_at at slice steps_to walk_from walk_back passes count any links_on_path contains class_walk link_opt_type_of calc_idx_sentinels find_train_intersect pool_push add_one add_from closed add_blocking_trains add_all_blocking_trains concat_train_idx_views maximum_number is_stray strays steps_next steps_alt bad_step on_path bad_steps in_conflict validate_free_path push_trains push_node push_divs diverging look_from block_by stored_from block_stored take_stored stored_trains occupied_next move_of shift_save rewind_divs one_back rewind alternate change_diverge push_saved block_empty advance without remove_links insert_links shift_offsets move_ends new_ends update_free_path_helpers shift_divs update_div_nodes free_is_correct splice_at join search_step search_from steps_from meeting split_point round_met begin_at begin_of round_of round_steps finish after_round rounds_from adjust_sentinel update_free_path type_of path_header est_from node_from is_wide diverge_words largest_of diverge_from put_node put_diverge zero_words put_path_header decoded put_each put_records put_changes first_unfit counts_fit parts_fit train_fits est_type_fits node_type_fits diverge_spare_fits zero_word unused_zero records_fit image_fits float_fits time_fits dist_fits event_fits est_links_fit est_fits node_fits indices_fit header_fits diverge_train_fits trains_fault value_fault cycle_fault steps comes_from ends_at arrives_on arrived first_arrival on_route inner_fits diverge_fits route_fault fault_with links_below call_fault update_fault_in updated_image_in part_end part_of with_part part_fits yard_fits slots_fault report_fault check_fault put_row is_finished visited slot_visit yard_after report_after how_many first_not answer_of checked_with words siding diverted plain
everything = 0
