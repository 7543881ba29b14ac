-- Updates of one image, computed: slot 1 of document 01's sheet example, and each refusal of the call. Assumes nothing.
use mathlib.Core.Path.{◌≡◌, refl}
use mathlib.Core.Bool.{false}
use mathlib.Core.List.{List, [], ◌∷◌}
use Prim.Native.Nat.{ℕ, ◌/◌, ◌%◌}
use lib.Ieee.{of_bits, to_bits, add, sub, div, neg, lt, le, eq, ne}
use Rattle.link_rules.specs.Octets.{le_at, put_le}
use Rattle.link_rules.specs.Network.{all_below}
use Rattle.link_rules.specs.LinkIdx.{occupied}
use Rattle.disp_structs.specs.Floats.{real_of, bits_of, in_reach, magnitude, near_float}
use Rattle.disp_structs.specs.Listed.{listed}
use Rattle.est_times.specs.Cycles.{follow, via, reach, first_at}
use Rattle.free_path.specs.Base.{at, walk_from, steps_to, count, any}
use Rattle.free_path.specs.LinkOptType.{links_on_path, contains, class_walk, link_opt_type_of, calc_idx_sentinels}
use Rattle.free_path.specs.Validate.{is_stray, strays, steps_next, bad_step, bad_steps, in_conflict, validate_free_path}
use Rattle.image.specs.Fields.{diverge_words}
use Rattle.image.specs.Image.{type_of, is_wide, largest_of, path_header, est_from, node_from, diverge_from, put_node, put_diverge, zero_words, put_path_header}
use Rattle.image.specs.Codec.{decoded, put_each, put_records, put_changes}
use Rattle.link_rules.specs.Refusals.{refused}
use Rattle.image_fault.specs.ImageFault.{first_unfit, counts_fit, parts_fit, train_fits, est_type_fits, node_type_fits, diverge_spare_fits, zero_word, unused_zero, records_fit, image_fits, float_fits, time_fits, dist_fits, event_fits, est_links_fit, est_fits, node_fits, indices_fit, header_fits, diverge_train_fits, trains_fault, value_fault, cycle_fault, steps_to as steps, comes_from, ends_at, arrives_on, arrived, first_arrival, on_route, inner_fits, diverge_fits, route_fault, fault_with}
use Rattle.update_definition.specs.Update.{Success, Faulty, answer_of, split_point, round_met, begin_of, round_of, round_steps, finish, after_round, rounds_from, adjust_sentinel, update_free_path}
use Rattle.update_definition.specs.UpdateImage.{links_below, call_fault, refused_answer, update_fault_in, updated_image_in, updated_image}

-- numbers of 4 bytes
unfoldable words : List ℕ → List ℕ
words [] = []
words (x ∷ xs) = x % 256 ∷ x / 256 % 256 ∷ x / 65536 % 256 ∷ x / 16777216 ∷ words xs

-- the image of train 1 by its free path node and by its last diverge record: path Fake, Arrive 1, Clear 1
unfoldable slot : ℕ → ℕ → List ℕ
slot free end =
    words (
    264 ∷ 3 ∷ 3 ∷ 2 ∷ 2 ∷ 64 ∷ 160 ∷ 256 ∷ 1 ∷ free ∷ 0 ∷ 0 ∷ 0 ∷ 0 ∷ 0 ∷ 0 ∷
    0 ∷ 0 ∷ 1 ∷ 0 ∷ 0 ∷ 0 ∷ 0 ∷ 2 ∷
    0 ∷ 0 ∷ 2 ∷ 0 ∷ 0 ∷ 0 ∷ 1 ∷ 0 ∷
    0 ∷ 0 ∷ 0 ∷ 0 ∷ 1 ∷ 0 ∷ 1 ∷ 1 ∷
    0 ∷ 0 ∷ 0 ∷ 0 ∷ 0 ∷ 0 ∷ 131072 ∷ 0 ∷
    0 ∷ 0 ∷ 0 ∷ 0 ∷ 1 ∷ 1 ∷ 0 ∷ 0 ∷
    0 ∷ 0 ∷ 0 ∷ 0 ∷ 1 ∷ 2 ∷ 65536 ∷ 0 ∷
    0 ∷ end ∷ [])

-- what the examples compute with
unfoldable everything : ℕ
unfolding of_bits to_bits add sub div neg lt le eq ne le_at put_le all_below occupied real_of bits_of in_reach magnitude near_float listed follow via reach first_at at walk_from steps_to count any links_on_path contains class_walk link_opt_type_of calc_idx_sentinels is_stray strays steps_next bad_step bad_steps in_conflict validate_free_path type_of path_header est_from node_from is_wide diverge_words largest_of diverge_from put_node put_diverge zero_words put_path_header decoded put_each put_records put_changes first_unfit counts_fit parts_fit train_fits est_type_fits node_type_fits diverge_spare_fits zero_word unused_zero records_fit image_fits float_fits time_fits dist_fits event_fits est_links_fit est_fits node_fits indices_fit header_fits diverge_train_fits trains_fault value_fault cycle_fault steps comes_from ends_at arrives_on arrived first_arrival on_route inner_fits diverge_fits route_fault fault_with split_point round_met begin_of round_of round_steps finish after_round rounds_from adjust_sentinel update_free_path words slot links_below call_fault update_fault_in updated_image_in
everything = 0

-- the update of the sheet example: train 2 moved, nothing held, one round; the last diverge node gets train 2
success : updated_image (slot 0 196608) (0 ∷ 0 ∷ 0 ∷ []) [] 2 false 1 ≡ record { answer = answer_of Success (record { rounds = 1; strays = 0; faults = 0; steps = 0 }); image = slot 0 196610 }
unfolding everything
success = refl

-- link 1 is held and not in the blocking list: one error, and a stray before the round and after it
faulty : updated_image (slot 0 196608) (0 ∷ 9 ∷ 0 ∷ []) [] 2 false 1 ≡ record { answer = answer_of (Faulty 1) (record { rounds = 1; strays = 2; faults = 1; steps = 0 }); image = slot 0 196610 }
unfolding everything
faulty = refl

-- ---- refusals: an occupancy of one entry; a blocking link 3 of 3 links; no moved train; no round

short : updated_image (slot 0 196608) (0 ∷ []) [] 2 false 1 ≡ refused_answer (refused 2 0) (slot 0 196608)
unfolding everything
short = refl

above : updated_image (slot 0 196608) (0 ∷ 0 ∷ 0 ∷ []) (1 ∷ 3 ∷ []) 2 false 1 ≡ refused_answer (refused 4 0) (slot 0 196608)
unfolding everything
above = refl

unmoved : updated_image (slot 0 196608) (0 ∷ 0 ∷ 0 ∷ []) [] 0 false 1 ≡ refused_answer (refused 5 0) (slot 0 196608)
unfolding everything
unmoved = refl

roundless : updated_image (slot 0 196608) (0 ∷ 0 ∷ 0 ∷ []) [] 2 false 0 ≡ refused_answer (refused 5 0) (slot 0 196608)
unfolding everything
roundless = refl

-- no image; free above N; the last diverge node not at N; free at N

empty : updated_image [] (0 ∷ 0 ∷ 0 ∷ []) [] 2 false 1 ≡ refused_answer (refused 6 0) []
unfolding everything
empty = refl

past : updated_image (slot 4 196608) (0 ∷ 0 ∷ 0 ∷ []) [] 2 false 1 ≡ refused_answer (refused 7 0) (slot 4 196608)
unfolding everything
past = refl

unended : updated_image (slot 0 131072) (0 ∷ 0 ∷ 0 ∷ []) [] 2 false 1 ≡ refused_answer (refused 9 1) (slot 0 131072)
unfolding everything
unended = refl

finished : updated_image (slot 3 196608) (0 ∷ 0 ∷ 0 ∷ []) [] 2 false 1 ≡ refused_answer (refused 10 0) (slot 3 196608)
unfolding everything
finished = refl
