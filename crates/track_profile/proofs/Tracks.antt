-- Two updates over the bytes of an image, computed: a Success that stays in the profile, and a Success that leaves it, with a step along alt that is not 0. Assumes nothing.
-- Train 1 goes over link 1, on which train 2 stands, to link 3, and from there along alt. The update leads it round by the siding over link 2 and shifts what is behind.
use mathlib.Core.Path.{◌≡◌, refl}
use mathlib.Core.Bool.{true, false}
use mathlib.Core.List.{List, [], ◌∷◌}
use Prim.Native.Nat.{ℕ}
use lib.Ieee.{le, lt, eq, ne}
use Rattle.link_rules.specs.Octets.{le_at, put_le}
use Rattle.link_rules.specs.Network.{all_below}
use Rattle.disp_structs.specs.Floats.{real_of, bits_of, near_float}
use Rattle.disp_structs.specs.Listed.{listed}
use Rattle.disp_structs.specs.Train.{Train}
use Rattle.disp_structs.specs.declared.EstType.TheVariants.{Arrive, Fake}
use Rattle.est_times.specs.Cycles.{follow, via, reach, first_at}
use Rattle.image.specs.Fields.{diverge_words}
use Rattle.image.specs.Image.{path_count_of, type_of, is_wide, largest_of, path_header, est_from, node_from, diverge_from, put_est, put_node, put_diverge, zero_words, put_path_header}
use Rattle.image.specs.Codec.{decoded, put_each, put_records, put_changes, put_size, put_offsets, put_dists, constant_into, encoded_into, encoded}
use Rattle.image_fault.specs.ImageFault.{first_unfit, counts_fit, parts_fit, train_fits, est_type_fits, node_type_fits, diverge_spare_fits, zero_word, unused_zero, records_fit, image_fits, float_fits, time_fits, dist_fits, event_fits, est_links_fit, est_fits, node_fits, indices_fit, header_fits, diverge_train_fits, trains_fault, value_fault, cycle_fault, steps_to, comes_from, ends_at, arrives_on, arrived, first_arrival, on_route, inner_fits, diverge_fits, route_fault, fault_with}
use Rattle.link_rules.specs.Refusals.{no_refusal, refused}
use Rattle.update_definition.specs.Update.{Success}
use Rattle.update_laws.proofs.Build.{train, metres, est, node, dive, everything}
use Rattle.update_definition.specs.UpdateImage.{UpdatedImage, links_below, call_fault, update_fault_in, updated_image_in, updated_image}
use Rattle.track_profile.specs.Profile.{units_of, in_profile, offset_at, image_in_profile, profile_fault}
use Rattle.track_profile.specs.ExactSteps.{names_next, names_alt}

-- a train by the bits of five floats: the distance over link 1, the two distances of the siding, the offsets of the last two nodes
unfoldable track : ℕ → ℕ → ℕ → ℕ → ℕ → Train
track direct first second joins last =
    record {
      est_times = (
          est 0 1 2 0 0 0 Fake ∷
          est direct 4 0 0 0 1 Arrive ∷
          est first 3 0 0 0 0 Fake ∷
          est second 4 0 2 0 2 Arrive ∷
          est 0 6 5 1 3 3 Arrive ∷
          est 0 0 0 4 0 0 Fake ∷
          est 0 0 0 4 0 4 Arrive ∷ []);
      disp_path = (
          node 0 0x7ff0_0000_0000_0000 0 0 0 Fake ∷
          node 0 0x7ff0_0000_0000_0000 1 1 0 Arrive ∷
          node joins 0x7ff0_0000_0000_0000 3 4 0 Arrive ∷
          node last 0x7ff0_0000_0000_0000 0 5 0 Fake ∷ []);
      div_nodes = (dive 0 0 ∷ dive 0 4 ∷ []);
      disp_node_idx_fixed = 0;
      disp_node_idx_free = 0;
      disp_node_idx_front = 0;
      disp_node_idx_back = 0;
      dist_disp_path_search = metres 0;
      dist_fixed_max = metres 0;
      train_idx = train 1;
      diverge_room = 4;
    }

unfoldable updated : Train → UpdatedImage
updated t = updated_image (encoded false t) (0 ∷ 2 ∷ 0 ∷ 0 ∷ 0 ∷ []) (1 ∷ []) 2 false 5

-- the offsets of an image in 1/1024 metre
unfoldable offsets : List ℕ → List ℕ
offsets bs = listed (path_count_of bs) (λ i. units_of (offset_at bs i))

-- what the two compute with
unfoldable computed : ℕ
unfolding everything track updated offsets le lt eq ne le_at put_le all_below real_of bits_of listed follow via reach first_at type_of path_header est_from node_from is_wide diverge_words largest_of diverge_from put_est put_node put_diverge zero_words put_path_header decoded put_each put_records put_changes put_size put_offsets put_dists constant_into encoded_into encoded first_unfit counts_fit parts_fit train_fits est_type_fits node_type_fits diverge_spare_fits zero_word unused_zero records_fit image_fits float_fits time_fits dist_fits event_fits est_links_fit est_fits node_fits indices_fit header_fits diverge_train_fits trains_fault value_fault cycle_fault steps_to comes_from ends_at arrives_on arrived first_arrival on_route inner_fits diverge_fits route_fault fault_with links_below call_fault update_fault_in updated_image_in units_of in_profile image_in_profile profile_fault
computed = 0

-- ---- 100 metres over link 1, 100 and 100 over the siding

unfoldable short : Train
short = track 0x4059_0000_0000_0000 0x4059_0000_0000_0000 0x4059_0000_0000_0000 0x4059_0000_0000_0000 0x4059_0000_0000_0000

short-before : profile_fault (encoded false short) ≡ no_refusal
unfolding computed short
short-before = refl

short_success : (updated short).answer.status ≡ Success
unfolding computed short
short_success = refl

short-after : profile_fault (updated short).image ≡ no_refusal
unfolding computed short
short-after = refl

-- 0, 0, 100, 200 and 200 metres
short-steps : offsets (updated short).image ≡ (0 ∷ 0 ∷ 102400 ∷ 204800 ∷ 204800 ∷ [])
unfolding computed short
short-steps = refl

-- ---- 20,100 metres over link 1, 20,000 and 40,000 over the siding; the last step is along alt, and 1/1024 metre

unfoldable long : Train
long = track 0x40d3_a100_0000_0000 0x40d3_8800_0000_0000 0x40e3_8800_0000_0000 0x40d3_a100_0000_0000 0x40d3_a100_1000_0000

long-before : profile_fault (encoded false long) ≡ no_refusal
unfolding computed long
long-before = refl

-- at 20,100 metres and 1/1024 more, not near
long_apart : near_float (offset_at (encoded false long) 2) (offset_at (encoded false long) 3) ≡ false
unfolding computed long
long_apart = refl

long_success : (updated long).answer.status ≡ Success
unfolding computed long
long_success = refl

long_after : profile_fault (updated long).image ≡ refused 29 0
unfolding computed long
long_after = refl

-- at 60,000 metres and 1/1024 more
long-steps : offsets (updated long).image ≡ (0 ∷ 0 ∷ 20480000 ∷ 61440000 ∷ 61440001 ∷ [])
unfolding computed long
long-steps = refl

long_by_alt : names_alt (updated long).image 3 ≡ true
unfolding computed long
long_by_alt = refl

long-not_by_next : names_next (updated long).image 3 ≡ false
unfolding computed long
long-not_by_next = refl
