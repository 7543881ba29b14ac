-- Refusals 6 to 9 of an image with their places (document 01, Update), and 22 of its diverge records (document 02, Q-6). L is the number of links.
-- Assumes nothing.
use Rattle.std.specs.Prelude.{ℕ, zero, suc, ◌+◌, ◌*◌, ◌-◌, ◌%◌, Bool, true, false, cond, not, ◌&&◌, ◌||◌, List, ltb, leb, eqb, length, Option, Some, None, Ok, Err}
use Rattle.std.specs.Float.Ieee.{lt}
use Rattle.link_rules.specs.Octets.{le_at}
use Rattle.link_rules.specs.LinkIdx.{no_link, same_link}
use Rattle.link_rules.specs.Network.{all_below}
use Rattle.link_rules.specs.declared.link_idx.LinkIdx.{LinkIdx}
use Rattle.disp_structs.specs.Floats.{real_of, in_reach, nought}
use Rattle.disp_structs.specs.Values.{no_est, same_est, is_arrive}
use Rattle.disp_structs.specs.declared.EstIdx.{EstIdx}
use Rattle.disp_structs.specs.declared.LinkEvent.{LinkEvent}
use Rattle.disp_structs.specs.declared.EstTime.{EstTime}
use Rattle.disp_structs.specs.declared.DivergeNode.{DivergeNode}
use Rattle.disp_structs.specs.Listed.{listed}
use Rattle.est_times.specs.Cycles.{first_on_cycle}
use Rattle.image.specs.Fields.{est_offset_field, path_offset_field, diverge_offset_field, spare_field, spare_rest_field, search_field, fixed_max_field, est_dist_field, est_kind_field, node_offset_field, node_time_field, node_kind_field, node_spare_field, diverge_words, diverge_spare_field, read_field, read_in, read_first}
use Rattle.image.specs.Image.{size_of, est_count, path_count_of, diverge_count_of, diverge_room, train_idx_of, is_wide, path_header, est_place, node_place, diverge_offset, diverge_place, image_size, largest_of, est_at, node_at, diverge_at}
use Rattle.image.specs.declared.codec.PathHeader.{PathHeader}
use Rattle.link_rules.specs.declared.refusal.Refusal.{Refusal}
use Rattle.image_fault.specs.declared.Widths.{Widths}
use Rattle.image_fault.specs.declared.Widths.TheVariants.{Narrow, Either}
use Rattle.link_rules.specs.Refusals.{no_refusal, refused, or_else, refused_unless, Answer, Done, raised}

-- refusal n at the first of the k indices from i on that does not fit
unfoldable pub first_unfit : (n : ℕ) (fits : ℕ → Bool) (k i : ℕ) → Refusal
first_unfit n fits zero i = no_refusal
first_unfit n fits (suc k) i = elim (fits i) [ true ↦ first_unfit n fits k (i + 1) | false ↦ refused n i ]

-- ---- 2: an L outside 2 to 4,000 is that of no occupancy table

abbrev pub length_fault : ℕ → Refusal
length_fault l = refused_unless (leb 2 l && leb l 4000) 2

-- ---- 6: header, size, types, spare bytes, unused records

-- E from 1 to 512, N from 1 to E, M from 2 to Q, Q to 1,024
unfoldable pub counts_fit : List ℕ → Bool
counts_fit bs =
    leb 1 (est_count bs) && (leb (est_count bs) 512 && (leb 1 (path_count_of bs) && (leb (path_count_of bs) (est_count bs)
    && (leb 2 (diverge_count_of bs) && (leb (diverge_count_of bs) (diverge_room bs) && leb (diverge_room bs) 1024)))))

-- the parts follow without gaps, and the size is that of the whole buffer
unfoldable pub parts_fit : List ℕ → Bool
parts_fit bs =
    eqb (read_field est_offset_field bs) (est_place 0) && (eqb (read_field path_offset_field bs) (node_place (est_count bs) 0) && (eqb (read_field diverge_offset_field bs) (diverge_offset (est_count bs))
    && (eqb (size_of bs) (image_size (is_wide bs) (est_count bs) (diverge_room bs)) && eqb (size_of bs) (length bs))))

-- the widths that a call takes: a wide image has 1 in the first spare byte (document 02, Q-6)
abbrev pub width_number : Widths → ℕ
width_number Narrow = 0
width_number Either = 1

-- the train is not 0, and the six spare bytes are, the first of them up to the width
unfoldable pub train_fits : Widths → List ℕ → Bool
train_fits w bs = not (eqb (train_idx_of bs).0 0) && (leb (read_field spare_field bs) (width_number w) && eqb (read_field spare_rest_field bs) 0)

-- a type is at most 2, and the spare bytes behind it are 0
unfoldable pub est_type_fits : (bs : List ℕ) (i : ℕ) → Bool
est_type_fits bs i = leb (read_in est_kind_field bs (est_place i)) 2

unfoldable pub node_type_fits : (bs : List ℕ) (i : ℕ) → Bool
node_type_fits bs i = leb (read_in node_kind_field bs (node_place (est_count bs) i)) 2 && eqb (read_in node_spare_field bs (node_place (est_count bs) i)) 0

-- the spare bytes of a diverge record, which a wide image has, are 0
unfoldable pub diverge_spare_fits : (bs : List ℕ) (i : ℕ) → Bool
diverge_spare_fits bs i = eqb (read_in (diverge_spare_field (is_wide bs)) bs (diverge_place (is_wide bs) (est_count bs) i)) 0

-- the four bytes of number j from at are 0
unfoldable pub zero_word : (bs : List ℕ) (at j : ℕ) → Bool
zero_word bs at j = eqb (le_at 4 bs (at + 4 * j)) 0

-- the path records from N on and the diverge records from M on are zero
unfoldable pub unused_zero : List ℕ → Bool
unused_zero bs =
    all_below (8 * (est_count bs - path_count_of bs)) (zero_word bs (node_place (est_count bs) (path_count_of bs)))
    && all_below (diverge_words (is_wide bs) * (diverge_room bs - diverge_count_of bs)) (zero_word bs (diverge_place (is_wide bs) (est_count bs) (diverge_count_of bs)))

unfoldable pub records_fit : List ℕ → Bool
records_fit bs =
    all_below (est_count bs) (est_type_fits bs) && (all_below (path_count_of bs) (node_type_fits bs)
    && (all_below (diverge_count_of bs) (diverge_spare_fits bs) && unused_zero bs))

unfoldable pub image_fits : Widths → List ℕ → Bool
image_fits w bs = counts_fit bs && (parts_fit bs && (train_fits w bs && records_fit bs))

abbrev pub layout_fault : Widths → List ℕ → Refusal
layout_fault w bs = refused_unless (image_fits w bs) 6

-- ---- 7: floats, links, est indices, and the header's indices

-- the pattern of a finite float, at most 1e12 in magnitude
unfoldable pub float_fits : ℕ → Bool
float_fits b = leb (b % 0x8000_0000_0000_0000) 0x7ff0_0000_0000_0000 && in_reach (real_of b)

-- time_pass may be +infinity
unfoldable pub time_fits : ℕ → Bool
time_fits b = eqb b 0x7ff0_0000_0000_0000 || float_fits b

-- a distance setting is not negative; -0.0 is not
unfoldable pub dist_fits : ℕ → Bool
dist_fits b = float_fits b && not (lt (real_of b) nought)

-- the link is below L, and not 0 at an Arrive
unfoldable pub event_fits : ℕ → LinkEvent → Bool
event_fits l e = ltb e.link_idx.0 l && not (is_arrive e.est_type && same_link e.link_idx no_link)

-- the four est indices are below E
unfoldable pub est_links_fit : ℕ → EstTime → Bool
est_links_fit e x = ltb x.idx_next.0 e && (ltb x.idx_next_alt.0 e && (ltb x.idx_prev.0 e && ltb x.idx_prev_alt.0 e))

unfoldable pub est_fits : (bs : List ℕ) (l i : ℕ) → Bool
est_fits bs l i = float_fits (read_first est_dist_field bs (est_place i)) && (est_links_fit (est_count bs) (est_at bs i) && event_fits l (est_at bs i).link_event)

unfoldable pub node_fits : (bs : List ℕ) (l i : ℕ) → Bool
node_fits bs l i =
    float_fits (read_first node_offset_field bs (node_place (est_count bs) i)) && (time_fits (read_in node_time_field bs (node_place (est_count bs) i))
    && (ltb (node_at bs i).est_idx.0 (est_count bs) && event_fits l (node_at bs i).link_event))

-- fixed and free at most N, front and back below N
unfoldable pub indices_fit : PathHeader → Bool
indices_fit h = leb h.fixed h.path_count && (leb h.free h.path_count && (ltb h.front h.path_count && ltb h.back h.path_count))

unfoldable pub header_fits : List ℕ → Bool
header_fits bs = dist_fits (read_field search_field bs) && (dist_fits (read_field fixed_max_field bs) && indices_fit (path_header bs))

-- 22: the train of a diverge record of a wide image is above 999,999; a narrow one cannot hold such
unfoldable pub diverge_train_fits : (bs : List ℕ) (i : ℕ) → Bool
diverge_train_fits bs i = leb (diverge_at bs i).train_idx.0 (largest_of true)

unfoldable pub trains_fault : List ℕ → Refusal
trains_fault bs = cond (is_wide bs) (first_unfit 22 (diverge_train_fits bs) (diverge_count_of bs) 0) no_refusal

-- est records come first, then path records, then the header; 22 at the end
unfoldable pub value_fault : (bs : List ℕ) (l : ℕ) → Refusal
value_fault bs l =
    or_else (first_unfit 7 (est_fits bs l) (est_count bs) 0)
    (or_else (first_unfit 7 (node_fits bs l) (path_count_of bs) 0)
    (or_else (refused_unless (header_fits bs) 7)
    (trains_fault bs)))

-- ---- 8: next and alt form a cycle

-- idx_next and idx_next_alt of the est records
abbrev pub nexts : List ℕ → List ℕ
nexts bs = listed (est_count bs) (λ i. (est_at bs i).idx_next.0)

abbrev pub alts : List ℕ → List ℕ
alts bs = listed (est_count bs) (λ i. (est_at bs i).idx_next_alt.0)

abbrev pub cycle_refused : Option ℕ → Refusal
cycle_refused None = no_refusal
cycle_refused (Some i) = refused 8 i

unfoldable pub cycle_fault : List ℕ → Refusal
cycle_fault bs = cycle_refused (first_on_cycle (nexts bs) (alts bs) (est_count bs))

-- ---- 9: the path, then the diverge nodes

-- a step by next or alt; 0 is none, and never a step
unfoldable pub steps_to : EstIdx → EstIdx → EstIdx → Bool
steps_to next alt x = not (same_est x no_est) && (same_est x next || same_est x alt)

-- the path starts at est 0, and each node is a step from the node before it
unfoldable pub comes_from : (bs : List ℕ) (i : ℕ) → Bool
comes_from bs i =
    cond (eqb i 0) (same_est (node_at bs i).est_idx no_est)
    (let b = (node_at bs (i - 1)).est_idx.0 in steps_to (est_at bs b).idx_next (est_at bs b).idx_next_alt (node_at bs i).est_idx)

-- the last node's est has no next
unfoldable pub ends_at : (bs : List ℕ) (i : ℕ) → Bool
ends_at bs i = not (eqb (i + 1) (path_count_of bs)) || same_est (est_at bs (node_at bs i).est_idx.0).idx_next no_est

-- an Arrive on link l
unfoldable pub arrives_on : LinkIdx → LinkEvent → Bool
arrives_on l e = is_arrive e.est_type && same_link e.link_idx l

-- one of the first i nodes is an Arrive on link l
unfoldable pub arrived : (bs : List ℕ) (l : LinkIdx) (i : ℕ) → Bool
arrived bs l zero = false
arrived bs l (suc i) = arrived bs l i || arrives_on l (node_at bs i).link_event

-- an Arrive whose link no Arrive before it has, or no Arrive
unfoldable pub first_arrival : (bs : List ℕ) (i : ℕ) → Bool
first_arrival bs i = not (is_arrive (node_at bs i).link_event.est_type && arrived bs (node_at bs i).link_event.link_idx i)

unfoldable pub on_route : (bs : List ℕ) (i : ℕ) → Bool
on_route bs i = comes_from bs i && (ends_at bs i && first_arrival bs i)

-- between the first and the last: a train, a node from 1 to N - 1, not below the node before it
unfoldable pub inner_fits : ℕ → DivergeNode → DivergeNode → Bool
inner_fits n d b =
    not (eqb d.train_idx.0 0) && (leb 1 d.disp_node_idx && (ltb d.disp_node_idx n && leb b.disp_node_idx d.disp_node_idx))

-- first (0, 0), last at N
unfoldable pub diverge_fits : (bs : List ℕ) (i : ℕ) → Bool
diverge_fits bs i =
    cond (eqb i 0) (eqb (diverge_at bs i).train_idx.0 0 && eqb (diverge_at bs i).disp_node_idx 0)
    (cond (eqb (i + 1) (diverge_count_of bs)) (eqb (diverge_at bs i).disp_node_idx (path_count_of bs))
    (inner_fits (path_count_of bs) (diverge_at bs i) (diverge_at bs (i - 1))))

unfoldable pub route_fault : List ℕ → Refusal
route_fault bs = or_else (first_unfit 9 (on_route bs) (path_count_of bs) 0) (first_unfit 9 (diverge_fits bs) (diverge_count_of bs) 0)

-- ---- all in order

-- in a call that takes the widths w; f is the call's own refusal between 6 and 7
unfoldable pub fault_with : (w : Widths) (f : Refusal) (bs : List ℕ) (l : ℕ) → Refusal
fault_with w f bs l =
    or_else (length_fault l)
    (or_else (layout_fault w bs)
    (or_else f
    (or_else (value_fault bs l)
    (or_else (cycle_fault bs)
    (route_fault bs)))))

-- a call's own answer between 6 and 7: an Err with number 0 is none
abbrev pub own_answer : Answer → Answer
own_answer (Ok _) = Done
own_answer (Err f) = raised f

-- in a call that takes narrow images alone, and has no refusal of its own there
abbrev pub image_fault : (bs : List ℕ) (l : ℕ) → Refusal
image_fault bs l = fault_with Narrow no_refusal bs l

-- an image of either width passes 6 to 9 over so many links, 22 of a diverge record among them
unfoldable pub is_accepted : (img : List ℕ) (links : ℕ) → Bool
is_accepted img links = eqb (fault_with Either no_refusal img links).number 0
