-- The image of one train (document 01, Layouts): its header, its records, and the state that they hold. Assumes nothing.
use Rattle.std.specs.Prelude.{ℕ, zero, suc, ◌+◌, ◌*◌, ◌-◌, Bool, cond, List, [], eqb, ltb, length}
use Rattle.link_rules.specs.Octets.{put_le}
use Rattle.link_rules.specs.declared.link_idx.TrainIdx.{TrainIdx}
use Rattle.disp_structs.specs.Floats.{real_of, bits_of}
use Rattle.disp_structs.specs.Listed.{listed}
use Rattle.disp_structs.specs.declared.Metres.{Metres}
use Rattle.disp_structs.specs.declared.EstType.{EstType}
use Rattle.disp_structs.specs.declared.EstType.TheVariants.{Arrive, Clear, Fake}
use Rattle.disp_structs.specs.declared.EstTime.{EstTime}
use Rattle.disp_structs.specs.declared.DispNode.{DispNode}
use Rattle.disp_structs.specs.declared.DivergeNode.{DivergeNode}
use Rattle.image.specs.Fields.{size_field, est_count_field, path_count_field, diverge_count_field, diverge_room_field, train_field, fixed_field, free_field, front_field, back_field, wide_field, search_field, fixed_max_field, est_dist_field, est_next_field, est_next_alt_field, est_prev_field, est_prev_alt_field, est_link_field, est_type_field, est_kind_field, node_offset_field, node_time_field, node_link_field, node_est_field, node_auth_field, node_type_field, node_kind_field, node_spare_field, diverge_words, diverge_train_field, diverge_node_field, diverge_spare_field, read_field, put_field, read_in, put_in, read_first, put_first}
use Rattle.image.specs.declared.codec.PathHeader.{PathHeader}

-- ---- header; the places and widths of all fields stand in Fields

abbrev pub size_of : List ℕ → ℕ
size_of bs = read_field size_field bs

-- E
abbrev pub est_count : List ℕ → ℕ
est_count bs = read_field est_count_field bs

-- N
abbrev pub path_count_of : List ℕ → ℕ
path_count_of bs = read_field path_count_field bs

-- M
abbrev pub diverge_count_of : List ℕ → ℕ
diverge_count_of bs = read_field diverge_count_field bs

-- Q
abbrev pub diverge_room : List ℕ → ℕ
diverge_room bs = read_field diverge_room_field bs

abbrev pub train_idx_of : List ℕ → TrainIdx
train_idx_of bs = record { 0 = read_field train_field bs }

-- an image is wide exactly if its byte 42 is 1, else narrow (document 02, Q-6)
unfoldable pub is_wide : List ℕ → Bool
is_wide bs = eqb (read_field wide_field bs) 1

-- the header's numbers that an update changes
unfoldable pub path_header : List ℕ → PathHeader
path_header bs =
    record {
      path_count = path_count_of bs;
      diverge_count = diverge_count_of bs;
      fixed = read_field fixed_field bs;
      free = read_field free_field bs;
      front = read_field front_field bs;
      back = read_field back_field bs;
    }

abbrev pub dist_disp_path_search_of : List ℕ → Metres
dist_disp_path_search_of bs = record { 0 = real_of (read_field search_field bs) }

abbrev pub dist_fixed_max_of : List ℕ → Metres
dist_fixed_max_of bs = record { 0 = real_of (read_field fixed_max_field bs) }

-- ---- where the records of index i begin

abbrev pub est_place : ℕ → ℕ
est_place i = 64 + 32 * i

abbrev pub node_place : (e i : ℕ) → ℕ
node_place e i = 64 + 32 * e + 32 * i

-- the first diverge record, of either width
abbrev pub diverge_offset : (e : ℕ) → ℕ
diverge_offset e = 64 + 64 * e

abbrev pub diverge_place : (wide : Bool) (e i : ℕ) → ℕ
diverge_place wide e i = 64 + 64 * e + 4 * (diverge_words wide * i)

-- the size of an image of e est records with room for q diverge nodes
abbrev pub image_size : (wide : Bool) (e q : ℕ) → ℕ
image_size wide e q = 64 + 64 * e + 4 * (diverge_words wide * q)

-- the largest train of a width (document 02, Q-6), and of an image
unfoldable pub largest_of : (wide : Bool) → ℕ
largest_of wide = cond wide 999999 65535

abbrev pub largest_train : List ℕ → ℕ
largest_train bs = largest_of (is_wide bs)

-- ---- records

-- a type's number, and back
unfoldable pub type_of : ℕ → EstType
type_of n = cond (eqb n 0) Arrive (cond (eqb n 1) Clear Fake)

abbrev pub type_number : EstType → ℕ
type_number Arrive = 0
type_number Clear = 1
type_number Fake = 2

-- the est record in the 32 bytes from at
unfoldable pub est_from : (bs : List ℕ) (at : ℕ) → EstTime
est_from bs at =
    record {
      dist_to_next = record { 0 = real_of (read_first est_dist_field bs at) };
      idx_next = record { 0 = read_in est_next_field bs at };
      idx_next_alt = record { 0 = read_in est_next_alt_field bs at };
      idx_prev = record { 0 = read_in est_prev_field bs at };
      idx_prev_alt = record { 0 = read_in est_prev_alt_field bs at };
      link_event = record { link_idx = record { 0 = read_in est_link_field bs at }; est_type = type_of (read_in est_type_field bs at) };
    }

-- the path record in the 32 bytes from at
unfoldable pub node_from : (bs : List ℕ) (at : ℕ) → DispNode
node_from bs at =
    record {
      offset = record { 0 = real_of (read_first node_offset_field bs at) };
      time_pass = record { 0 = real_of (read_in node_time_field bs at) };
      link_event = record { link_idx = record { 0 = read_in node_link_field bs at }; est_type = type_of (read_in node_type_field bs at) };
      est_idx = record { 0 = read_in node_est_field bs at };
      disp_auth_idx_entry = read_in node_auth_field bs at;
    }

-- the diverge record from at
unfoldable pub diverge_from : (wide : Bool) (bs : List ℕ) (at : ℕ) → DivergeNode
diverge_from wide bs at = record { train_idx = record { 0 = read_first (diverge_train_field wide) bs at }; disp_node_idx = read_in (diverge_node_field wide) bs at }

-- est_times[i], disp_path[i], div_nodes[i]
abbrev pub est_at : (bs : List ℕ) (i : ℕ) → EstTime
est_at bs i = est_from bs (est_place i)

abbrev pub node_at : (bs : List ℕ) (i : ℕ) → DispNode
node_at bs i = node_from bs (node_place (est_count bs) i)

-- est_times, of which the image has n
abbrev pub ests_of : (bs : List ℕ) (n : ℕ) → List EstTime
ests_of bs n = listed n (est_at bs)

-- the first n nodes of disp_path
abbrev pub path_of : (bs : List ℕ) (n : ℕ) → List DispNode
path_of bs n = listed n (node_at bs)

abbrev pub diverge_at : (bs : List ℕ) (i : ℕ) → DivergeNode
diverge_at bs i = diverge_from (is_wide bs) bs (diverge_place (is_wide bs) (est_count bs) i)

-- records of zeros
abbrev pub zero_est : EstTime
zero_est = est_from [] 0

abbrev pub zero_node : DispNode
zero_node = node_from [] 0

abbrev pub zero_diverge : DivergeNode
zero_diverge = record { train_idx = record { 0 = 0 }; disp_node_idx = 0 }

-- est_times[i] and disp_path[i] where the record lies within the image, else a record of zeros
unfoldable pub whole_est : (bs : List ℕ) (i : ℕ) → EstTime
whole_est bs i = cond (ltb (length bs) (est_place i + 32)) zero_est (est_at bs i)

unfoldable pub whole_node : (bs : List ℕ) (i : ℕ) → DispNode
whole_node bs i = cond (ltb (length bs) (node_place (est_count bs) i + 32)) zero_node (node_at bs i)

-- ---- records written, every byte of them, spare bytes too

unfoldable pub put_est : (x : EstTime) (at : ℕ) (bs : List ℕ) → List ℕ
put_est x at bs =
    put_in est_kind_field (type_number x.link_event.est_type) at
    (put_in est_link_field x.link_event.link_idx.0 at
    (put_in est_prev_alt_field x.idx_prev_alt.0 at
    (put_in est_prev_field x.idx_prev.0 at
    (put_in est_next_alt_field x.idx_next_alt.0 at
    (put_in est_next_field x.idx_next.0 at
    (put_first est_dist_field (bits_of x.dist_to_next.0) at bs))))))

unfoldable pub put_node : (x : DispNode) (at : ℕ) (bs : List ℕ) → List ℕ
put_node x at bs =
    put_in node_spare_field 0 at
    (put_in node_kind_field (type_number x.link_event.est_type) at
    (put_in node_auth_field x.disp_auth_idx_entry at
    (put_in node_est_field x.est_idx.0 at
    (put_in node_link_field x.link_event.link_idx.0 at
    (put_in node_time_field (bits_of x.time_pass.0) at
    (put_first node_offset_field (bits_of x.offset.0) at bs))))))

unfoldable pub put_diverge : (wide : Bool) (x : DivergeNode) (at : ℕ) (bs : List ℕ) → List ℕ
put_diverge wide x at bs =
    put_in (diverge_spare_field wide) 0 at
    (put_in (diverge_node_field wide) x.disp_node_idx at
    (put_first (diverge_train_field wide) x.train_idx.0 at bs))

-- k numbers of 4 bytes from at are 0
unfoldable pub zero_words : (k at : ℕ) (bs : List ℕ) → List ℕ
zero_words zero at bs = bs
zero_words (suc k) at bs = put_le 4 0 (at + 4 * k) (zero_words k at bs)

-- the path records from n on, and the diverge records from m on, are zero
unfoldable pub clear_nodes : (n : ℕ) (bs : List ℕ) → List ℕ
clear_nodes n bs = zero_words (8 * (est_count bs - n)) (node_place (est_count bs) n) bs

unfoldable pub clear_diverges : (m : ℕ) (bs : List ℕ) → List ℕ
clear_diverges m bs = zero_words (diverge_words (is_wide bs) * (diverge_room bs - m)) (diverge_place (is_wide bs) (est_count bs) m) bs

unfoldable pub put_path_header : PathHeader → List ℕ → List ℕ
put_path_header h bs =
    put_field back_field h.back
    (put_field front_field h.front
    (put_field free_field h.free
    (put_field fixed_field h.fixed
    (put_field diverge_count_field h.diverge_count
    (put_field path_count_field h.path_count bs)))))
