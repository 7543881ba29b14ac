-- The state of a train from the bytes of an image, and back. Assumes nothing.
use Rattle.std.specs.Prelude.{ℕ, ◌+◌, ◌*◌, ◌-◌, Bool, cond, List, [], ◌∷◌, length, replicate}
use Rattle.disp_structs.specs.Floats.{bits_of}
use Rattle.disp_structs.specs.Listed.{listed}
use Rattle.disp_structs.specs.Train.{Train}
use Rattle.image.specs.Fields.{size_field, est_count_field, diverge_room_field, est_offset_field, path_offset_field, diverge_offset_field, train_field, fixed_field, free_field, front_field, back_field, spare_field, spare_rest_field, search_field, fixed_max_field, diverge_words, diverge_size, read_field, put_field}
use Rattle.image.specs.Image.{est_count, path_count_of, diverge_count_of, diverge_room, train_idx_of, is_wide, dist_disp_path_search_of, dist_fixed_max_of, est_place, node_place, diverge_offset, diverge_place, image_size, est_at, node_at, diverge_at, put_est, put_node, put_diverge, zero_words, put_path_header}
use Rattle.image.specs.declared.codec.PathHeader.{PathHeader}

-- total: what an image holds, accepted or not
unfoldable pub decoded : List ℕ → Train
decoded bs =
    record {
      est_times = listed (est_count bs) (est_at bs);
      disp_path = listed (path_count_of bs) (node_at bs);
      div_nodes = listed (diverge_count_of bs) (diverge_at bs);
      diverge_room = diverge_room bs;
      disp_node_idx_fixed = read_field fixed_field bs;
      disp_node_idx_free = read_field free_field bs;
      disp_node_idx_front = read_field front_field bs;
      disp_node_idx_back = read_field back_field bs;
      train_idx = train_idx_of bs;
      dist_disp_path_search = dist_disp_path_search_of bs;
      dist_fixed_max = dist_fixed_max_of bs;
    }

-- ---- encoding

-- the values of a list in records of w bytes from at on
unfoldable pub put_each : {A : Type 0} → (A → ℕ → List ℕ → List ℕ) → ℕ → List A → ℕ → List ℕ → List ℕ
put_each put w [] at bs = bs
put_each put w (x ∷ xs) at bs = put_each put w xs (at + w) (put x at bs)

abbrev pub path_header_of : Train → PathHeader
path_header_of t =
    record {
      path_count = length t.disp_path;
      diverge_count = length t.div_nodes;
      fixed = t.disp_node_idx_fixed;
      free = t.disp_node_idx_free;
      front = t.disp_node_idx_front;
      back = t.disp_node_idx_back;
    }

-- the path with its unused records, then the diverge nodes with theirs
unfoldable pub put_records : (wide : Bool) → Train → List ℕ → List ℕ
put_records wide t bs =
    let e = length t.est_times in
    let n = length t.disp_path in
    let m = length t.div_nodes in
    zero_words (diverge_words wide * (t.diverge_room - m)) (diverge_place wide e m)
    (put_each (put_diverge wide) (diverge_size wide) t.div_nodes (diverge_place wide e 0)
    (zero_words (8 * (e - n)) (node_place e n)
    (put_each put_node 32 t.disp_path (node_place e 0) bs)))

-- what an update changes
unfoldable pub put_changes : (wide : Bool) → Train → List ℕ → List ℕ
put_changes wide t bs = put_path_header (path_header_of t) (put_records wide t bs)

-- an image with what an update changes, of the width that it has
abbrev pub stored_into : Train → List ℕ → List ℕ
stored_into t bs = put_changes (is_wide bs) t bs

-- ---- what no update changes: the rest of the header in its three parts, and the est records

unfoldable pub put_size : (wide : Bool) → Train → List ℕ → List ℕ
put_size wide t bs = put_field est_count_field (length t.est_times) (put_field size_field (image_size wide (length t.est_times) t.diverge_room) bs)

-- Q, the three offsets, the train
unfoldable pub put_offsets : Train → List ℕ → List ℕ
put_offsets t bs =
    let e = length t.est_times in
    put_field train_field t.train_idx.0
    (put_field diverge_offset_field (diverge_offset e)
    (put_field path_offset_field (node_place e 0)
    (put_field est_offset_field (est_place 0)
    (put_field diverge_room_field t.diverge_room bs))))

-- the number of a width at byte 42
abbrev pub wide_number : Bool → ℕ
wide_number wide = cond wide 1 0

-- six spare bytes, the two distances
unfoldable pub put_dists : (wide : Bool) → Train → List ℕ → List ℕ
put_dists wide t bs =
    put_field fixed_max_field (bits_of t.dist_fixed_max.0)
    (put_field search_field (bits_of t.dist_disp_path_search.0)
    (put_field spare_rest_field 0
    (put_field spare_field (wide_number wide) bs)))

unfoldable pub constant_into : (wide : Bool) → Train → List ℕ → List ℕ
constant_into wide t bs = put_each put_est 32 t.est_times (est_place 0) (put_dists wide t (put_offsets t (put_size wide t bs)))

-- every byte of the image
unfoldable pub encoded_into : (wide : Bool) → Train → List ℕ → List ℕ
encoded_into wide t bs = put_changes wide t (constant_into wide t bs)

unfoldable pub encoded : (wide : Bool) → Train → List ℕ
encoded wide t = encoded_into wide t (replicate (image_size wide (length t.est_times) t.diverge_room) 0)
