-- The round trips of a whole image, and the store of an update in place. Assumes nothing.
use mathlib.Core.Path.{◌≡◌, sym, ap, ap₂, ◌∙◌}
use mathlib.Core.Logic.{◌⊎◌, inl, inr}
use mathlib.Core.Bool.{Bool, true, false}
use mathlib.Core.List.{List, []}
use Prim.Native.Nat.{ℕ, ◌+◌, ◌*◌, ◌-◌, ◌^◌, ◌≤◌, ◌<◌}
use native.Mathlib.Omega.{arith}
use lib.Dec.{lit<}
use lib.ListN.{length, get_or, replicate, length-replicate}
use borrow.Author.Tests.{eq-eqb, ne_eqb}
use Rattle.link_rules.specs.Octets.{le_at, put_le}
use Rattle.link_rules.proofs.OctetLaws.{Bytes, le_lt, le_put_same, le_put_other, length-put, put-le}
use Rattle.disp_structs.specs.Floats.{real_of, bits_of}
use Rattle.disp_structs.specs.Listed.{listed}
use Rattle.disp_structs.specs.Train.{Train}
use Rattle.disp_structs.proofs.FloatLaws.{bits_real, bits_lt, real_bits, real_fits, real_number}
use Rattle.disp_structs.proofs.ListedLaws.{listed-length, listed_same, listed_at}
use Rattle.image.specs.Fields.{train_field, diverge_words, diverge_size, field_bound}
use Rattle.image.specs.Image.{size_of, est_count, path_count_of, diverge_count_of, diverge_room, is_wide, est_place, node_place, diverge_offset, diverge_place, image_size, est_from, node_from, diverge_from, est_at, node_at, diverge_at, zero_diverge, put_est, put_node, put_diverge, put_path_header}
use Rattle.image.specs.Codec.{decoded, put_each, path_header_of, put_records, put_changes, stored_into, put_size, put_offsets, wide_number, put_dists, constant_into, encoded_into, encoded}
use Rattle.image.specs.declared.codec.PathHeader.{PathHeader}
use Rattle.image.proofs.WidthLaws.{words_rise, words-next}
use Rattle.image.proofs.Writers.{Writes, le_outside}
use Rattle.image.proofs.RecordLaws.{Number, Real, EstHeld, NodeHeld, DivergeHeld, GoodEst, GoodNode, GoodDiverge, est_writes, est_cong, est_read, est-back, node_writes, node_cong, node_read, node-back, diverge_writes, diverge_cong, diverge_read, diverge-back}
use Rattle.image.proofs.EachLaws.{each_back, zero_back, from_outside, each-list}
use Rattle.image.proofs.Parts.{put_ests, put_counts, put_indices, put_path, clear_path, put_diverges, InRoom, size, after_size, after_offsets, after_dists, after_ests, after_records, after_counts, after_indices, parts, offsets_writes, dists_writes, ests_writes, counts_writes, indices_writes, path_writes, no-path_writes, diverges_writes, no_diverges_writes, records_writes, long-size, long-offsets, long_dists, long-ests, long-records, long-counts, encoded-into}

-- ---- encoding what was decoded

-- bytes that are those of an image; every image that is accepted has them
pub record GoodImage (bs : List ℕ) : Type 0 where
  pub bytes : Bytes bs
  pub size_is : size_of bs ≡ image_size (is_wide bs) (est_count bs) (diverge_room bs)
  pub long : length bs ≡ image_size (is_wide bs) (est_count bs) (diverge_room bs)
  pub est-offset : le_at 4 bs 20 ≡ est_place 0
  pub path-offset : le_at 4 bs 24 ≡ node_place (est_count bs) 0
  pub diverge-offset : le_at 4 bs 28 ≡ diverge_offset (est_count bs)
  pub spare : le_at 2 bs 42 ≡ wide_number (is_wide bs)
  pub spare_rest : le_at 4 bs 44 ≡ 0
  pub few-path : path_count_of bs ≤ est_count bs
  pub few-diverge : diverge_count_of bs ≤ diverge_room bs
  pub search : Number (le_at 8 bs 48)
  pub fixed-max : Number (le_at 8 bs 56)
  pub est : (i : ℕ) → i < est_count bs → GoodEst bs (est_place i)
  pub node : (i : ℕ) → i < path_count_of bs → GoodNode bs (node_place (est_count bs) i)
  pub no_node : (j : ℕ) → j < 8 * (est_count bs - path_count_of bs) → le_at 4 bs (node_place (est_count bs) (path_count_of bs) + 4 * j) ≡ 0
  pub diverge : (i : ℕ) → i < diverge_count_of bs → GoodDiverge (is_wide bs) bs (diverge_place (is_wide bs) (est_count bs) i)
  pub no-diverge : (j : ℕ) → j < diverge_words (is_wide bs) * (diverge_room bs - diverge_count_of bs) → le_at 4 bs (diverge_place (is_wide bs) (est_count bs) (diverge_count_of bs) + 4 * j) ≡ 0

module _ (bs : List ℕ) (g : GoodImage bs) where
  abbrev W : Bool
  W = is_wide bs

  size_back : put_size W (decoded bs) bs ≡ bs
  unfolding put_size decoded
  size_back = rw (listed-length (est_count bs) (est_at bs), ← g.size_is, put-le 4 0 bs g.bytes) (put-le 4 4 bs g.bytes)

  -- a number that stands there already
  stands : (w x at : ℕ) → le_at w bs at ≡ x → put_le w x at bs ≡ bs
  stands w x at q = ap (λ (y : ℕ). put_le w y at bs) (sym q) ∙ put-le w at bs g.bytes

  offsets-back : put_offsets (decoded bs) bs ≡ bs
  unfolding put_offsets decoded
  offsets-back =
      rw (
        listed-length (est_count bs) (est_at bs),
        put-le 4 16 bs g.bytes,
        stands 4 (est_place 0) 20 g.est-offset,
        stands 4 (node_place (est_count bs) 0) 24 g.path-offset,
        stands 4 (diverge_offset (est_count bs)) 28 g.diverge-offset,
      )
      (put-le 2 32 bs g.bytes)

  dists_back : put_dists W (decoded bs) bs ≡ bs
  unfolding put_dists decoded
  dists_back =
      rw (
        stands 2 (wide_number W) 42 g.spare,
        stands 4 0 44 g.spare_rest,
        bits_real (le_at 8 bs 48) (le_lt 8 bs 48 g.bytes) g.search,
        put-le 8 48 bs g.bytes,
        bits_real (le_at 8 bs 56) (le_lt 8 bs 56 g.bytes) g.fixed-max,
      )
      (put-le 8 56 bs g.bytes)

  ests-back : put_ests (decoded bs) bs ≡ bs
  unfolding decoded
  ests-back = each_back put_est 32 (est_count bs) (est_at bs) (est_place 0) bs (λ i l. est-back bs (est_place i) g.bytes (g.est i l))

  constant_back : constant_into W (decoded bs) bs ≡ bs
  unfolding constant_into
  constant_back = rw (size_back, offsets-back, dists_back) ests-back

  records-back : put_records W (decoded bs) bs ≡ bs
  unfolding put_records decoded
  records-back =
      let at : node_place (est_count bs) 0 ≡ 64 + 32 * est_count bs = omega arith in
      let to : diverge_place W (est_count bs) 0 ≡ 64 + 64 * est_count bs = omega arith in
      let a : put_each put_node 32 (listed (path_count_of bs) (node_at bs)) (node_place (est_count bs) 0) bs ≡ bs =
      rw at (each_back put_node 32 (path_count_of bs) (node_at bs) (64 + 32 * est_count bs) bs (λ i l. node-back bs (node_place (est_count bs) i) g.bytes (g.node i l))) in
      let b : put_each (put_diverge W) (diverge_size W) (listed (diverge_count_of bs) (diverge_at bs)) (diverge_place W (est_count bs) 0) bs ≡ bs =
      rw to (each_back (put_diverge W) (diverge_size W) (diverge_count_of bs) (diverge_at bs) (64 + 64 * est_count bs) bs (λ i l.
      let q : 64 + 64 * est_count bs + diverge_size W * i ≡ diverge_place W (est_count bs) i = omega arith in
      rw q (diverge-back W bs (diverge_place W (est_count bs) i) g.bytes (g.diverge i l)))) in
      rw (
        listed-length (est_count bs) (est_at bs),
        listed-length (path_count_of bs) (node_at bs),
        listed-length (diverge_count_of bs) (diverge_at bs),
        a,
        zero_back (8 * (est_count bs - path_count_of bs)) (node_place (est_count bs) (path_count_of bs)) bs g.bytes g.no_node,
        b,
      )
      (zero_back (diverge_words W * (diverge_room bs - diverge_count_of bs)) (diverge_place W (est_count bs) (diverge_count_of bs)) bs g.bytes g.no-diverge)

  header-back : put_path_header (path_header_of (decoded bs)) bs ≡ bs
  unfolding put_path_header decoded
  header-back =
      rw (
        listed-length (path_count_of bs) (node_at bs),
        listed-length (diverge_count_of bs) (diverge_at bs),
        put-le 4 8 bs g.bytes,
        put-le 4 12 bs g.bytes,
        put-le 2 34 bs g.bytes,
        put-le 2 36 bs g.bytes,
        put-le 2 38 bs g.bytes,
      )
      (put-le 2 40 bs g.bytes)

  room-is : InRoom (decoded bs)
  unfolding decoded
  room-is =
      record {
        path = rw (listed-length (path_count_of bs) (node_at bs), listed-length (est_count bs) (est_at bs)) g.few-path;
        diverge = rw (listed-length (diverge_count_of bs) (diverge_at bs)) g.few-diverge;
      }

  size_fits : length bs ≡ size W (decoded bs)
  unfolding decoded
  size_fits = rw (listed-length (est_count bs) (est_at bs)) g.long

  -- an image is what encoding makes of its state
  pub encoded-decoded : encoded W (decoded bs) ≡ bs
  unfolding encoded_into put_changes
  encoded-decoded = sym (encoded-into W (decoded bs) room-is bs size_fits) ∙ rw (constant_back, records-back) header-back

-- ---- an update in place

-- what no update changes is the same
pub record Keeps (t u : Train) : Type 0 where
  pub ests : t.est_times ≡ u.est_times
  pub room : t.diverge_room ≡ u.diverge_room
  pub train : t.train_idx ≡ u.train_idx
  pub search : t.dist_disp_path_search ≡ u.dist_disp_path_search
  pub fixed-max : t.dist_fixed_max ≡ u.dist_fixed_max

constant_same : (wide : Bool) (t u : Train) (bs : List ℕ) → Keeps t u → constant_into wide t bs ≡ constant_into wide u bs
unfolding constant_into put_size put_offsets put_dists
constant_same wide t u bs k = rw (k.ests, k.room, k.train, k.search, k.fixed-max)

-- a state stored into the image that it came from is the state's whole encoding
pub stored-encoded : (bs : List ℕ) → GoodImage bs → (t : Train) → Keeps t (decoded bs) → InRoom t → stored_into t bs ≡ encoded (is_wide bs) t
unfolding encoded_into
stored-encoded bs g t k r =
    let l : length bs ≡ size (is_wide bs) t = rw (k.ests, k.room) (size_fits bs g) in
    ap (put_changes (is_wide bs) t) (sym (constant_same (is_wide bs) t (decoded bs) bs k ∙ constant_back bs g)) ∙ encoded-into (is_wide bs) t r bs l

-- ---- decoding what was encoded

-- a state that an image of a width can hold
pub record Held (wide : Bool) (t : Train) : Type 0 where
  pub room : InRoom t
  pub few-est : length t.est_times < 2 ^ 32
  pub few-room : t.diverge_room < 2 ^ 32
  pub est : (i : ℕ) → i < length t.est_times → EstHeld (get_or t.est_times i (est_from [] 0))
  pub node : (i : ℕ) → i < length t.disp_path → NodeHeld (get_or t.disp_path i (node_from [] 0))
  pub diverge : (i : ℕ) → i < length t.div_nodes → DivergeHeld wide (get_or t.div_nodes i zero_diverge)
  pub fixed : t.disp_node_idx_fixed < 2 ^ 16
  pub free : t.disp_node_idx_free < 2 ^ 16
  pub front : t.disp_node_idx_front < 2 ^ 16
  pub back : t.disp_node_idx_back < 2 ^ 16
  pub train : t.train_idx.0 < field_bound train_field
  pub search : Real t.dist_disp_path_search.0
  pub fixed-max : Real t.dist_fixed_max.0

-- ---- numbers of the header, each in its part

number_lt : (wide : Bool) → wide_number wide < 256 ^ 2
number_lt true = lit< tt
number_lt false = lit< tt

-- byte 42 is what the width and the spare byte behind it are
pub width_read : (wide : Bool) (bs : List ℕ) → le_at 2 bs 42 ≡ wide_number wide → is_wide bs ≡ wide
unfolding is_wide le_at
width_read true bs h = eq-eqb (get_or bs 42 0 + 256 * 0) 1 (omega arith)
width_read false bs h = ne_eqb (get_or bs 42 0 + 256 * 0) 1 (λ q. omega arith)

module _ (wide : Bool) (t : Train) (k : Held wide t) (cs : List ℕ) (l : 64 ≤ length cs) where
  read_est_count : le_at 4 (put_size wide t cs) 4 ≡ length t.est_times
  unfolding put_size
  read_est_count = le_put_same 4 (length t.est_times) 4 (put_le 4 (size wide t) 0 cs) (omega (arith, length-put 4 (size wide t) 0 cs)) k.few-est

  read_room : le_at 4 (put_offsets t cs) 16 ≡ t.diverge_room
  unfolding put_offsets
  read_room =
      let e = length t.est_times in
      let b1 = put_le 4 t.diverge_room 16 cs in
      let b2 = put_le 4 (est_place 0) 20 b1 in
      let b3 = put_le 4 (node_place e 0) 24 b2 in
      let b4 = put_le 4 (diverge_offset e) 28 b3 in
      le_put_other 4 2 t.train_idx.0 32 b4 16 (inl (omega arith))
      ∙ (le_put_other 4 4 (diverge_offset e) 28 b3 16 (inl (omega arith))
      ∙ (le_put_other 4 4 (node_place e 0) 24 b2 16 (inl (omega arith))
      ∙ (le_put_other 4 4 (est_place 0) 20 b1 16 (inl (omega arith))
      ∙ le_put_same 4 t.diverge_room 16 cs (omega arith) k.few-room)))

  read_train : le_at 2 (put_offsets t cs) 32 ≡ t.train_idx.0
  unfolding put_offsets
  read_train =
      let e = length t.est_times in
      let b1 = put_le 4 t.diverge_room 16 cs in
      let b2 = put_le 4 (est_place 0) 20 b1 in
      let b3 = put_le 4 (node_place e 0) 24 b2 in
      let b4 = put_le 4 (diverge_offset e) 28 b3 in
      let n : length b4 ≡ length cs = simp length-put in
      le_put_same 2 t.train_idx.0 32 b4 (omega arith) k.train

  read_search : le_at 8 (put_dists wide t cs) 48 ≡ bits_of t.dist_disp_path_search.0
  unfolding put_dists
  read_search =
      let x = t.dist_disp_path_search.0 in
      let b2 = put_le 4 0 44 (put_le 2 (wide_number wide) 42 cs) in
      let n : length b2 ≡ length cs = simp length-put in
      le_put_other 8 8 (bits_of t.dist_fixed_max.0) 56 (put_le 8 (bits_of x) 48 b2) 48 (inl (omega arith))
      ∙ le_put_same 8 (bits_of x) 48 b2 (omega arith) (bits_lt x k.search.holds k.search.number)

  read_fixed_max : le_at 8 (put_dists wide t cs) 56 ≡ bits_of t.dist_fixed_max.0
  unfolding put_dists
  read_fixed_max =
      let x = t.dist_fixed_max.0 in
      let b3 = put_le 8 (bits_of t.dist_disp_path_search.0) 48 (put_le 4 0 44 (put_le 2 (wide_number wide) 42 cs)) in
      let n : length b3 ≡ length cs = simp length-put in
      le_put_same 8 (bits_of x) 56 b3 (omega arith) (bits_lt x k.fixed-max.holds k.fixed-max.number)

  -- the width, and with it byte 42
  read_width : le_at 2 (put_dists wide t cs) 42 ≡ wide_number wide
  unfolding put_dists
  read_width =
      let b1 = put_le 2 (wide_number wide) 42 cs in
      let b2 = put_le 4 0 44 b1 in
      let x = bits_of t.dist_disp_path_search.0 in
      le_put_other 2 8 (bits_of t.dist_fixed_max.0) 56 (put_le 8 x 48 b2) 42 (inl (omega arith))
      ∙ (le_put_other 2 8 x 48 b2 42 (inl (omega arith))
      ∙ (le_put_other 2 4 0 44 b1 42 (inl (omega arith)) ∙ le_put_same 2 (wide_number wide) 42 cs (omega arith) (number_lt wide)))

module _ (h : PathHeader) (cs : List ℕ) (l : 64 ≤ length cs) where
  read_path_count : h.path_count < 2 ^ 32 → le_at 4 (put_counts h cs) 8 ≡ h.path_count
  read_path_count k =
      le_put_other 4 4 h.diverge_count 12 (put_le 4 h.path_count 8 cs) 8 (inl (omega arith)) ∙ le_put_same 4 h.path_count 8 cs (omega arith) k

  read_diverge_count : h.diverge_count < 2 ^ 32 → le_at 4 (put_counts h cs) 12 ≡ h.diverge_count
  read_diverge_count k = le_put_same 4 h.diverge_count 12 (put_le 4 h.path_count 8 cs) (omega (arith, length-put 4 h.path_count 8 cs)) k

  read_fixed : h.fixed < 2 ^ 16 → le_at 2 (put_indices h cs) 34 ≡ h.fixed
  read_fixed k =
      let b1 = put_le 2 h.fixed 34 cs in
      let b2 = put_le 2 h.free 36 b1 in
      le_put_other 2 2 h.back 40 (put_le 2 h.front 38 b2) 34 (inl (omega arith))
      ∙ (le_put_other 2 2 h.front 38 b2 34 (inl (omega arith))
      ∙ (le_put_other 2 2 h.free 36 b1 34 (inl (omega arith))
      ∙ le_put_same 2 h.fixed 34 cs (omega arith) k))

  read_free : h.free < 2 ^ 16 → le_at 2 (put_indices h cs) 36 ≡ h.free
  read_free k =
      let b1 = put_le 2 h.fixed 34 cs in
      let b2 = put_le 2 h.free 36 b1 in
      let n : length b1 ≡ length cs = simp length-put in
      le_put_other 2 2 h.back 40 (put_le 2 h.front 38 b2) 36 (inl (omega arith))
      ∙ (le_put_other 2 2 h.front 38 b2 36 (inl (omega arith))
      ∙ le_put_same 2 h.free 36 b1 (omega arith) k)

  read_front : h.front < 2 ^ 16 → le_at 2 (put_indices h cs) 38 ≡ h.front
  read_front k =
      let b2 = put_le 2 h.free 36 (put_le 2 h.fixed 34 cs) in
      let n : length b2 ≡ length cs = simp length-put in
      le_put_other 2 2 h.back 40 (put_le 2 h.front 38 b2) 38 (inl (omega arith)) ∙ le_put_same 2 h.front 38 b2 (omega arith) k

  read_back : h.back < 2 ^ 16 → le_at 2 (put_indices h cs) 40 ≡ h.back
  read_back k =
      let b3 = put_le 2 h.front 38 (put_le 2 h.free 36 (put_le 2 h.fixed 34 cs)) in
      let n : length b3 ≡ length cs = simp length-put in
      le_put_same 2 h.back 40 b3 (omega arith) k

-- ---- the whole, part by part

module _ (wide : Bool) (t : Train) (k : Held wide t) (bs : List ℕ) (lb : length bs ≡ size wide t) where
  -- a number outside of the part that was written last
  number_past_indices : (v j : ℕ) → (j + v ≤ 34) ⊎ (42 ≤ j) → le_at v (after_indices wide t bs) j ≡ le_at v (after_counts wide t bs) j
  number_past_indices v j o = le_outside (indices_writes (path_header_of t)) v j (after_counts wide t bs) o

  -- outside of the counts and the records too: the constant part
  constant_number : (v j : ℕ) → (j + v ≤ 8) ⊎ (16 ≤ j) → (j + v ≤ 34) ⊎ (42 ≤ j) → j + v ≤ 64 → le_at v (after_indices wide t bs) j ≡ le_at v (after_dists wide t bs) j
  constant_number v j a b c =
      number_past_indices v j b
      ∙ (le_outside (counts_writes (path_header_of t)) v j (after_records wide t bs) a
      ∙ (le_outside (records_writes wide t k.room) v j (after_ests wide t bs) (inl (omega arith))
      ∙ le_outside (ests_writes t) v j (after_dists wide t bs) (inl c)))

  pub wide_is : le_at 2 (after_indices wide t bs) 42 ≡ wide_number wide
  wide_is = constant_number 2 42 (inr (omega arith)) (inr (omega arith)) (omega arith) ∙ read_width wide t k (after_offsets wide t bs) (omega (arith, long-offsets wide t k.room bs))

  pub e_is : le_at 4 (after_indices wide t bs) 4 ≡ length t.est_times
  e_is =
      constant_number 4 4 (inl (omega arith)) (inl (omega arith)) (omega arith)
      ∙ (le_outside (dists_writes wide t) 4 4 (after_offsets wide t bs) (inl (omega arith))
      ∙ (le_outside (offsets_writes t) 4 4 (after_size wide t bs) (inl (omega arith))
      ∙ read_est_count wide t k bs (omega arith)))

  pub room_read : le_at 4 (after_indices wide t bs) 16 ≡ t.diverge_room
  room_read =
      constant_number 4 16 (inr (omega arith)) (inl (omega arith)) (omega arith)
      ∙ (le_outside (dists_writes wide t) 4 16 (after_offsets wide t bs) (inl (omega arith))
      ∙ read_room wide t k (after_size wide t bs) (omega (arith, long-size wide t k.room bs)))

  pub train_read : le_at 2 (after_indices wide t bs) 32 ≡ t.train_idx.0
  train_read =
      constant_number 2 32 (inr (omega arith)) (inl (omega arith)) (omega arith)
      ∙ (le_outside (dists_writes wide t) 2 32 (after_offsets wide t bs) (inl (omega arith))
      ∙ read_train wide t k (after_size wide t bs) (omega (arith, long-size wide t k.room bs)))

  search_read : le_at 8 (after_indices wide t bs) 48 ≡ bits_of t.dist_disp_path_search.0
  search_read = constant_number 8 48 (inr (omega arith)) (inr (omega arith)) (omega arith) ∙ read_search wide t k (after_offsets wide t bs) (omega (arith, long-offsets wide t k.room bs))

  fixed-max_read : le_at 8 (after_indices wide t bs) 56 ≡ bits_of t.dist_fixed_max.0
  fixed-max_read = constant_number 8 56 (inr (omega arith)) (inr (omega arith)) (omega arith) ∙ read_fixed_max wide t k (after_offsets wide t bs) (omega (arith, long-offsets wide t k.room bs))

  n-is : le_at 4 (after_indices wide t bs) 8 ≡ length t.disp_path
  n-is =
      let a = k.room.path in
      let b = k.few-est in
      number_past_indices 4 8 (inl (omega arith)) ∙ read_path_count (path_header_of t) (after_records wide t bs) (omega (arith, long-records wide t k.room bs)) (omega arith)

  m_is : le_at 4 (after_indices wide t bs) 12 ≡ length t.div_nodes
  m_is =
      let a = k.room.diverge in
      let b = k.few-room in
      number_past_indices 4 12 (inl (omega arith)) ∙ read_diverge_count (path_header_of t) (after_records wide t bs) (omega (arith, long-records wide t k.room bs)) (omega arith)

  ests_read : listed (le_at 4 (after_indices wide t bs) 4) (est_at (after_indices wide t bs)) ≡ t.est_times
  ests_read =
      rw e_is
      (listed_same (length t.est_times) (λ i. est_from (after_ests wide t bs) (64 + 32 * i)) (est_at (after_indices wide t bs)) one
      ∙ each-list put_est est_from 32 EstHeld est_writes est_cong est_read (est_from [] 0) t.est_times 64 (after_dists wide t bs) k.est (omega (arith, long_dists wide t k.room bs)))
    where
      out : {a b : ℕ} {f : List ℕ → List ℕ} → Writes a b f → (cs : List ℕ) (at : ℕ) → (at + 32 ≤ a) ⊎ (b ≤ at) → est_from (f cs) at ≡ est_from cs at
      out = from_outside put_est est_from 32 EstHeld est_writes est_cong est_read (est_from [] 0)

      one : (i : ℕ) → i < length t.est_times → est_from (after_indices wide t bs) (64 + 32 * i) ≡ est_from (after_ests wide t bs) (64 + 32 * i)
      one i l =
          out (indices_writes (path_header_of t)) (after_counts wide t bs) (64 + 32 * i) (inr (omega arith))
          ∙ (out (counts_writes (path_header_of t)) (after_records wide t bs) (64 + 32 * i) (inr (omega arith))
          ∙ out (records_writes wide t k.room) (after_ests wide t bs) (64 + 32 * i) (inl (omega arith)))

  path_read : listed (le_at 4 (after_indices wide t bs) 8) (node_at (after_indices wide t bs)) ≡ t.disp_path
  unfolding put_records
  path_read =
      rw n-is
      (listed_same n (λ i. node_from (put_path t (after_ests wide t bs)) (node_place e 0 + 32 * i)) (node_at (after_indices wide t bs)) one
      ∙ each-list put_node node_from 32 NodeHeld node_writes node_cong node_read (node_from [] 0) t.disp_path (node_place e 0) (after_ests wide t bs) k.node room)
    where
      e : ℕ
      e = length t.est_times

      n : ℕ
      n = length t.disp_path

      room : node_place e 0 + 32 * n ≤ length (after_ests wide t bs)
      room = let a = k.room.path in omega (arith, long-ests wide t k.room bs)

      out : {a b : ℕ} {f : List ℕ → List ℕ} → Writes a b f → (cs : List ℕ) (at : ℕ) → (at + 32 ≤ a) ⊎ (b ≤ at) → node_from (f cs) at ≡ node_from cs at
      out = from_outside put_node node_from 32 NodeHeld node_writes node_cong node_read (node_from [] 0)

      records : (at : ℕ) → at + 32 ≤ node_place e n → node_from (after_records wide t bs) at ≡ node_from (put_path t (after_ests wide t bs)) at
      records at l =
          let a = k.room.path in
          out (no_diverges_writes wide t k.room) (put_diverges wide t (clear_path t (put_path t (after_ests wide t bs)))) at (inl (omega arith))
          ∙ (out (diverges_writes wide t k.room) (clear_path t (put_path t (after_ests wide t bs))) at (inl (omega arith))
          ∙ out (no-path_writes t k.room) (put_path t (after_ests wide t bs)) at (inl (omega arith)))

      one : (i : ℕ) → i < n → node_at (after_indices wide t bs) i ≡ node_from (put_path t (after_ests wide t bs)) (node_place e 0 + 32 * i)
      one i l =
          let q : node_place e i ≡ node_place e 0 + 32 * i = omega arith in
          ap (λ (x : ℕ). node_from (after_indices wide t bs) (node_place x i)) e_is
          ∙ (out (indices_writes (path_header_of t)) (after_counts wide t bs) (node_place e i) (inr (omega arith))
          ∙ (out (counts_writes (path_header_of t)) (after_records wide t bs) (node_place e i) (inr (omega arith))
          ∙ (records (node_place e i) (omega arith) ∙ ap (node_from (put_path t (after_ests wide t bs))) q)))

  diverges_read : listed (le_at 4 (after_indices wide t bs) 12) (diverge_at (after_indices wide t bs)) ≡ t.div_nodes
  unfolding put_records
  diverges_read =
      rw m_is
      (listed_same m (λ i. diverge_from wide (put_diverges wide t before) (diverge_place wide e 0 + diverge_size wide * i)) (diverge_at (after_indices wide t bs)) one
      ∙ each-list (put_diverge wide) (diverge_from wide) (diverge_size wide) (DivergeHeld wide) (diverge_writes wide) (diverge_cong wide) (diverge_read wide) zero_diverge t.div_nodes (diverge_place wide e 0) before k.diverge room)
    where
      e : ℕ
      e = length t.est_times

      m : ℕ
      m = length t.div_nodes

      before : List ℕ
      before = clear_path t (put_path t (after_ests wide t bs))

      long : length before ≡ length bs
      long = (no-path_writes t k.room).long (put_path t (after_ests wide t bs)) ∙ ((path_writes t k.room).long (after_ests wide t bs) ∙ long-ests wide t k.room bs)

      room : diverge_place wide e 0 + diverge_size wide * m ≤ length before
      room = let a = words_rise wide m t.diverge_room k.room.diverge in omega (arith, long)

      out : {a b : ℕ} {f : List ℕ → List ℕ} → Writes a b f → (cs : List ℕ) (at : ℕ) → (at + diverge_size wide ≤ a) ⊎ (b ≤ at) → diverge_from wide (f cs) at ≡ diverge_from wide cs at
      out = from_outside (put_diverge wide) (diverge_from wide) (diverge_size wide) (DivergeHeld wide) (diverge_writes wide) (diverge_cong wide) (diverge_read wide) zero_diverge

      records : (at : ℕ) → at + diverge_size wide ≤ diverge_place wide e m → diverge_from wide (after_records wide t bs) at ≡ diverge_from wide (put_diverges wide t before) at
      records at l = out (no_diverges_writes wide t k.room) (put_diverges wide t before) at (inl (omega arith))

      one : (i : ℕ) → i < m → diverge_at (after_indices wide t bs) i ≡ diverge_from wide (put_diverges wide t before) (diverge_place wide e 0 + diverge_size wide * i)
      one i l =
          let q : diverge_place wide e i ≡ diverge_place wide e 0 + diverge_size wide * i = omega arith in
          let n = words-next wide i m l in
          ap₂ (λ (w : Bool) (x : ℕ). diverge_from w (after_indices wide t bs) (diverge_place w x i)) (width_read wide (after_indices wide t bs) wide_is) e_is
          ∙ (out (indices_writes (path_header_of t)) (after_counts wide t bs) (diverge_place wide e i) (inr (omega arith))
          ∙ (out (counts_writes (path_header_of t)) (after_records wide t bs) (diverge_place wide e i) (inr (omega arith))
          ∙ (records (diverge_place wide e i) (omega arith) ∙ ap (diverge_from wide (put_diverges wide t before)) q)))

  decoded_whole : decoded (after_indices wide t bs) ≡ t
  unfolding decoded
  decoded_whole =
      let l : 64 ≤ length (after_counts wide t bs) = omega (arith, long-counts wide t k.room bs) in
      rw (
        ests_read,
        path_read,
        diverges_read,
        room_read,
        read_fixed (path_header_of t) (after_counts wide t bs) l k.fixed,
        read_free (path_header_of t) (after_counts wide t bs) l k.free,
        read_front (path_header_of t) (after_counts wide t bs) l k.front,
        read_back (path_header_of t) (after_counts wide t bs) l k.back,
        train_read,
        search_read,
        fixed-max_read,
        real_bits t.dist_disp_path_search.0 k.search.holds k.search.number,
        real_bits t.dist_fixed_max.0 k.fixed-max.holds k.fixed-max.number,
      )

-- the state comes back from its encoding
pub decoded-encoded : (wide : Bool) (t : Train) → Held wide t → decoded (encoded wide t) ≡ t
unfolding encoded
decoded-encoded wide t k =
    ap decoded (parts wide t (replicate (size wide t) 0)) ∙ decoded_whole wide t k (replicate (size wide t) 0) (length-replicate (size wide t) 0)

-- and the encoding has the width
pub encoded-wide : (wide : Bool) (t : Train) → Held wide t → is_wide (encoded wide t) ≡ wide
unfolding encoded
encoded-wide wide t k =
    ap is_wide (parts wide t (replicate (size wide t) 0))
    ∙ width_read wide (after_indices wide t (replicate (size wide t) 0)) (wide_is wide t k (replicate (size wide t) 0) (length-replicate (size wide t) 0))

-- ---- what was decoded can be encoded

module _ (bs : List ℕ) (b : Bytes bs) where
  real : (x : ℕ) → Real (real_of x)
  real x = record { holds = real_fits x; number = real_number x }

  est-held : (at : ℕ) → EstHeld (est_from bs at)
  unfolding est_from
  est-held at =
      record {
        dist = real (le_at 8 bs at);
        next = le_lt 4 bs (at + 8) b;
        alt = le_lt 4 bs (at + 12) b;
        prev = le_lt 4 bs (at + 16) b;
        prev-alt = le_lt 4 bs (at + 20) b;
        link = le_lt 4 bs (at + 24) b;
      }

  node-held : (at : ℕ) → NodeHeld (node_from bs at)
  unfolding node_from
  node-held at =
      record {
        offset = real (le_at 8 bs at);
        time = real (le_at 8 bs (at + 8));
        link = le_lt 4 bs (at + 16) b;
        est = le_lt 4 bs (at + 20) b;
        auth = le_lt 2 bs (at + 24) b;
      }

  diverge-held : (wide : Bool) (at : ℕ) → DivergeHeld wide (diverge_from wide bs at)
  unfolding diverge_from
  diverge-held wide at = record { train = le_lt (2 * diverge_words wide) bs at b; node = le_lt 2 bs (at + 2 * diverge_words wide) b }

  pub decoded-held : path_count_of bs ≤ est_count bs → diverge_count_of bs ≤ diverge_room bs → Held (is_wide bs) (decoded bs)
  unfolding decoded
  decoded-held np nd =
      let ne = listed-length (est_count bs) (est_at bs) in
      let nn = listed-length (path_count_of bs) (node_at bs) in
      let nm = listed-length (diverge_count_of bs) (diverge_at bs) in
      record {
        room = record { path = rw (nn, ne) np; diverge = rw nm nd };
        few-est = rw ne (le_lt 4 bs 4 b);
        few-room = le_lt 4 bs 16 b;
        est = λ i l. rw (listed_at (est_count bs) (est_at bs) i (est_from [] 0) (omega (arith, ne))) (est-held (est_place i));
        node = λ i l. rw (listed_at (path_count_of bs) (node_at bs) i (node_from [] 0) (omega (arith, nn))) (node-held (node_place (est_count bs) i));
        diverge = λ i l. rw (listed_at (diverge_count_of bs) (diverge_at bs) i zero_diverge (omega (arith, nm))) (diverge-held (is_wide bs) (diverge_place (is_wide bs) (est_count bs) i));
        fixed = le_lt 2 bs 34 b;
        free = le_lt 2 bs 36 b;
        front = le_lt 2 bs 38 b;
        back = le_lt 2 bs 40 b;
        train = le_lt 2 bs 32 b;
        search = real (le_at 8 bs 48);
        fixed-max = real (le_at 8 bs 56);
      }
