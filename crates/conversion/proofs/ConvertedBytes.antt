-- An image whose size, width and diverge records are written anew is the encoding of its train in that width. Assumes nothing.
use mathlib.Core.Path.{◌≡◌, sym, ap, ap₂, ◌∙◌}
use mathlib.Core.Logic.{◌⊎◌, inl, inr, ⊎_elim}
use mathlib.Core.Bool.{Bool, true, false}
use mathlib.Core.List.{List, []}
use Prim.Native.Nat.{ℕ, ◌+◌, ◌*◌, ◌-◌, ◌^◌, ◌≤◌, ◌<◌}
use native.Mathlib.Omega.{arith}
use lib.Dec.{lit<}
use lib.ListN.{length, get_or, replicate, length-replicate, get_or-replicate, get_or-eq_default}
use Rattle.link_rules.specs.Octets.{le_at, put_le}
use Rattle.link_rules.proofs.OctetLaws.{Bytes, le_lt, le_cong, le_past, le_put_same, le_put_other, length-put, get_d_put, put-le}
use Rattle.disp_structs.specs.Listed.{listed}
use Rattle.disp_structs.proofs.FloatLaws.{bits_real}
use Rattle.disp_structs.proofs.ListedLaws.{listed-length}
use Rattle.image.specs.Fields.{diverge_words, diverge_size}
use Rattle.image.specs.Image.{est_count, path_count_of, diverge_count_of, diverge_room, is_wide, est_place, node_place, diverge_offset, diverge_place, image_size, est_at, node_at, diverge_at, put_est, put_node, put_diverge, zero_words, put_path_header}
use Rattle.image.specs.Codec.{decoded, put_each, path_header_of, put_records, put_changes, put_size, put_offsets, wide_number, put_dists, constant_into, encoded_into, encoded}
use Rattle.image.proofs.WidthLaws.{words_twice}
use Rattle.image.proofs.Writers.{Writes, side, each_writes, le_outside}
use Rattle.image.proofs.RecordLaws.{est_cong, est-back, node_cong, node-back, diverge_writes}
use Rattle.image.proofs.EachLaws.{each_back, zero_back}
use Rattle.image.proofs.Parts.{InRoom, encoded-into}
use Rattle.image.proofs.CodecLaws.{GoodImage, width_read}
use Rattle.image_fault.specs.CodeFacts.{CountsFit}
use Rattle.image_store.specs.Stored.{diverges_into}

-- o: the image with the size and the width written anew, and zeros behind the path; r: with the diverge nodes
module _ (wide : Bool) (img o r : List ℕ) (g : GoodImage img) (bo : Bytes o) (br : Bytes r)
    (long : length o ≡ image_size wide (est_count img) (diverge_room img))
    (same : (i : ℕ) → 4 ≤ i → (i < 42) ⊎ (44 ≤ i) → i < diverge_offset (est_count img) → get_or o i 0 ≡ get_or img i 0)
    (size_is : le_at 4 o 0 ≡ image_size wide (est_count img) (diverge_room img)) (width : le_at 2 o 42 ≡ wide_number wide)
    (zero : (i : ℕ) → diverge_offset (est_count img) ≤ i → get_or o i 0 ≡ 0)
    (r-is : r ≡ put_each (put_diverge wide) (diverge_size wide) (listed (diverge_count_of img) (diverge_at img)) (diverge_place wide (est_count img) 0) o) where
  abbrev E : ℕ
  E = est_count img

  -- a number of the header but the size and the width, or of a record before the diverge records
  low : (v j : ℕ) → 4 ≤ j → j + v ≤ 42 → le_at v o j ≡ le_at v img j
  low v j a b = le_cong v o img j (λ i l m. same i (omega arith) (inl (omega arith)) (omega arith))

  high : (v j : ℕ) → 44 ≤ j → j + v ≤ diverge_offset E → le_at v o j ≡ le_at v img j
  high v j a b = le_cong v o img j (λ i l m. same i (omega arith) (inr (omega arith)) (omega arith))

  stands : (w x at : ℕ) → le_at w o at ≡ x → put_le w x at o ≡ o
  stands w x at q = ap (λ (y : ℕ). put_le w y at o) (sym q) ∙ put-le w at o bo

  size_back : put_size wide (decoded img) o ≡ o
  unfolding put_size decoded
  size_back = rw (listed-length E (est_at img), stands 4 (image_size wide E (diverge_room img)) 0 size_is) (stands 4 E 4 (low 4 4 (omega arith) (omega arith)))

  offsets-back : put_offsets (decoded img) o ≡ o
  unfolding put_offsets decoded
  offsets-back =
      rw (
        listed-length E (est_at img),
        stands 4 (diverge_room img) 16 (low 4 16 (omega arith) (omega arith)),
        stands 4 (est_place 0) 20 (low 4 20 (omega arith) (omega arith) ∙ g.est-offset),
        stands 4 (node_place E 0) 24 (low 4 24 (omega arith) (omega arith) ∙ g.path-offset),
        stands 4 (diverge_offset E) 28 (low 4 28 (omega arith) (omega arith) ∙ g.diverge-offset),
      )
      (stands 2 (le_at 2 img 32) 32 (low 2 32 (omega arith) (omega arith)))

  dists_back : put_dists wide (decoded img) o ≡ o
  unfolding put_dists decoded
  dists_back =
      rw (
        stands 2 (wide_number wide) 42 width,
        stands 4 0 44 (high 4 44 (omega arith) (omega arith) ∙ g.spare_rest),
        bits_real (le_at 8 img 48) (le_lt 8 img 48 g.bytes) g.search,
        stands 8 (le_at 8 img 48) 48 (high 8 48 (omega arith) (omega arith)),
        bits_real (le_at 8 img 56) (le_lt 8 img 56 g.bytes) g.fixed-max,
      )
      (stands 8 (le_at 8 img 56) 56 (high 8 56 (omega arith) (omega arith)))

  est-one : (i : ℕ) → i < E → put_est (est_at img i) (est_place i) o ≡ o
  est-one i l =
      let w = g.est i l in
      let q = high 8 (est_place i) (omega arith) (omega arith) in
      let k = high 4 (est_place i + 28) (omega arith) (omega arith) in
      ap (λ x. put_est x (est_place i) o) (est_cong img o (est_place i) (λ j a b. sym (same j (omega arith) (inr (omega arith)) (omega arith))))
      ∙ est-back o (est_place i) bo (record { dist = rw q w.dist; kind = omega (arith, k, w.kind) })

  constant_back : constant_into wide (decoded img) o ≡ o
  unfolding constant_into decoded
  constant_back = rw (size_back, offsets-back, dists_back) (each_back put_est 32 E (est_at img) (est_place 0) o est-one)

  node-one : (i : ℕ) → i < path_count_of img → put_node (node_at img i) (node_place E i) o ≡ o
  node-one i l =
      let w = g.node i l in
      let n = g.few-path in
      let p = node_place E i in
      let q = high 8 p (omega arith) (omega arith) in
      let t = high 8 (p + 8) (omega arith) (omega arith) in
      let k = high 2 (p + 26) (omega arith) (omega arith) in
      let s = high 4 (p + 28) (omega arith) (omega arith) in
      ap (λ x. put_node x p o) (node_cong img o p (λ j a b. sym (same j (omega arith) (inr (omega arith)) (omega arith))))
      ∙ node-back o p bo (record { offset = rw q w.offset; time = rw t w.time; kind = omega (arith, k, w.kind); spare = s ∙ w.spare })

  path-back : put_each put_node 32 (listed (path_count_of img) (node_at img)) (node_place E 0) o ≡ o
  path-back =
      let z : node_place E 0 ≡ 64 + 32 * E = omega arith in
      rw z (each_back put_node 32 (path_count_of img) (node_at img) (64 + 32 * E) o node-one)

  no-path : zero_words (8 * (E - path_count_of img)) (node_place E (path_count_of img)) o ≡ o
  no-path =
      let n = g.few-path in
      zero_back (8 * (E - path_count_of img)) (node_place E (path_count_of img)) o bo (λ j l. high 4 (node_place E (path_count_of img) + 4 * j) (omega arith) (omega arith) ∙ g.no_node j l)

  diverges_write : Writes (diverge_place wide E 0) (diverge_place wide E 0 + diverge_size wide * length (listed (diverge_count_of img) (diverge_at img))) (put_each (put_diverge wide) (diverge_size wide) (listed (diverge_count_of img) (diverge_at img)) (diverge_place wide E 0))
  diverges_write = each_writes (put_diverge wide) (diverge_size wide) (diverge_writes wide) (listed (diverge_count_of img) (diverge_at img)) (diverge_place wide E 0)

  le-zero : (v j : ℕ) → diverge_offset E ≤ j → le_at v o j ≡ 0
  le-zero v j l = le_cong v o [] j (λ i a b. zero i (omega arith)) ∙ le_past v [] j (omega arith)

  no-diverge : zero_words (diverge_words wide * (diverge_room img - diverge_count_of img)) (diverge_place wide E (diverge_count_of img)) r ≡ r
  no-diverge =
      let m = listed-length (diverge_count_of img) (diverge_at img) in
      let d = ap (λ (n : ℕ). diverge_words wide * n) m in
      zero_back (diverge_words wide * (diverge_room img - diverge_count_of img)) (diverge_place wide E (diverge_count_of img)) r br
      (λ j l.
      let k = diverge_place wide E (diverge_count_of img) + 4 * j in
      ap (λ (x : List ℕ). le_at 4 x k) r-is ∙ (le_outside diverges_write 4 k o (inr (omega (arith, d))) ∙ le-zero 4 k (omega arith)))

  head : (v j : ℕ) → 4 ≤ j → j + v ≤ 42 → le_at v r j ≡ le_at v img j
  head v j a b = ap (λ (x : List ℕ). le_at v x j) r-is ∙ (le_outside diverges_write v j o (inl (omega arith)) ∙ low v j a b)

  keeps : (w x at : ℕ) → le_at w r at ≡ x → put_le w x at r ≡ r
  keeps w x at q = ap (λ (y : ℕ). put_le w y at r) (sym q) ∙ put-le w at r br

  header-back : put_path_header (path_header_of (decoded img)) r ≡ r
  unfolding put_path_header decoded
  header-back =
      rw (
        listed-length (path_count_of img) (node_at img),
        listed-length (diverge_count_of img) (diverge_at img),
        keeps 4 (path_count_of img) 8 (head 4 8 (omega arith) (omega arith)),
        keeps 4 (diverge_count_of img) 12 (head 4 12 (omega arith) (omega arith)),
        keeps 2 (le_at 2 img 34) 34 (head 2 34 (omega arith) (omega arith)),
        keeps 2 (le_at 2 img 36) 36 (head 2 36 (omega arith) (omega arith)),
        keeps 2 (le_at 2 img 38) 38 (head 2 38 (omega arith) (omega arith)),
      )
      (keeps 2 (le_at 2 img 40) 40 (head 2 40 (omega arith) (omega arith)))

  records_are : put_records wide (decoded img) o ≡ r
  unfolding put_records decoded
  records_are =
      rw (
        listed-length E (est_at img),
        listed-length (path_count_of img) (node_at img),
        listed-length (diverge_count_of img) (diverge_at img),
        path-back,
        no-path,
        ← r-is,
      )
      no-diverge

  room : InRoom (decoded img)
  unfolding decoded
  room =
      record {
        path = rw (listed-length (path_count_of img) (node_at img), listed-length E (est_at img)) g.few-path;
        diverge = rw (listed-length (diverge_count_of img) (diverge_at img)) g.few-diverge;
      }

  fits : length o ≡ image_size wide (length (decoded img).est_times) (decoded img).diverge_room
  unfolding decoded
  fits = rw (listed-length E (est_at img)) long

  pub converted : r ≡ encoded wide (decoded img)
  unfolding encoded_into put_changes
  converted = sym (ap (put_path_header (path_header_of (decoded img))) (ap (put_records wide (decoded img)) constant_back ∙ records_are) ∙ header-back) ∙ encoded-into wide (decoded img) room o fits

-- ---- as the code writes it

number_lt : (wide : Bool) → wide_number wide < 256 ^ 2
number_lt true = lit< tt
number_lt false = lit< tt

zero_all : (n i : ℕ) → ◌≡◌ {A = ℕ} (get_or (replicate n 0) i 0) 0
zero_all n i =
    ⊎_elim (λ (l : i < n). get_or-replicate n i 0 0 l) (λ (l : n ≤ i). get_or-eq_default (replicate n 0) 0 (rw length-replicate l)) (side i n)

-- o1: zeros; o2: the image's bytes before the diverge records; o4: the size and the width; r: the diverge nodes
module _ (wide : Bool) (img o1 o2 o4 r : List ℕ) (g : GoodImage img) (c : CountsFit img) (b4 : Bytes o4) (br : Bytes r)
    (zeros : o1 ≡ replicate (image_size wide (est_count img) (diverge_room img)) 0)
    (long2 : length o2 ≡ length o1)
    (front : (i : ℕ) → i < diverge_place wide (est_count img) 0 → get_or o2 i 0 ≡ get_or img i 0)
    (behind : (i : ℕ) → diverge_place wide (est_count img) 0 ≤ i → get_or o2 i 0 ≡ get_or o1 i 0)
    (headed : o4 ≡ put_le 2 (wide_number wide) 42 (put_le 4 (image_size wide (est_count img) (diverge_room img)) 0 o2))
    (put : r ≡ diverges_into (is_wide o4) (listed (diverge_count_of img) (diverge_at img)) o4) where
  abbrev size : ℕ
  size = image_size wide (est_count img) (diverge_room img)

  long-two : length o2 ≡ size
  long-two = long2 ∙ (ap length zeros ∙ length-replicate size 0)

  long_four : length o4 ≡ size
  long_four = ap length headed ∙ (length-put 2 (wide_number wide) 42 (put_le 4 size 0 o2) ∙ (length-put 4 size 0 o2 ∙ long-two))

  byte : (i : ℕ) → 4 ≤ i → (i < 42) ⊎ (44 ≤ i) → get_or o4 i 0 ≡ get_or o2 i 0
  byte i l h = ap (λ (x : List ℕ). get_or x i 0) headed ∙ (get_d_put 2 (wide_number wide) 42 (put_le 4 size 0 o2) i h ∙ get_d_put 4 size 0 o2 i (inr (omega arith)))

  size_read : le_at 4 o4 0 ≡ size
  size_read =
      let n = words_twice wide (diverge_room img) in
      let e = c.few-est in
      let q = c.few-room in
      ap (λ (x : List ℕ). le_at 4 x 0) headed
      ∙ (le_put_other 4 2 (wide_number wide) 42 (put_le 4 size 0 o2) 0 (inl (omega arith)) ∙ le_put_same 4 size 0 o2 (omega (arith, long-two)) (omega arith))

  width_is : le_at 2 o4 42 ≡ wide_number wide
  width_is =
      ap (λ (x : List ℕ). le_at 2 x 42) headed
      ∙ le_put_same 2 (wide_number wide) 42 (put_le 4 size 0 o2) (omega (arith, length-put 4 size 0 o2, long-two)) (number_lt wide)

  same_byte : (i : ℕ) → 4 ≤ i → (i < 42) ⊎ (44 ≤ i) → i < diverge_offset (est_count img) → get_or o4 i 0 ≡ get_or img i 0
  same_byte i l h m = byte i l h ∙ front i (omega arith)

  zero_byte : (i : ℕ) → diverge_offset (est_count img) ≤ i → get_or o4 i 0 ≡ 0
  zero_byte i l = byte i (omega arith) (inr (omega arith)) ∙ (behind i (omega arith) ∙ (ap (λ (x : List ℕ). get_or x i 0) zeros ∙ zero_all size i))

  est-count : est_count o4 ≡ est_count img
  est-count = le_cong 4 o4 img 4 (λ i l m. same_byte i (omega arith) (inl (omega arith)) (omega arith))

  pub written : r ≡ encoded wide (decoded img)
  written =
      converted wide img o4 r g b4 br long_four same_byte size_read width_is zero_byte
      (put ∙ ap₂ (λ (w : Bool) (e : ℕ). put_each (put_diverge w) (diverge_size w) (listed (diverge_count_of img) (diverge_at img)) (diverge_place w e 0) o4) (width_read wide o4 width_is) est-count)
