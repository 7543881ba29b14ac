-- What lay out writes is the new train: the image reads as it, and is its encoding. Assumes nothing.
use mathlib.Core.Path.{◌≡◌, sym, ap, ap₂, ◌∙◌}
use mathlib.Core.Logic.{◌⊎◌, inl, inr}
use mathlib.Core.Bool.{Bool, true, false}
use mathlib.Core.List.{List, [], ◌∷◌}
use Prim.Native.Nat.{ℕ, ◌+◌, ◌*◌, ◌^◌, ◌≤◌, ◌<◌}
use native.Mathlib.Omega.{arith}
use native.Mathlib.Nat.{lt_of_le_of_lt}
use lib.Dec.{lit<}
use lib.Ieee.{Float}
use lib.ListN.{length, get_or, replicate, length-replicate}
use Rattle.link_rules.specs.Octets.{le_at, put_le}
use Rattle.link_rules.proofs.OctetLaws.{Bytes, length-put, get_d_put, le_put_same, le_put_other, le_cong}
use Rattle.link_rules.specs.Refusals.{Done}
use Rattle.disp_structs.specs.Floats.{real_of}
use Rattle.disp_structs.specs.Listed.{listed}
use Rattle.disp_structs.specs.Train.{Train}
use Rattle.disp_structs.specs.declared.DispNode.{DispNode}
use Rattle.disp_structs.specs.declared.DivergeNode.{DivergeNode}
use Rattle.disp_structs.proofs.FloatLaws.{equal, bits_lt, real_bits}
use Rattle.disp_structs.proofs.ListedLaws.{listed_same}
use Rattle.image.specs.Fields.{diverge_words}
use Rattle.image.specs.Image.{est_count, path_count_of, diverge_count_of, is_wide, est_place, node_place, diverge_place, est_from, node_from, diverge_from, est_at, node_at, diverge_at, put_node}
use Rattle.image.specs.Codec.{decoded, encoded}
use Rattle.image.proofs.Writers.{Writes, put_writes, each_writes}
use Rattle.image.proofs.EachLaws.{from_outside, each-list}
use Rattle.image.proofs.RecordLaws.{Real, NodeHeld, node_writes, node_cong, node_read}
use Rattle.image_fault.specs.declared.Widths.TheVariants.{Narrow}
use Rattle.image_fault.proofs.AcceptLaws.{encoded-accepted}
use Rattle.train_disp.specs.TrainDisp.{est_length, new_path, put_nodes, setting_bits, with_header, with_ends, laid_image, all_within, diverge_node, new_train, laid_out}
use Rattle.train_disp.specs.declared.Settings.{Settings}
use Rattle.layout_laws.proofs.LaidBase.{zero_all, head_train, based, based_long, based_head, based_est, based_zero, narrow_place}
use Rattle.train_disp.proofs.LayOutLaws.{SizesFit, sizes-fit}
use Rattle.layout_laws.proofs.LaidBytes.{few, laid-est-count, laid-path-count, laid-narrow}
use Rattle.layout_laws.proofs.LaidMatch.{le_shift, le-zero, held, numbers-within}
use Rattle.layout_laws.proofs.LaidOut.{passed, laid-image, laid-accepted}

-- an est record elsewhere, in the same bytes
est_shift : (bs cs : List ℕ) (j k : ℕ) → ((i : ℕ) → i < 32 → get_or bs (j + i) 0 ≡ get_or cs (k + i) 0) → est_from bs j ≡ est_from cs k
unfolding est_from
est_shift bs cs j k h =
    rw (
      le_shift 8 bs cs j k (λ i l. h i (omega arith)),
      number 4 8 (omega arith),
      number 4 12 (omega arith),
      number 4 16 (omega arith),
      number 4 20 (omega arith),
      number 4 24 (omega arith),
      number 1 28 (omega arith),
    )
  where
    number : (v d : ℕ) → d + v ≤ 32 → le_at v bs (j + d) ≡ le_at v cs (k + d)
    number v d l =
        le_shift v bs cs (j + d) (k + d)
        (λ i m. let a : j + d + i ≡ j + (d + i) = omega arith in let b : k + d + i ≡ k + (d + i) = omega arith in rw (a, b) (h (d + i) (omega arith)))

-- a distance setting that is a number reads back
setting_read : (x : Float) → Real x → real_of (setting_bits x) ≡ x
unfolding setting_bits
setting_read x r = rw (equal x r.number) (real_bits x r.holds r.number)

setting_lt : (x : Float) → Real x → setting_bits x < 2 ^ 64
unfolding setting_bits
setting_lt x r = rw (equal x r.number) (bits_lt x r.holds r.number)

-- ---- the fields of the header

abbrev header : (e : ℕ) (o : Settings) (size : ℕ) → List ℕ
header e o size = with_header e o (replicate size 0)

module _ (e : ℕ) (o : Settings) (size : ℕ) (long : 64 ≤ size) where
  count-field : le_at 4 (header e o size) 12 ≡ 2
  unfolding with_header
  count-field =
      le_put_other 4 4 _ 4 _ 12 (inr (omega arith)) ∙ le_put_other 4 8 _ 56 _ 12 (inl (omega arith)) ∙ le_put_other 4 8 _ 48 _ 12 (inl (omega arith)) ∙ le_put_other 4 2 _ 32 _ 12 (inl (omega arith))
      ∙ le_put_other 4 4 _ 28 _ 12 (inl (omega arith)) ∙ le_put_other 4 4 _ 24 _ 12 (inl (omega arith)) ∙ le_put_other 4 4 _ 20 _ 12 (inl (omega arith)) ∙ le_put_other 4 4 _ 16 _ 12 (inl (omega arith))
      ∙ le_put_same 4 2 12 _ (rw (length-put, length-replicate) (omega arith)) (lit< tt)

  room-field : o.diverge_room < 2 ^ 32 → le_at 4 (header e o size) 16 ≡ o.diverge_room
  unfolding with_header
  room-field h =
      le_put_other 4 4 _ 4 _ 16 (inr (omega arith)) ∙ le_put_other 4 8 _ 56 _ 16 (inl (omega arith)) ∙ le_put_other 4 8 _ 48 _ 16 (inl (omega arith)) ∙ le_put_other 4 2 _ 32 _ 16 (inl (omega arith))
      ∙ le_put_other 4 4 _ 28 _ 16 (inl (omega arith)) ∙ le_put_other 4 4 _ 24 _ 16 (inl (omega arith)) ∙ le_put_other 4 4 _ 20 _ 16 (inl (omega arith))
      ∙ le_put_same 4 o.diverge_room 16 _ (rw (length-put, length-put, length-replicate) (omega arith)) h

  search-field : Real o.dist_disp_path_search.0 → le_at 8 (header e o size) 48 ≡ setting_bits o.dist_disp_path_search.0
  unfolding with_header
  search-field r =
      le_put_other 8 4 _ 4 _ 48 (inr (omega arith)) ∙ le_put_other 8 8 _ 56 _ 48 (inl (omega arith))
      ∙ le_put_same 8 (setting_bits o.dist_disp_path_search.0) 48 _ (rw (length-put, length-put, length-put, length-put, length-put, length-put, length-put, length-replicate) (omega arith)) (setting_lt o.dist_disp_path_search.0 r)

  fixed-field : Real o.dist_fixed_max.0 → le_at 8 (header e o size) 56 ≡ setting_bits o.dist_fixed_max.0
  unfolding with_header
  fixed-field r =
      le_put_other 8 4 _ 4 _ 56 (inr (omega arith))
      ∙ le_put_same 8 (setting_bits o.dist_fixed_max.0) 56 _ (rw (length-put, length-put, length-put, length-put, length-put, length-put, length-put, length-put, length-replicate) (omega arith)) (setting_lt o.dist_fixed_max.0 r)

  -- fixed, free, front and back
  zero_field : (j : ℕ) → 34 ≤ j → j + 2 ≤ 48 → le_at 2 (header e o size) j ≡ 0
  unfolding with_header
  zero_field j h l =
      le_put_other 2 4 _ 4 _ j (inr (omega arith)) ∙ le_put_other 2 8 _ 56 _ j (inl (omega arith)) ∙ le_put_other 2 8 _ 48 _ j (inl (omega arith)) ∙ le_put_other 2 2 _ 32 _ j (inr (omega arith))
      ∙ le_put_other 2 4 _ 28 _ j (inr (omega arith)) ∙ le_put_other 2 4 _ 24 _ j (inr (omega arith)) ∙ le_put_other 2 4 _ 20 _ j (inr (omega arith)) ∙ le_put_other 2 4 _ 16 _ j (inr (omega arith))
      ∙ le_put_other 2 4 _ 12 _ j (inr (omega arith)) ∙ le_put_other 2 4 _ 0 _ j (inr (omega arith)) ∙ le-zero 2 (replicate size 0) j (λ i a b. zero_all size i)

-- ---- the image

module _ (est : List ℕ) (o : Settings) (size : ℕ) (z : SizesFit (length est) o size) (bytes : Bytes est) (reach : all_within (new_path true est) ≡ true)
    (train : o.train_idx.0 < 2 ^ 16) (search : Real o.dist_disp_path_search.0) (fixed : Real o.dist_fixed_max.0) where
  abbrev e : ℕ
  e = est_length est

  abbrev path : List DispNode
  path = new_path true est

  abbrev n : ℕ
  n = length path

  abbrev base : List ℕ
  base = based e o est size

  abbrev noded : List ℕ
  noded = put_nodes path (node_place e 0) base

  abbrev img : List ℕ
  img = laid_image true est o size

  room : 64 + length est ≤ size
  room = omega (arith, z.whole, z.size_is)

  at_most : n ≤ e
  at_most = few est o size z true

  n_low : n < 2 ^ 16
  n_low = lt_of_le_of_lt at_most (lt_of_le_of_lt z.few-est (lit< tt))

  nodes_write : Writes (node_place e 0) (node_place e 0 + 32 * n) (put_nodes path (node_place e 0))
  nodes_write = each_writes put_node 32 node_writes path (node_place e 0)

  noded_long : length noded ≡ size
  noded_long = nodes_write.long base ∙ based_long e o est size room

  -- a byte that neither the nodes nor the ends write
  byte : (i : ℕ) → (i < 8) ⊎ (12 ≤ i) → i < node_place e 0 → get_or img i 0 ≡ get_or base i 0
  unfolding laid_image with_ends diverge_words
  byte i h l =
      get_d_put 2 n (narrow_place e 1 + 2) (put_le 4 n 8 noded) i (inl (omega arith))
      ∙ (get_d_put 4 n 8 noded i h ∙ nodes_write.outside base i (inl l))

  head : (v j : ℕ) → (j + v ≤ 8) ⊎ (12 ≤ j) → j + v ≤ 64 → le_at v img j ≡ le_at v (header e o size) j
  head v j h l = le_cong v img (header e o size) j (λ i a b. byte i (inside i a b h) (omega arith) ∙ based_head e o est size room i (omega arith))
    where
      inside : (i : ℕ) → j ≤ i → i < j + v → (j + v ≤ 8) ⊎ (12 ≤ j) → (i < 8) ⊎ (12 ≤ i)
      inside i a b (inl k) = inl (omega arith)
      inside i a b (inr k) = inr (omega arith)

  counted : est_count img ≡ e
  counted = laid-est-count est o size z true

  narrow : is_wide img ≡ false
  narrow = laid-narrow est o size z true

  est_read_at : (i : ℕ) → i < e → est_at img i ≡ est_from est (32 * i)
  est_read_at i l =
      est_shift img est (est_place i) (32 * i)
      (λ j m.
      let k : est_place i + j ≡ 64 + (32 * i + j) = omega arith in
      rw k (byte (64 + (32 * i + j)) (inr (omega arith)) (omega arith) ∙ based_est e o est size room (32 * i + j) (omega (arith, z.whole))))

  ests_read : listed (est_count img) (est_at img) ≡ listed e (λ i. est_from est (32 * i))
  ests_read = ap (λ (m : ℕ). listed m (est_at img)) counted ∙ listed_same e (λ i. est_from est (32 * i)) (est_at img) est_read_at

  node_outside : {a b : ℕ} {f : List ℕ → List ℕ} → Writes a b f → (cs : List ℕ) (k : ℕ) → (k + 32 ≤ a) ⊎ (b ≤ k) → node_from (f cs) k ≡ node_from cs k
  node_outside = from_outside put_node node_from 32 NodeHeld node_writes node_cong node_read (node_from [] 0)

  node_read_at : (i : ℕ) → i < n → node_at img i ≡ node_from noded (node_place e 0 + 32 * i)
  unfolding laid_image with_ends diverge_words
  node_read_at i l =
      let q : node_place e i ≡ node_place e 0 + 32 * i = omega arith in
      ap (λ (x : ℕ). node_from img (node_place x i)) counted
      ∙ (node_outside (put_writes 2 n (narrow_place e 1 + 2)) (put_le 4 n 8 noded) (node_place e i) (inl (omega (arith, at_most)))
      ∙ (node_outside (put_writes 4 n 8) noded (node_place e i) (inr (omega arith)) ∙ ap (node_from noded) q))

  path_read : listed (path_count_of img) (node_at img) ≡ path
  path_read =
      ap (λ (m : ℕ). listed m (node_at img)) (laid-path-count est o size z true)
      ∙ (listed_same n (λ i. node_from noded (node_place e 0 + 32 * i)) (node_at img) node_read_at
      ∙ each-list put_node node_from 32 NodeHeld node_writes node_cong node_read (node_from [] 0) path (node_place e 0) base (held est bytes true (numbers-within est bytes reach)) (omega (arith, at_most, based_long e o est size room, z.size_is)))

  -- ---- the two diverge nodes

  tail_zero : (i : ℕ) → node_place e n ≤ i → get_or noded i 0 ≡ 0
  tail_zero i l = nodes_write.outside base i (inr (omega arith)) ∙ based_zero e o est size room i (omega (arith, z.whole))

  two : narrow_place e 2 ≤ size
  two = omega (arith, z.size_is, z.some-room)

  diverge_zero : (j : ℕ) → narrow_place e 0 ≤ j → j ≤ narrow_place e 1 → le_at 2 img j ≡ 0
  unfolding laid_image with_ends diverge_words
  diverge_zero j h l =
      le_put_other 2 2 n (narrow_place e 1 + 2) (put_le 4 n 8 noded) j (inl (omega arith))
      ∙ (le_put_other 2 4 n 8 noded j (inr (omega arith)) ∙ le-zero 2 noded j (λ i a b. tail_zero i (omega (arith, at_most))))

  diverge-last : le_at 2 img (narrow_place e 1 + 2) ≡ n
  unfolding laid_image with_ends diverge_words
  diverge-last = le_put_same 2 n (narrow_place e 1 + 2) (put_le 4 n 8 noded) (rw length-put (omega (arith, noded_long, two))) n_low

  first-diverge : diverge_from false img (diverge_place false e 0) ≡ diverge_node 0
  unfolding diverge_from diverge_words
  first-diverge = rw (diverge_zero (narrow_place e 0) (omega arith) (omega arith), diverge_zero (narrow_place e 0 + 2) (omega arith) (omega arith))

  last-diverge : diverge_from false img (diverge_place false e 1) ≡ diverge_node n
  unfolding diverge_from diverge_words
  last-diverge = rw (diverge_zero (narrow_place e 1) (omega arith) (omega arith), diverge-last)

  diverges_read : listed (diverge_count_of img) (diverge_at img) ≡ diverge_node 0 ∷ (diverge_node n ∷ [])
  unfolding listed
  diverges_read =
      ap (λ (m : ℕ). listed m (diverge_at img)) (head 4 12 (inr (omega arith)) (omega arith) ∙ count-field e o size (omega (arith, room)))
      ∙ ap₂ (λ (a b : DivergeNode). a ∷ (b ∷ []))
      (ap₂ (λ (w : Bool) (x : ℕ). diverge_from w img (diverge_place w x 0)) narrow counted ∙ first-diverge)
      (ap₂ (λ (w : Bool) (x : ℕ). diverge_from w img (diverge_place w x 1)) narrow counted ∙ last-diverge)

  pub image-decoded : decoded img ≡ new_train est o
  unfolding decoded new_train
  image-decoded =
      let big : 64 ≤ size = omega (arith, room) in
      rw (
        ests_read,
        path_read,
        diverges_read,
        head 4 16 (inr (omega arith)) (omega arith),
        room-field e o size big (lt_of_le_of_lt z.few-room (lit< tt)),
        head 2 34 (inr (omega arith)) (omega arith),
        zero_field e o size big 34 (omega arith) (omega arith),
        head 2 36 (inr (omega arith)) (omega arith),
        zero_field e o size big 36 (omega arith) (omega arith),
        head 2 38 (inr (omega arith)) (omega arith),
        zero_field e o size big 38 (omega arith) (omega arith),
        head 2 40 (inr (omega arith)) (omega arith),
        zero_field e o size big 40 (omega arith) (omega arith),
        head 2 32 (inr (omega arith)) (omega arith),
        head_train e o (replicate size 0) (rw length-replicate big) train,
        head 8 48 (inr (omega arith)) (omega arith),
        search-field e o size big search,
        setting_read o.dist_disp_path_search.0 search,
        head 8 56 (inr (omega arith)) (omega arith),
        fixed-field e o size big fixed,
        setting_read o.dist_fixed_max.0 fixed,
      )

-- ---- lay out

module _ (est : List ℕ) (o : Settings) (img : List ℕ) (bytes : Bytes est) (train : o.train_idx.0 < 2 ^ 16)
    (search : Real o.dist_disp_path_search.0) (fixed : Real o.dist_fixed_max.0) (h : (laid_out est o img).answer ≡ Done) where
  -- the image that is laid out holds the new train
  pub laid-decoded : decoded (laid_out est o img).image ≡ new_train est o
  laid-decoded =
      let p = passed est o img h in
      ap decoded (laid-image est o img h) ∙ image-decoded est o (length img) (sizes-fit (length est) o (length img) p.sizes) bytes p.reach train search fixed

  -- and is its encoding
  pub laid-encoded : Bytes (laid_out est o img).image → (laid_out est o img).image ≡ encoded false (new_train est o)
  laid-encoded b =
      let ok = laid-accepted est o img h in
      let p = passed est o img h in
      let narrow : is_wide (laid_out est o img).image ≡ false = ap is_wide (laid-image est o img h) ∙ laid-narrow est o (length img) (sizes-fit (length est) o (length img) p.sizes) true in
      sym (encoded-accepted Narrow (laid_out est o img).image o.links b ok) ∙ ap₂ (λ (w : Bool) (t : Train). encoded w t) narrow laid-decoded
