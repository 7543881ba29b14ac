-- The parts in which an image is written, one after the other, and that together they write every byte. Assumes nothing.
use mathlib.Core.Path.{◌≡◌, refl, sym, ap, ◌∙◌}
use mathlib.Core.Logic.{◌⊎◌, inl, inr, ⊎_elim}
use mathlib.Core.Bool.{Bool}
use mathlib.Core.List.{List}
use Prim.Native.Nat.{ℕ, ◌+◌, ◌*◌, ◌-◌, ◌≤◌, ◌<◌}
use native.Mathlib.Omega.{arith}
use lib.ListN.{length, get_or, replicate, length-replicate}
use lib.Seq.{ext_get_or}
use Rattle.link_rules.specs.Octets.{put_le}
use Rattle.disp_structs.specs.Floats.{bits_of}
use Rattle.disp_structs.specs.Train.{Train}
use Rattle.image.specs.Fields.{diverge_words, diverge_size}
use Rattle.image.specs.Image.{est_place, node_place, diverge_offset, diverge_place, image_size, put_est, put_node, put_diverge, zero_words, put_path_header}
use Rattle.image.specs.Codec.{put_each, path_header_of, put_records, put_changes, put_size, put_offsets, wide_number, put_dists, constant_into, encoded_into, encoded}
use Rattle.image.specs.declared.codec.PathHeader.{PathHeader}
use Rattle.image.proofs.WidthLaws.{words_rise, words_left}
use Rattle.image.proofs.Writers.{Writes, put-to, zero_writes, each_writes, then, side}
use Rattle.image.proofs.RecordLaws.{est_writes, node_writes, diverge_writes}

-- ---- the parts in which an image is written

pub size_writes : (wide : Bool) (t : Train) → Writes 0 8 (put_size wide t)
unfolding put_size
size_writes wide t =
    then (put-to 4 (image_size wide (length t.est_times) t.diverge_room) 0 4 (omega arith)) (put-to 4 (length t.est_times) 4 8 (omega arith))
    (omega arith) (omega arith)

pub offsets_writes : (t : Train) → Writes 16 34 (put_offsets t)
unfolding put_offsets
offsets_writes t =
    let e = length t.est_times in
    then (then (then (then (put-to 4 t.diverge_room 16 20 (omega arith)) (put-to 4 (est_place 0) 20 24 (omega arith)) (omega arith) (omega arith))
    (put-to 4 (node_place e 0) 24 28 (omega arith)) (omega arith) (omega arith))
    (put-to 4 (diverge_offset e) 28 32 (omega arith)) (omega arith) (omega arith))
    (put-to 2 t.train_idx.0 32 34 (omega arith)) (omega arith) (omega arith)

pub dists_writes : (wide : Bool) (t : Train) → Writes 42 64 (put_dists wide t)
unfolding put_dists
dists_writes wide t =
    then (then (then (put-to 2 (wide_number wide) 42 44 (omega arith)) (put-to 4 0 44 48 (omega arith)) (omega arith) (omega arith))
    (put-to 8 (bits_of t.dist_disp_path_search.0) 48 56 (omega arith)) (omega arith) (omega arith))
    (put-to 8 (bits_of t.dist_fixed_max.0) 56 64 (omega arith)) (omega arith) (omega arith)

abbrev pub put_ests : Train → List ℕ → List ℕ
put_ests t = put_each put_est 32 t.est_times (est_place 0)

pub ests_writes : (t : Train) → Writes 64 (64 + 32 * length t.est_times) (put_ests t)
ests_writes t = each_writes put_est 32 est_writes t.est_times (est_place 0)

-- the path header's counts and indices lie apart
abbrev pub put_counts : PathHeader → List ℕ → List ℕ
put_counts h bs = put_le 4 h.diverge_count 12 (put_le 4 h.path_count 8 bs)

abbrev pub put_indices : PathHeader → List ℕ → List ℕ
put_indices h bs = put_le 2 h.back 40 (put_le 2 h.front 38 (put_le 2 h.free 36 (put_le 2 h.fixed 34 bs)))

pub counts_writes : (h : PathHeader) → Writes 8 16 (put_counts h)
counts_writes h = then (put-to 4 h.path_count 8 12 (omega arith)) (put-to 4 h.diverge_count 12 16 (omega arith)) (omega arith) (omega arith)

pub indices_writes : (h : PathHeader) → Writes 34 42 (put_indices h)
indices_writes h =
    then (then (then (put-to 2 h.fixed 34 36 (omega arith)) (put-to 2 h.free 36 38 (omega arith)) (omega arith) (omega arith))
    (put-to 2 h.front 38 40 (omega arith)) (omega arith) (omega arith))
    (put-to 2 h.back 40 42 (omega arith)) (omega arith) (omega arith)

-- the room of a state: as many path nodes as est records at most, and diverge nodes as there is room
pub record InRoom (t : Train) : Type 0 where
  pub path : length t.disp_path ≤ length t.est_times
  pub diverge : length t.div_nodes ≤ t.diverge_room

abbrev pub size : (wide : Bool) → Train → ℕ
size wide t = image_size wide (length t.est_times) t.diverge_room

-- the path, unused path records, the diverge nodes, unused diverge records
abbrev pub put_path : Train → List ℕ → List ℕ
put_path t = put_each put_node 32 t.disp_path (node_place (length t.est_times) 0)

abbrev pub clear_path : Train → List ℕ → List ℕ
clear_path t = zero_words (8 * (length t.est_times - length t.disp_path)) (node_place (length t.est_times) (length t.disp_path))

abbrev pub put_diverges : (wide : Bool) → Train → List ℕ → List ℕ
put_diverges wide t = put_each (put_diverge wide) (diverge_size wide) t.div_nodes (diverge_place wide (length t.est_times) 0)

abbrev pub clear_diverges : (wide : Bool) → Train → List ℕ → List ℕ
clear_diverges wide t = zero_words (diverge_words wide * (t.diverge_room - length t.div_nodes)) (diverge_place wide (length t.est_times) (length t.div_nodes))

to : {a b c : ℕ} {f : List ℕ → List ℕ} → Writes a b f → b ≡ c → Writes a c f
to w q = rw (← q) w

module _ (t : Train) (r : InRoom t) where
  pub path_writes : Writes (node_place (length t.est_times) 0) (node_place (length t.est_times) (length t.disp_path)) (put_path t)
  path_writes = to (each_writes put_node 32 node_writes t.disp_path (node_place (length t.est_times) 0)) (omega arith)

  pub no-path_writes : Writes (node_place (length t.est_times) (length t.disp_path)) (diverge_offset (length t.est_times)) (clear_path t)
  no-path_writes =
      let l = r.path in
      to (zero_writes (8 * (length t.est_times - length t.disp_path)) (node_place (length t.est_times) (length t.disp_path))) (omega arith)

module _ (wide : Bool) (t : Train) (r : InRoom t) where
  pub diverges_writes : Writes (diverge_place wide (length t.est_times) 0) (diverge_place wide (length t.est_times) (length t.div_nodes)) (put_diverges wide t)
  diverges_writes = to (each_writes (put_diverge wide) (diverge_size wide) (diverge_writes wide) t.div_nodes (diverge_place wide (length t.est_times) 0)) (omega arith)

  pub no_diverges_writes : Writes (diverge_place wide (length t.est_times) (length t.div_nodes)) (size wide t) (clear_diverges wide t)
  no_diverges_writes =
      let l = words_left wide (length t.div_nodes) t.diverge_room r.diverge in
      to (zero_writes (diverge_words wide * (t.diverge_room - length t.div_nodes)) (diverge_place wide (length t.est_times) (length t.div_nodes))) (omega arith)

  pub records_writes : Writes (64 + 32 * length t.est_times) (size wide t) (put_records wide t)
  unfolding put_records
  records_writes =
      let l = r.path in
      let k = words_rise wide (length t.div_nodes) t.diverge_room r.diverge in
      let q : node_place (length t.est_times) 0 ≡ 64 + 32 * length t.est_times = omega arith in
      let z : diverge_offset (length t.est_times) ≡ diverge_place wide (length t.est_times) 0 = omega arith in
      rw (← q)
      (then (then (then (path_writes t r) (to (no-path_writes t r) z) (omega arith) (omega arith)) diverges_writes (omega arith) (omega arith)) no_diverges_writes (omega arith) (omega arith))

-- ---- every byte is written: what stood there before is of no account

-- two buffers of one length that agree at i agree there after a write to both
pub keep : {a b : ℕ} {f : List ℕ → List ℕ} → Writes a b f → (bs cs : List ℕ) → length bs ≡ length cs → (i : ℕ) → i < length bs
    → get_or bs i 0 ≡ get_or cs i 0 → get_or (f bs) i 0 ≡ get_or (f cs) i 0
keep {a} {b} {f} wf bs cs q i l h =
    ⊎_elim
    (λ (k : i < a). outer (inl k))
    (λ (k : a ≤ i). ⊎_elim (λ (s : i < b). wf.inside bs cs q i k s l) (λ (s : b ≤ i). outer (inr s)) (side i b))
    (side i a)
  where
    outer : (i < a) ⊎ (b ≤ i) → get_or (f bs) i 0 ≡ get_or (f cs) i 0
    outer o = wf.outside bs i o ∙ (h ∙ sym (wf.outside cs i o))

-- the buffer after each part
abbrev pub after_size : (wide : Bool) → Train → List ℕ → List ℕ
after_size wide t bs = put_size wide t bs

abbrev pub after_offsets : (wide : Bool) → Train → List ℕ → List ℕ
after_offsets wide t bs = put_offsets t (after_size wide t bs)

abbrev pub after_dists : (wide : Bool) → Train → List ℕ → List ℕ
after_dists wide t bs = put_dists wide t (after_offsets wide t bs)

abbrev pub after_ests : (wide : Bool) → Train → List ℕ → List ℕ
after_ests wide t bs = put_ests t (after_dists wide t bs)

abbrev pub after_records : (wide : Bool) → Train → List ℕ → List ℕ
after_records wide t bs = put_records wide t (after_ests wide t bs)

abbrev pub after_counts : (wide : Bool) → Train → List ℕ → List ℕ
after_counts wide t bs = put_counts (path_header_of t) (after_records wide t bs)

abbrev pub after_indices : (wide : Bool) → Train → List ℕ → List ℕ
after_indices wide t bs = put_indices (path_header_of t) (after_counts wide t bs)

pub parts : (wide : Bool) (t : Train) (bs : List ℕ) → encoded_into wide t bs ≡ after_indices wide t bs
unfolding encoded_into constant_into put_changes put_path_header
parts wide t bs = refl

-- all but the counts and the indices
abbrev pub Rest : ℕ → Type 0
Rest i = ((i < 8) ⊎ (16 ≤ i)) × ((i < 34) ⊎ (42 ≤ i))

module _ (wide : Bool) (t : Train) (r : InRoom t) where
  -- none changes the length
  module _ (bs : List ℕ) where
    pub long-size : length (after_size wide t bs) ≡ length bs
    long-size = (size_writes wide t).long bs

    pub long-offsets : length (after_offsets wide t bs) ≡ length bs
    long-offsets = (offsets_writes t).long (after_size wide t bs) ∙ long-size

    pub long_dists : length (after_dists wide t bs) ≡ length bs
    long_dists = (dists_writes wide t).long (after_offsets wide t bs) ∙ long-offsets

    pub long-ests : length (after_ests wide t bs) ≡ length bs
    long-ests = (ests_writes t).long (after_dists wide t bs) ∙ long_dists

    pub long-records : length (after_records wide t bs) ≡ length bs
    long-records = (records_writes wide t r).long (after_ests wide t bs) ∙ long-ests

    pub long-counts : length (after_counts wide t bs) ≡ length bs
    long-counts = (counts_writes (path_header_of t)).long (after_records wide t bs) ∙ long-records

    pub long_indices : length (after_indices wide t bs) ≡ length bs
    long_indices = (indices_writes (path_header_of t)).long (after_counts wide t bs) ∙ long-counts

  module _ (bs cs : List ℕ) (lb : length bs ≡ size wide t) (lc : length cs ≡ size wide t) (i : ℕ) (l : i < size wide t) where
    q0 : length bs ≡ length cs
    q0 = lb ∙ sym lc

    agree-size : i < 8 → get_or (after_size wide t bs) i 0 ≡ get_or (after_size wide t cs) i 0
    agree-size k = (size_writes wide t).inside bs cs q0 i (omega arith) k (omega arith)

    agree-offsets : (i < 8) ⊎ (16 ≤ i) → i < 34 → get_or (after_offsets wide t bs) i 0 ≡ get_or (after_offsets wide t cs) i 0
    agree-offsets (inl k) m = keep (offsets_writes t) (after_size wide t bs) (after_size wide t cs) (long-size bs ∙ (q0 ∙ sym (long-size cs))) i (omega (arith, long-size bs)) (agree-size k)
    agree-offsets (inr k) m = (offsets_writes t).inside (after_size wide t bs) (after_size wide t cs) (long-size bs ∙ (q0 ∙ sym (long-size cs))) i k m (omega (arith, long-size bs))

    agree_dists : Rest i → i < 64 → get_or (after_dists wide t bs) i 0 ≡ get_or (after_dists wide t cs) i 0
    agree_dists (o, inl k) m = keep (dists_writes wide t) (after_offsets wide t bs) (after_offsets wide t cs) (long-offsets bs ∙ (q0 ∙ sym (long-offsets cs))) i (omega (arith, long-offsets bs)) (agree-offsets o k)
    agree_dists (o, inr k) m = (dists_writes wide t).inside (after_offsets wide t bs) (after_offsets wide t cs) (long-offsets bs ∙ (q0 ∙ sym (long-offsets cs))) i k m (omega (arith, long-offsets bs))

    agree-ests : Rest i → i < 64 + 32 * length t.est_times → get_or (after_ests wide t bs) i 0 ≡ get_or (after_ests wide t cs) i 0
    agree-ests o m =
        ⊎_elim
        (λ (k : i < 64). keep (ests_writes t) (after_dists wide t bs) (after_dists wide t cs) (long_dists bs ∙ (q0 ∙ sym (long_dists cs))) i (omega (arith, long_dists bs)) (agree_dists o k))
        (λ (k : 64 ≤ i). (ests_writes t).inside (after_dists wide t bs) (after_dists wide t cs) (long_dists bs ∙ (q0 ∙ sym (long_dists cs))) i k m (omega (arith, long_dists bs)))
        (side i 64)

    agree-records : Rest i → get_or (after_records wide t bs) i 0 ≡ get_or (after_records wide t cs) i 0
    agree-records o =
        ⊎_elim
        (λ (k : i < 64 + 32 * length t.est_times). keep (records_writes wide t r) (after_ests wide t bs) (after_ests wide t cs) (long-ests bs ∙ (q0 ∙ sym (long-ests cs))) i (omega (arith, long-ests bs)) (agree-ests o k))
        (λ (k : 64 + 32 * length t.est_times ≤ i). (records_writes wide t r).inside (after_ests wide t bs) (after_ests wide t cs) (long-ests bs ∙ (q0 ∙ sym (long-ests cs))) i k l (omega (arith, long-ests bs)))
        (side i (64 + 32 * length t.est_times))

    agree-counts : (i < 34) ⊎ (42 ≤ i) → get_or (after_counts wide t bs) i 0 ≡ get_or (after_counts wide t cs) i 0
    agree-counts o =
        ⊎_elim
        (λ (k : i < 8). kept (inl k))
        (λ (k : 8 ≤ i). ⊎_elim
        (λ (m : i < 16). (counts_writes (path_header_of t)).inside (after_records wide t bs) (after_records wide t cs) (long-records bs ∙ (q0 ∙ sym (long-records cs))) i k m (omega (arith, long-records bs)))
        (λ (m : 16 ≤ i). kept (inr m))
        (side i 16))
        (side i 8)
      where
        kept : (i < 8) ⊎ (16 ≤ i) → get_or (after_counts wide t bs) i 0 ≡ get_or (after_counts wide t cs) i 0
        kept a = keep (counts_writes (path_header_of t)) (after_records wide t bs) (after_records wide t cs) (long-records bs ∙ (q0 ∙ sym (long-records cs))) i (omega (arith, long-records bs)) (agree-records (a, o))

    agree_indices : get_or (after_indices wide t bs) i 0 ≡ get_or (after_indices wide t cs) i 0
    agree_indices =
        ⊎_elim
        (λ (k : i < 34). kept (inl k))
        (λ (k : 34 ≤ i). ⊎_elim
        (λ (m : i < 42). (indices_writes (path_header_of t)).inside (after_counts wide t bs) (after_counts wide t cs) (long-counts bs ∙ (q0 ∙ sym (long-counts cs))) i k m (omega (arith, long-counts bs)))
        (λ (m : 42 ≤ i). kept (inr m))
        (side i 42))
        (side i 34)
      where
        kept : (i < 34) ⊎ (42 ≤ i) → get_or (after_indices wide t bs) i 0 ≡ get_or (after_indices wide t cs) i 0
        kept o = keep (indices_writes (path_header_of t)) (after_counts wide t bs) (after_counts wide t cs) (long-counts bs ∙ (q0 ∙ sym (long-counts cs))) i (omega (arith, long-counts bs)) (agree-counts o)

  pub encoded-length : (bs : List ℕ) → length (encoded_into wide t bs) ≡ length bs
  encoded-length bs = ap length (parts wide t bs) ∙ long_indices bs

  pub encoded-same : (bs cs : List ℕ) → length bs ≡ size wide t → length cs ≡ size wide t → encoded_into wide t bs ≡ encoded_into wide t cs
  encoded-same bs cs lb lc =
      parts wide t bs ∙ (ext_get_or 0 (after_indices wide t bs) (after_indices wide t cs) (long_indices bs ∙ (lb ∙ (sym lc ∙ sym (long_indices cs)))) (λ i l. agree_indices bs cs lb lc i (omega (arith, long_indices bs))) ∙ sym (parts wide t cs))

  -- encoding into a buffer of the right length
  pub encoded-into : (bs : List ℕ) → length bs ≡ size wide t → encoded_into wide t bs ≡ encoded wide t
  unfolding encoded
  encoded-into bs lb = encoded-same bs (replicate (size wide t) 0) lb (length-replicate (size wide t) 0)
