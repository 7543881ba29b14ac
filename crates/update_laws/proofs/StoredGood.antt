-- What an update stores: bytes stay bytes, the length stays, and an image stays an image. Assumes nothing.
use mathlib.Core.Path.{◌≡◌, sym, ap, ap₂, subst, ◌∙◌}
use mathlib.Core.Logic.{◌⊎◌, inl, inr, ⊎_elim}
use mathlib.Core.Bool.{Bool}
use mathlib.Core.List.{List, [], ◌∷◌}
use Prim.Native.Nat.{ℕ, zero, suc, ◌+◌, ◌*◌, ◌-◌, ◌/◌, ◌%◌, ◌^◌, ◌≤◌, ◌<◌}
use native.Mathlib.Nat.{eq-or-lt_of_le}
use native.Mathlib.Omega.{arith}
use lib.Dec.{lit<}
use lib.ListN.{length, get_or, set}
use lib.Seq.{get_or-set_same, get_or-set_other, set_out}
use Rattle.link_rules.specs.Octets.{le_at, put_le}
use Rattle.link_rules.proofs.OctetLaws.{Bytes, le_cong, le_put_same, le_put_other, length-put}
use Rattle.disp_structs.specs.Floats.{bits_of}
use Rattle.disp_structs.specs.Train.{Train}
use Rattle.disp_structs.specs.declared.EstType.{EstType}
use Rattle.disp_structs.specs.declared.EstType.TheVariants.{Arrive, Clear, Fake}
use Rattle.disp_structs.specs.declared.DispNode.{DispNode}
use Rattle.disp_structs.specs.declared.DivergeNode.{DivergeNode}
use Rattle.disp_structs.proofs.FloatLaws.{bits_lt, bits-number}
use Rattle.disp_structs.proofs.ListedLaws.{listed-length}
use Rattle.est_times.proofs.Counting.{same_or_not}
use Rattle.image.specs.Fields.{diverge_words, diverge_size}
use Rattle.image.specs.Image.{type_number, est_count, path_count_of, diverge_count_of, diverge_room, is_wide, est_place, node_place, diverge_offset, diverge_place, image_size, node_from, est_at, node_at, diverge_at, put_node, put_diverge, zero_words, put_path_header}
use Rattle.image.specs.Codec.{decoded, put_each, path_header_of, put_records, put_changes, stored_into, wide_number}
use Rattle.image.proofs.WidthLaws.{words-some, words_rise, words-next, words_left}
use Rattle.image.proofs.Writers.{Writes, zero_writes, each_writes, le_outside, side}
use Rattle.image.proofs.RecordLaws.{Number, NodeHeld, GoodNode, GoodDiverge, node_writes, diverge_writes}
use Rattle.image.proofs.Parts.{put_path, clear_path, put_diverges, clear_diverges, put_counts, size, counts_writes, indices_writes, path_writes, no-path_writes, diverges_writes, no_diverges_writes, records_writes}
use Rattle.image.proofs.CodecLaws.{GoodImage, Keeps, Held, width_read, stored-encoded, decoded-encoded}

-- ---- bytes stay bytes

bytes-set : (bs : List ℕ) (k x : ℕ) → x < 256 → Bytes bs → Bytes (set bs k x)
bytes-set bs k x l b i =
    ⊎_elim
    (λ (h : k < length bs). ⊎_elim
    (λ (q : i ≡ k). rw q (omega (arith, get_or-set_same bs k x 0 h)))
    (λ (q : i ≡ k → ⊥). omega (arith, get_or-set_other bs k i x 0 q, b i))
    (same_or_not i k))
    (λ (h : length bs ≤ k). rw (set_out bs k x h) (b i))
    (side k (length bs))

bytes-put : (w x k : ℕ) (bs : List ℕ) → Bytes bs → Bytes (put_le w x k bs)
unfolding put_le
bytes-put zero x k bs b = b
bytes-put (suc w) x k bs b = bytes-put w (x / 256) (k + 1) (set bs k (x % 256)) (bytes-set bs k (x % 256) (omega arith) b)

bytes_zero : (n k : ℕ) (bs : List ℕ) → Bytes bs → Bytes (zero_words n k bs)
unfolding zero_words
bytes_zero zero k bs b = b
bytes_zero (suc n) k bs b = bytes-put 4 0 (k + 4 * n) (zero_words n k bs) (bytes_zero n k bs b)

bytes-each : {A : Type 0} (put : A → ℕ → List ℕ → List ℕ) (w : ℕ) → ((x : A) (k : ℕ) (bs : List ℕ) → Bytes bs → Bytes (put x k bs))
    → (xs : List A) (k : ℕ) (bs : List ℕ) → Bytes bs → Bytes (put_each put w xs k bs)
unfolding put_each
bytes-each put w h [] k bs b = b
bytes-each put w h (x ∷ xs) k bs b = bytes-each put w h xs (k + w) (put x k bs) (h x k bs b)

bytes-node : (x : DispNode) (k : ℕ) (bs : List ℕ) → Bytes bs → Bytes (put_node x k bs)
unfolding put_node
bytes-node x k bs b = bytes-put 4 _ _ _ (bytes-put 2 _ _ _ (bytes-put 2 _ _ _ (bytes-put 4 _ _ _ (bytes-put 4 _ _ _ (bytes-put 8 _ _ _ (bytes-put 8 _ _ _ b))))))

bytes-diverge : (wide : Bool) (x : DivergeNode) (k : ℕ) (bs : List ℕ) → Bytes bs → Bytes (put_diverge wide x k bs)
unfolding put_diverge
bytes-diverge wide x k bs b = bytes-put _ _ _ _ (bytes-put 2 _ _ _ (bytes-put _ _ _ _ b))

pub bytes-stored : (t : Train) (bs : List ℕ) → Bytes bs → Bytes (stored_into t bs)
unfolding put_changes put_path_header put_records
bytes-stored t bs b =
    bytes-put 2 _ _ _ (bytes-put 2 _ _ _ (bytes-put 2 _ _ _ (bytes-put 2 _ _ _ (bytes-put 4 _ _ _ (bytes-put 4 _ _ _
    (bytes_zero _ _ _ (bytes-each (put_diverge (is_wide bs)) (diverge_size (is_wide bs)) (bytes-diverge (is_wide bs)) _ _ _ (bytes_zero _ _ _ (bytes-each put_node 32 bytes-node _ _ _ b)))))))))

pub length-stored : (t : Train) (bs : List ℕ) → length (stored_into t bs) ≡ length bs
unfolding put_changes put_path_header put_records
length-stored t bs =
    let w = is_wide bs in
    let e = length t.est_times in
    let n = length t.disp_path in
    let m = length t.div_nodes in
    rw (length-put, length-put, length-put, length-put, length-put, length-put)
    ((zero_writes (diverge_words w * (t.diverge_room - m)) (diverge_place w e m)).long _
    ∙ ((each_writes (put_diverge w) (diverge_size w) (diverge_writes w) t.div_nodes (diverge_place w e 0)).long _
    ∙ ((zero_writes (8 * (e - n)) (node_place e n)).long _ ∙ (each_writes put_node 32 node_writes t.disp_path (node_place e 0)).long bs)))

-- a number of w bytes can be 0
pow_some : (w : ℕ) → 0 < 256 ^ w
pow_some zero = lit< tt
pow_some (suc w) = let h = pow_some w in omega arith

-- ---- words that are cleared

zero_read : (n k : ℕ) (bs : List ℕ) → k + 4 * n ≤ length bs → (j : ℕ) → j < n → le_at 4 (zero_words n k bs) (k + 4 * j) ≡ 0
unfolding zero_words
zero_read zero k bs l j h = absurd (omega arith)
zero_read (suc n) k bs l j h = go (eq-or-lt_of_le h) (zero_read n k bs (omega arith) j)
  where
    go : (suc j ≡ suc n) ⊎ (suc j < suc n) → (j < n → le_at 4 (zero_words n k bs) (k + 4 * j) ≡ 0) → le_at 4 (put_le 4 0 (k + 4 * n) (zero_words n k bs)) (k + 4 * j) ≡ 0
    go (inl q) r = let e : j ≡ n = omega arith in rw e (le_put_same 4 0 (k + 4 * n) (zero_words n k bs) (omega (arith, (zero_writes n k).long bs)) (lit< tt))
    go (inr q) r = le_put_other 4 4 0 (k + 4 * n) (zero_words n k bs) (k + 4 * j) (inl (omega arith)) ∙ r (omega arith)

-- ---- path records

type_few : (t : EstType) → type_number t ≤ 2
type_few Arrive = omega arith
type_few Clear = omega arith
type_few Fake = omega arith

-- a path record that is written has the bytes of one
node-good : (x : DispNode) (k : ℕ) (bs : List ℕ) → NodeHeld x → k + 32 ≤ length bs → GoodNode (put_node x k bs) k
unfolding put_node
node-good x k bs h l =
    let f = x.offset.0 in
    let s = x.time_pass.0 in
    let y = type_number x.link_event.est_type in
    let b1 = put_le 8 (bits_of f) k bs in
    let b2 = put_le 8 (bits_of s) (k + 8) b1 in
    let b3 = put_le 4 x.link_event.link_idx.0 (k + 16) b2 in
    let b4 = put_le 4 x.est_idx.0 (k + 20) b3 in
    let b5 = put_le 2 x.disp_auth_idx_entry (k + 24) b4 in
    let b6 = put_le 2 y (k + 26) b5 in
    let l1 : length b1 ≡ length bs = simp length-put in
    let l5 : length b5 ≡ length bs = simp length-put in
    let l6 : length b6 ≡ length bs = simp length-put in
    let q1 =
    le_put_other 8 4 0 (k + 28) b6 k (inl (omega arith))
    ∙ (le_put_other 8 2 y (k + 26) b5 k (inl (omega arith))
    ∙ (le_put_other 8 2 x.disp_auth_idx_entry (k + 24) b4 k (inl (omega arith))
    ∙ (le_put_other 8 4 x.est_idx.0 (k + 20) b3 k (inl (omega arith))
    ∙ (le_put_other 8 4 x.link_event.link_idx.0 (k + 16) b2 k (inl (omega arith))
    ∙ (le_put_other 8 8 (bits_of s) (k + 8) b1 k (inl (omega arith))
    ∙ le_put_same 8 (bits_of f) k bs (omega arith) (bits_lt f h.offset.holds h.offset.number)))))) in
    let q2 =
    le_put_other 8 4 0 (k + 28) b6 (k + 8) (inl (omega arith))
    ∙ (le_put_other 8 2 y (k + 26) b5 (k + 8) (inl (omega arith))
    ∙ (le_put_other 8 2 x.disp_auth_idx_entry (k + 24) b4 (k + 8) (inl (omega arith))
    ∙ (le_put_other 8 4 x.est_idx.0 (k + 20) b3 (k + 8) (inl (omega arith))
    ∙ (le_put_other 8 4 x.link_event.link_idx.0 (k + 16) b2 (k + 8) (inl (omega arith))
    ∙ le_put_same 8 (bits_of s) (k + 8) b1 (omega arith) (bits_lt s h.time.holds h.time.number))))) in
    let q3 = le_put_other 2 4 0 (k + 28) b6 (k + 26) (inl (omega arith)) ∙ le_put_same 2 y (k + 26) b5 (omega arith) (omega (arith, type_few x.link_event.est_type)) in
    record {
      offset = subst Number (sym q1) (bits-number f h.offset.holds h.offset.number);
      time = subst Number (sym q2) (bits-number s h.time.holds h.time.number);
      kind = omega (arith, q3, type_few x.link_event.est_type);
      spare = le_put_same 4 0 (k + 28) b6 (omega arith) (lit< tt);
    }

-- it is its 32 bytes
good_cong : (bs cs : List ℕ) (k : ℕ) → ((i : ℕ) → k ≤ i → i < k + 32 → get_or bs i 0 ≡ get_or cs i 0) → GoodNode cs k → GoodNode bs k
good_cong bs cs k h g =
    record {
      offset = subst Number (sym (le_cong 8 bs cs k (λ i l m. h i (omega arith) (omega arith)))) g.offset;
      time = subst Number (sym (le_cong 8 bs cs (k + 8) (λ i l m. h i (omega arith) (omega arith)))) g.time;
      kind = omega (arith, le_cong 2 bs cs (k + 26) (λ i l m. h i (omega arith) (omega arith)), g.kind);
      spare = le_cong 4 bs cs (k + 28) (λ i l m. h i (omega arith) (omega arith)) ∙ g.spare;
    }

good_past : {a b : ℕ} {f : List ℕ → List ℕ} → Writes a b f → (bs : List ℕ) (k : ℕ) → (k + 32 ≤ a) ⊎ (b ≤ k) → GoodNode bs k → GoodNode (f bs) k
good_past {a} {b} {f} wf bs k o g =
    good_cong (f bs) bs k (λ i l m. wf.outside bs i (⊎_elim (λ (s : k + 32 ≤ a). inl (omega arith)) (λ (s : b ≤ k). inr (omega arith)) o)) g

each-good : (xs : List DispNode) (k : ℕ) (bs : List ℕ) → ((i : ℕ) → i < length xs → NodeHeld (get_or xs i (node_from [] 0))) → k + 32 * length xs ≤ length bs
    → (i : ℕ) → i < length xs → GoodNode (put_each put_node 32 xs k bs) (k + 32 * i)
unfolding put_each
each-good [] k bs h l i m = absurd (omega arith)
each-good (x ∷ xs) k bs h l zero m =
    let e : k + 32 * 0 ≡ k = omega arith in
    rw e (good_past (each_writes put_node 32 node_writes xs (k + 32)) (put_node x k bs) k (inl (omega arith)) (node-good x k bs (h 0 m) (omega arith)))
each-good (x ∷ xs) k bs h l (suc i) m =
    let e : k + 32 * suc i ≡ k + 32 + 32 * i = omega arith in
    rw e (each-good xs (k + 32) (put_node x k bs) (λ j r. h (suc j) (omega arith)) (omega (arith, (node_writes x k).long bs)) i (omega arith))

-- ---- the image that is stored

module _ (bs : List ℕ) (g : GoodImage bs) (t : Train) (keep : Keeps t (decoded bs)) (h : Held (is_wide bs) t) where
  abbrev E : ℕ
  E = length t.est_times

  abbrev N : ℕ
  N = length t.disp_path

  abbrev M : ℕ
  M = length t.div_nodes

  abbrev W : Bool
  W = is_wide bs

  abbrev S : List ℕ
  S = stored_into t bs

  e_was : E ≡ est_count bs
  unfolding decoded
  e_was = ap length keep.ests ∙ listed-length (est_count bs) (est_at bs)

  q_was : t.diverge_room ≡ diverge_room bs
  unfolding decoded
  q_was = keep.room

  long : length bs ≡ size W t
  long = g.long ∙ ap₂ (image_size W) (sym e_was) (sym q_was)

  pub decoded-stored : decoded S ≡ t
  decoded-stored = ap decoded (stored-encoded bs g t keep h.room) ∙ decoded-encoded W t h

  n-is : path_count_of S ≡ N
  unfolding decoded
  n-is = sym (listed-length (path_count_of S) (node_at S)) ∙ ap (λ (u : Train). length u.disp_path) decoded-stored

  m_is : diverge_count_of S ≡ M
  unfolding decoded
  m_is = sym (listed-length (diverge_count_of S) (diverge_at S)) ∙ ap (λ (u : Train). length u.div_nodes) decoded-stored

  -- outside of what an update writes
  kept : (v j : ℕ) → (j + v ≤ 8) ⊎ (16 ≤ j) → (j + v ≤ 34) ⊎ (42 ≤ j) → j + v ≤ 64 + 32 * E → le_at v S j ≡ le_at v bs j
  unfolding put_changes put_path_header
  kept v j o p l =
      le_outside (indices_writes (path_header_of t)) v j (put_counts (path_header_of t) (put_records W t bs)) p
      ∙ (le_outside (counts_writes (path_header_of t)) v j (put_records W t bs) o ∙ le_outside (records_writes W t h.room) v j bs (inl l))

  e_same : est_count S ≡ est_count bs
  e_same = kept 4 4 (inl (omega arith)) (inl (omega arith)) (omega arith)

  pub width_same : le_at 2 S 42 ≡ le_at 2 bs 42
  width_same = kept 2 42 (inr (omega arith)) (inr (omega arith)) (omega arith)

  pub w_same : is_wide S ≡ W
  w_same = width_read W S (width_same ∙ g.spare)

  q_same : diverge_room S ≡ diverge_room bs
  q_same = kept 4 16 (inr (omega arith)) (inl (omega arith)) (omega arith)

  -- the records, one part after the other
  abbrev R0 : List ℕ
  R0 = put_path t bs

  abbrev R1 : List ℕ
  R1 = clear_path t R0

  abbrev R2 : List ℕ
  R2 = put_diverges W t R1

  abbrev R3 : List ℕ
  R3 = clear_diverges W t R2

  long0 : length R0 ≡ length bs
  long0 = (path_writes t h.room).long bs

  long1 : length R1 ≡ length bs
  long1 = (no-path_writes t h.room).long R0 ∙ long0

  long2 : length R2 ≡ length bs
  long2 = (diverges_writes W t h.room).long R1 ∙ long1

  -- a record behind the header
  behind : (v j : ℕ) → 64 ≤ j → le_at v S j ≡ le_at v R3 j
  unfolding put_changes put_path_header put_records
  behind v j l =
      le_outside (indices_writes (path_header_of t)) v j (put_counts (path_header_of t) R3) (inr (omega arith))
      ∙ le_outside (counts_writes (path_header_of t)) v j R3 (inr (omega arith))

  nodes-good : (i : ℕ) → i < N → GoodNode S (node_place E i)
  unfolding put_changes put_path_header put_records
  nodes-good i l =
      let a = h.room.path in
      let k = node_place E i in
      let e : node_place E 0 + 32 * i ≡ k = omega arith in
      let w : GoodNode R0 k = subst (λ (j : ℕ). GoodNode R0 j) e (each-good t.disp_path (node_place E 0) bs h.node (omega (arith, long)) i l) in
      good_past (indices_writes (path_header_of t)) (put_counts (path_header_of t) R3) k (inr (omega arith))
      (good_past (counts_writes (path_header_of t)) R3 k (inr (omega arith))
      (good_past (no_diverges_writes W t h.room) R2 k (inl (omega arith))
      (good_past (diverges_writes W t h.room) R1 k (inl (omega arith))
      (good_past (no-path_writes t h.room) R0 k (inl (omega arith)) w))))

  no_node : (j : ℕ) → j < 8 * (E - N) → le_at 4 S (node_place E N + 4 * j) ≡ 0
  no_node j l =
      let a = h.room.path in
      let k = node_place E N + 4 * j in
      behind 4 k (omega arith)
      ∙ (le_outside (no_diverges_writes W t h.room) 4 k R2 (inl (omega arith))
      ∙ (le_outside (diverges_writes W t h.room) 4 k R1 (inl (omega arith))
      ∙ zero_read (8 * (E - N)) (node_place E N) R0 (omega (arith, long, long0)) j l))

  -- the spare bytes of the diverge nodes
  spare_read : (x : DivergeNode) (k : ℕ) (cs : List ℕ) → k + diverge_size W ≤ length cs → GoodDiverge W (put_diverge W x k cs) k
  unfolding put_diverge
  spare_read x k cs l =
      let o = words-some W in
      le_put_same (2 * diverge_words W - 2) 0 (k + (2 * diverge_words W + 2)) _ (rw (length-put, length-put) (omega arith)) (pow_some (2 * diverge_words W - 2))

  spare_past : {a b : ℕ} {f : List ℕ → List ℕ} → Writes a b f → (cs : List ℕ) (k : ℕ) → (k + diverge_size W ≤ a) ⊎ (b ≤ k) → GoodDiverge W cs k → GoodDiverge W (f cs) k
  spare_past {a} {b} {f} wf cs k o q =
      let s = words-some W in
      le_outside wf (2 * diverge_words W - 2) (k + (2 * diverge_words W + 2)) cs (⊎_elim (λ (c : k + diverge_size W ≤ a). inl (omega arith)) (λ (c : b ≤ k). inr (omega arith)) o) ∙ q

  each_spare : (xs : List DivergeNode) (k : ℕ) (cs : List ℕ) → k + diverge_size W * length xs ≤ length cs → (i : ℕ) → i < length xs → GoodDiverge W (put_each (put_diverge W) (diverge_size W) xs k cs) (k + diverge_size W * i)
  unfolding put_each
  each_spare [] k cs l i m = absurd (omega arith)
  each_spare (x ∷ xs) k cs l zero m =
      let e : k + diverge_size W * 0 ≡ k = omega arith in
      rw e (spare_past (each_writes (put_diverge W) (diverge_size W) (diverge_writes W) xs (k + diverge_size W)) (put_diverge W x k cs) k (inl (omega arith)) (spare_read x k cs (omega arith)))
  each_spare (x ∷ xs) k cs l (suc i) m =
      let e : k + diverge_size W * suc i ≡ k + diverge_size W + diverge_size W * i = omega arith in
      rw e (each_spare xs (k + diverge_size W) (put_diverge W x k cs) (omega (arith, (diverge_writes W x k).long cs)) i (omega arith))

  diverges_good : (i : ℕ) → i < M → GoodDiverge W S (diverge_place W E i)
  unfolding put_changes put_path_header put_records
  diverges_good i l =
      let a = words_rise W M t.diverge_room h.room.diverge in
      let n = words-next W i M l in
      let k = diverge_place W E i in
      let e : diverge_place W E 0 + diverge_size W * i ≡ k = omega arith in
      let w : GoodDiverge W R2 k = subst (λ (j : ℕ). GoodDiverge W R2 j) e (each_spare t.div_nodes (diverge_place W E 0) R1 (omega (arith, long, long1)) i l) in
      spare_past (indices_writes (path_header_of t)) (put_counts (path_header_of t) R3) k (inr (omega arith))
      (spare_past (counts_writes (path_header_of t)) R3 k (inr (omega arith))
      (spare_past (no_diverges_writes W t h.room) R2 k (inl (omega arith)) w))

  no-diverge : (j : ℕ) → j < diverge_words W * (t.diverge_room - M) → le_at 4 S (diverge_place W E M + 4 * j) ≡ 0
  no-diverge j l =
      let a = words_left W M t.diverge_room h.room.diverge in
      behind 4 (diverge_place W E M + 4 * j) (omega arith) ∙ zero_read (diverge_words W * (t.diverge_room - M)) (diverge_place W E M) R2 (omega (arith, long, long2)) j l

  pub stored-good : GoodImage S
  stored-good =
      let e : est_count S ≡ E = e_same ∙ sym e_was in
      let q : diverge_room S ≡ t.diverge_room = q_same ∙ sym q_was in
      let same_size : image_size W (est_count bs) (diverge_room bs) ≡ image_size (is_wide S) (est_count S) (diverge_room S) = rw (w_same, e_same, q_same) in
      record {
        bytes = bytes-stored t bs g.bytes;
        size_is = kept 4 0 (inl (omega arith)) (inl (omega arith)) (omega arith) ∙ (g.size_is ∙ same_size);
        long = length-stored t bs ∙ (g.long ∙ same_size);
        est-offset = kept 4 20 (inr (omega arith)) (inl (omega arith)) (omega arith) ∙ g.est-offset;
        path-offset = kept 4 24 (inr (omega arith)) (inl (omega arith)) (omega arith) ∙ (g.path-offset ∙ ap (λ (x : ℕ). node_place x 0) (sym e_same));
        diverge-offset = kept 4 28 (inr (omega arith)) (inl (omega arith)) (omega arith) ∙ (g.diverge-offset ∙ ap diverge_offset (sym e_same));
        spare = width_same ∙ (g.spare ∙ ap wide_number (sym w_same));
        spare_rest = kept 4 44 (inr (omega arith)) (inr (omega arith)) (omega arith) ∙ g.spare_rest;
        few-path = omega (arith, n-is, e, h.room.path);
        few-diverge = omega (arith, m_is, q, h.room.diverge);
        search = subst Number (sym (kept 8 48 (inr (omega arith)) (inr (omega arith)) (omega arith))) g.search;
        fixed-max = subst Number (sym (kept 8 56 (inr (omega arith)) (inr (omega arith)) (omega arith))) g.fixed-max;
        est = λ i l.
            let w = g.est i (omega (arith, e_same)) in
            record {
              dist = subst Number (sym (kept 8 (est_place i) (inr (omega arith)) (inr (omega arith)) (omega (arith, e)))) w.dist;
              kind = omega (arith, kept 4 (est_place i + 28) (inr (omega arith)) (inr (omega arith)) (omega (arith, e)), w.kind);
            };
        node = λ i l. subst (λ (x : ℕ). GoodNode S (node_place x i)) (sym e) (nodes-good i (omega (arith, n-is)));
        no_node = λ j l. ap₂ (λ (x y : ℕ). le_at 4 S (node_place x y + 4 * j)) e n-is ∙ no_node j (omega (arith, e, n-is));
        diverge = λ i l. rw (w_same, e) (diverges_good i (omega (arith, m_is)));
        no-diverge = rw (w_same, e, m_is, q) no-diverge;
      }
