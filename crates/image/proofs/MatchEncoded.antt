-- The encoding of a renumbered state matches the encoding of the state. Assumes nothing.
use mathlib.Core.Path.{◌≡◌, refl, sym, ap, ◌∙◌}
use mathlib.Core.Logic.{◌⊎◌, inl, inr, ⊎_elim}
use mathlib.Core.Bool.{Bool}
use mathlib.Core.List.{List, [], ◌∷◌, map}
use Prim.Native.Nat.{ℕ, zero, suc, ◌+◌, ◌*◌, ◌-◌, ◌^◌, ◌≤◌, ◌<◌}
use native.Mathlib.Omega.{arith}
use lib.ListN.{length, get_or, set, length-set, length-map, replicate, length-replicate}
use lib.Seq.{get_or-set_same}
use Rattle.link_rules.specs.Octets.{le_at, put_le}
use Rattle.link_rules.specs.Renumbering.{Renumbering}
use Rattle.link_rules.proofs.OctetLaws.{le_cong, le_past}
use Rattle.link_rules.proofs.RenumberingLaws.{within}
use Rattle.disp_structs.specs.Floats.{bits_of}
use Rattle.disp_structs.specs.Train.{Train}
use Rattle.disp_structs.specs.Renumbered.{r_est, r_node, r_div, r_train_disp}
use Rattle.disp_structs.specs.declared.EstTime.{EstTime}
use Rattle.disp_structs.specs.declared.DispNode.{DispNode}
use Rattle.disp_structs.specs.declared.DivergeNode.{DivergeNode}
use Rattle.image.specs.Fields.{train_field, diverge_words, diverge_size, diverge_train_field, field_bound}
use Rattle.image.specs.Image.{est_place, node_place, diverge_offset, diverge_place, zero_diverge, zero_words, type_number, est_from, node_from, diverge_from, put_est, put_node, put_diverge}
use Rattle.image.specs.Codec.{path_header_of, put_each, put_size, put_offsets, put_dists, put_records, encoded}
use Rattle.image.specs.declared.codec.PathHeader.{PathHeader}
use Rattle.image.specs.ImageMatch.{SameBytes, Renumbered, ImagesMatch}
use Rattle.image.proofs.WidthLaws.{words-some, words_rise, words-next, words_left}
use Rattle.image.proofs.Writers.{Writes, put-to, put_writes, zero_writes, then, side, each_writes, le_outside}
use Rattle.image.proofs.RecordLaws.{EstHeld, NodeHeld, DivergeHeld, est_writes, est_read, node_writes, node_read, diverge_writes, diverge_read}
use Rattle.image.proofs.Parts.{put_counts, put_indices, put_path, clear_path, put_diverges, clear_diverges, size, after_size, after_offsets, after_dists, after_ests, after_records, after_counts, after_indices, parts, keep, dists_writes, ests_writes, counts_writes, indices_writes, path_writes, no-path_writes, diverges_writes, no_diverges_writes, records_writes, long-offsets, long_dists, long-ests, long-records, long_indices}
use Rattle.image.proofs.CodecLaws.{Held, width_read, wide_is, e_is, room_read, train_read}

-- the renumbered state, shut: a field of it stays a field in what follows
r_state : (ℕ → ℕ) → (ℕ → ℕ) → Train → Train
r_state p q t = r_train_disp p q t

-- ---- a write elsewhere to both

module _ {a b a' b' : ℕ} {f g : List ℕ → List ℕ} (wf : Writes a b f) (wg : Writes a' b' g) where
  pub match-outside : (p : ℕ → ℕ) (bs bs' : List ℕ) (at w k v : ℕ) → k + v ≤ w → ((at + w ≤ a) ⊎ (b ≤ at)) → ((at + w ≤ a') ⊎ (b' ≤ at))
      → Renumbered p bs bs' at w k v → Renumbered p (f bs) (g bs') at w k v
  match-outside p bs bs' at w k v fit o o' m =
      record {
        before = λ i l h. wg.outside bs' i (off' i (omega arith) (omega arith)) ∙ (m.before i l h ∙ sym (wf.outside bs i (off i (omega arith) (omega arith))));
        number = le_outside wg v (at + k) bs' (⊎_elim (λ (s : at + w ≤ a'). inl (omega arith)) (λ (s : b' ≤ at). inr (omega arith)) o')
            ∙ (m.number ∙ ap p (sym (le_outside wf v (at + k) bs (⊎_elim (λ (s : at + w ≤ a). inl (omega arith)) (λ (s : b ≤ at). inr (omega arith)) o))));
        after = λ i l h. wg.outside bs' i (off' i (omega arith) (omega arith)) ∙ (m.after i l h ∙ sym (wf.outside bs i (off i (omega arith) (omega arith))));
      }
    where
      off : (i : ℕ) → at ≤ i → i < at + w → (i < a) ⊎ (b ≤ i)
      off i l h = ⊎_elim (λ (s : at + w ≤ a). inl (omega arith)) (λ (s : b ≤ at). inr (omega arith)) o

      off' : (i : ℕ) → at ≤ i → i < at + w → (i < a') ⊎ (b' ≤ i)
      off' i l h = ⊎_elim (λ (s : at + w ≤ a'). inl (omega arith)) (λ (s : b' ≤ at). inr (omega arith)) o'

-- ---- three writes in a row, of which the second differs

module _ {a b c d : ℕ} {f g g' h : List ℕ → List ℕ} (wf : Writes a b f) (wg : Writes b c g) (wg' : Writes b c g') (wh : Writes c d h)
    (bs bs' : List ℕ) (q : length bs ≡ length bs') (l : d ≤ length bs) (ab : a ≤ b) (bc : b ≤ c) (cd : c ≤ d) where
  first_part : SameBytes (h (g (f bs))) (h (g' (f bs'))) a b
  first_part i x y =
      wh.outside (g' (f bs')) i (inl (omega arith))
      ∙ (wg'.outside (f bs') i (inl y)
      ∙ (sym (wf.inside bs bs' q i x y (omega arith))
      ∙ (sym (wg.outside (f bs) i (inl y)) ∙ sym (wh.outside (g (f bs)) i (inl (omega arith))))))

  last-part : SameBytes (h (g (f bs))) (h (g' (f bs'))) c d
  last-part i x y = sym (wh.inside (g (f bs)) (g' (f bs')) (wg.long (f bs) ∙ (wf.long bs ∙ (q ∙ (sym (wf.long bs') ∙ sym (wg'.long (f bs')))))) i x y
      (omega (arith, wg.long (f bs), wf.long bs)))

-- ---- one record of each kind

module _ (p : ℕ → ℕ) (at : ℕ) (bs bs' : List ℕ) (q : length bs ≡ length bs') where
  est-one : (x : EstTime) → EstHeld x → EstHeld (r_est p x) → at + 32 ≤ length bs → Renumbered p (put_est x at bs) (put_est (r_est p x) at bs') at 32 24 4
  unfolding put_est est_from
  est-one x h h' l =
      let wf =
      then (then (then (then (put-to 8 (bits_of x.dist_to_next.0) at (at + 8) (omega arith)) (put-to 4 x.idx_next.0 (at + 8) (at + 12) (omega arith)) (omega arith) (omega arith))
      (put-to 4 x.idx_next_alt.0 (at + 12) (at + 16) (omega arith)) (omega arith) (omega arith))
      (put-to 4 x.idx_prev.0 (at + 16) (at + 20) (omega arith)) (omega arith) (omega arith))
      (put-to 4 x.idx_prev_alt.0 (at + 20) (at + 24) (omega arith)) (omega arith) (omega arith) in
      let wg = put-to 4 x.link_event.link_idx.0 (at + 24) (at + 28) (omega arith) in
      let wg' = put-to 4 (p x.link_event.link_idx.0) (at + 24) (at + 28) (omega arith) in
      let wh = put-to 4 (type_number x.link_event.est_type) (at + 28) (at + 32) (omega arith) in
      let e : at + 24 + 4 ≡ at + 28 = omega arith in
      record {
        before = first_part wf wg wg' wh bs bs' q l (omega arith) (omega arith) (omega arith);
        number = ap (λ (y : EstTime). y.link_event.link_idx.0) (est_read (r_est p x) at bs' h' (omega arith))
            ∙ ap p (sym (ap (λ (y : EstTime). y.link_event.link_idx.0) (est_read x at bs h l)));
        after = rw e (last-part wf wg wg' wh bs bs' q l (omega arith) (omega arith) (omega arith));
      }

  pub node-one : (x : DispNode) → NodeHeld x → NodeHeld (r_node p x) → at + 32 ≤ length bs → Renumbered p (put_node x at bs) (put_node (r_node p x) at bs') at 32 16 4
  unfolding put_node node_from
  node-one x h h' l =
      let wf = then (put-to 8 (bits_of x.offset.0) at (at + 8) (omega arith)) (put-to 8 (bits_of x.time_pass.0) (at + 8) (at + 16) (omega arith)) (omega arith) (omega arith) in
      let wg = put-to 4 x.link_event.link_idx.0 (at + 16) (at + 20) (omega arith) in
      let wg' = put-to 4 (p x.link_event.link_idx.0) (at + 16) (at + 20) (omega arith) in
      let wh =
      then (then (then (put-to 4 x.est_idx.0 (at + 20) (at + 24) (omega arith)) (put-to 2 x.disp_auth_idx_entry (at + 24) (at + 26) (omega arith)) (omega arith) (omega arith))
      (put-to 2 (type_number x.link_event.est_type) (at + 26) (at + 28) (omega arith)) (omega arith) (omega arith))
      (put-to 4 0 (at + 28) (at + 32) (omega arith)) (omega arith) (omega arith) in
      let e : at + 16 + 4 ≡ at + 20 = omega arith in
      record {
        before = first_part wf wg wg' wh bs bs' q l (omega arith) (omega arith) (omega arith);
        number = ap (λ (y : DispNode). y.link_event.link_idx.0) (node_read (r_node p x) at bs' h' (omega arith))
            ∙ ap p (sym (ap (λ (y : DispNode). y.link_event.link_idx.0) (node_read x at bs h l)));
        after = rw e (last-part wf wg wg' wh bs bs' q l (omega arith) (omega arith) (omega arith));
      }

  diverge-one : (wide : Bool) (x : DivergeNode) → DivergeHeld wide x → DivergeHeld wide (r_div p x) → at + diverge_size wide ≤ length bs
      → Renumbered p (put_diverge wide x at bs) (put_diverge wide (r_div p x) at bs') at (diverge_size wide) 0 (2 * diverge_words wide)
  unfolding put_diverge diverge_from
  diverge-one wide x h h' l =
      let k = diverge_words wide in
      let s = words-some wide in
      let wg = put-to (2 * k) x.train_idx.0 at (at + 2 * k) (omega arith) in
      let wg' = put-to (2 * k) (p x.train_idx.0) at (at + 2 * k) (omega arith) in
      let wh = then (put-to 2 x.disp_node_idx (at + 2 * k) (at + (2 * k + 2)) (omega arith)) (put-to (2 * k - 2) 0 (at + (2 * k + 2)) (at + diverge_size wide) (omega arith)) (omega arith) (omega arith) in
      let z : at + 0 ≡ at = omega arith in
      record {
        before = λ i s t. absurd (omega arith);
        number = rw z (ap (λ (y : DivergeNode). y.train_idx.0) (diverge_read wide (r_div p x) at bs' h' (omega arith))
            ∙ ap p (sym (ap (λ (y : DivergeNode). y.train_idx.0) (diverge_read wide x at bs h l))));
        after = rw z (λ i s t. sym (wh.inside (put_le (2 * k) x.train_idx.0 at bs) (put_le (2 * k) (p x.train_idx.0) at bs')
            (wg.long bs ∙ (q ∙ sym (wg'.long bs'))) i s t (omega (arith, wg.long bs))));
      }

-- ---- a row of records

module _ {A : Type 0} (put : A → ℕ → List ℕ → List ℕ) (r : A → A) (w k v : ℕ) (p : ℕ → ℕ) (Held : A → Type 0) (d : A) (fit : k + v ≤ w)
    (writes : (x : A) (at : ℕ) → Writes at (at + w) (put x at))
    (one : (at : ℕ) (bs bs' : List ℕ) → length bs ≡ length bs' → (x : A) → Held x → Held (r x) → at + w ≤ length bs → Renumbered p (put x at bs) (put (r x) at bs') at w k v) where
  pub each_match : (xs : List A) (at : ℕ) (bs bs' : List ℕ) → length bs ≡ length bs' → at + w * length xs ≤ length bs
      → ((i : ℕ) → i < length xs → Held (get_or xs i d)) → ((i : ℕ) → i < length xs → Held (r (get_or xs i d)))
      → (i : ℕ) → i < length xs → Renumbered p (put_each put w xs at bs) (put_each put w (map r xs) at bs') (at + w * i) w k v
  unfolding put_each
  each_match [] at bs bs' q l h h' i m = absurd (omega arith)
  each_match (x ∷ xs) at bs bs' q l h h' zero m =
      let e : at + w * 0 ≡ at = omega arith in
      rw e
      (match-outside (each_writes put w writes xs (at + w)) (each_writes put w writes (map r xs) (at + w)) p (put x at bs) (put (r x) at bs') at w k v fit
      (inl (omega arith)) (inl (omega arith)) (one at bs bs' q x (h 0 m) (h' 0 m) (omega arith)))
  each_match (x ∷ xs) at bs bs' q l h h' (suc i) m =
      let e : at + w * suc i ≡ at + w + w * i = omega arith in
      rw e
      (each_match xs (at + w) (put x at bs) (put (r x) at bs') ((writes x at).long bs ∙ (q ∙ sym ((writes (r x) at).long bs'))) (omega (arith, (writes x at).long bs))
      (λ j s. h (suc j) (omega arith)) (λ j s. h' (suc j) (omega arith)) i (omega arith))

-- ---- unused records

put_zero : (w at : ℕ) (bs : List ℕ) (i : ℕ) → at ≤ i → i < at + w → i < length bs → get_or (put_le w 0 at bs) i 0 ≡ 0
unfolding put_le
put_zero zero at bs i l h n = absurd (omega arith)
put_zero (suc w) at bs i l h n =
    ⊎_elim
    (λ (s : i < at + 1). let e : i ≡ at = omega arith in rw e ((put_writes w 0 (at + 1)).outside (set bs at 0) at (inl (omega arith)) ∙ get_or-set_same bs at 0 0 (omega arith)))
    (λ (s : at + 1 ≤ i). put_zero w (at + 1) (set bs at 0) i s (omega arith) (omega (arith, length-set bs at 0)))
    (side i (at + 1))

zero_bytes : (k at : ℕ) (bs : List ℕ) (i : ℕ) → at ≤ i → i < at + 4 * k → i < length bs → get_or (zero_words k at bs) i 0 ≡ 0
unfolding zero_words
zero_bytes zero at bs i l h n = absurd (omega arith)
zero_bytes (suc k) at bs i l h n =
    ⊎_elim
    (λ (s : i < at + 4 * k). (put_writes 4 0 (at + 4 * k)).outside (zero_words k at bs) i (inl s) ∙ zero_bytes k at bs i l s n)
    (λ (s : at + 4 * k ≤ i). put_zero 4 (at + 4 * k) (zero_words k at bs) i s (omega arith) (omega (arith, (zero_writes k at).long bs)))
    (side i (at + 4 * k))

zero_number : (k at : ℕ) (bs : List ℕ) (v j : ℕ) → at ≤ j → j + v ≤ at + 4 * k → j + v ≤ length bs → le_at v (zero_words k at bs) j ≡ 0
zero_number k at bs v j l h n = le_cong v (zero_words k at bs) [] j (λ i x y. zero_bytes k at bs i (omega arith) (omega arith) (omega arith)) ∙ le_past v [] j (omega arith)

zero_match : (p : ℕ → ℕ) → p 0 ≡ 0 → (n to : ℕ) (bs bs' : List ℕ) → length bs ≡ length bs' → (at w k v : ℕ) → k + v ≤ w → to ≤ at → at + w ≤ to + 4 * n → at + w ≤ length bs
    → Renumbered p (zero_words n to bs) (zero_words n to bs') at w k v
zero_match p z n to bs bs' q at w k v fit a b c =
    record {
      before = λ i x y. zero_bytes n to bs' i (omega arith) (omega arith) (omega arith) ∙ sym (zero_bytes n to bs i (omega arith) (omega arith) (omega arith));
      number = zero_number n to bs' v (at + k) (omega arith) (omega arith) (omega arith)
          ∙ (sym z ∙ ap p (sym (zero_number n to bs v (at + k) (omega arith) (omega arith) (omega arith))));
      after = λ i x y. zero_bytes n to bs' i (omega arith) (omega arith) (omega arith) ∙ sym (zero_bytes n to bs i (omega arith) (omega arith) (omega arith));
    }

-- ---- the whole image

get_d_map_in : {A : Type 0} (r : A → A) (xs : List A) (i : ℕ) (d : A) → i < length xs → get_or (map r xs) i d ≡ r (get_or xs i d)
get_d_map_in r [] i d h = absurd (omega arith)
get_d_map_in r (x ∷ xs) zero d h = refl
get_d_map_in r (x ∷ xs) (suc i) d h = get_d_map_in r xs i d (omega arith)

module _ (p q : ℕ → ℕ) (p0 : p 0 ≡ 0) (q0 : q 0 ≡ 0) (wide : Bool) (t : Train) (k : Held wide t) (k' : Held wide (r_state p q t)) (bs : List ℕ) (lb : length bs ≡ size wide t) where
  few-est : length (r_state p q t).est_times ≡ length t.est_times
  unfolding r_state
  few-est = length-map t.est_times (r_est p)

  few-path : length (r_state p q t).disp_path ≡ length t.disp_path
  unfolding r_state
  few-path = length-map t.disp_path (r_node p)

  few-divs : length (r_state p q t).div_nodes ≡ length t.div_nodes
  unfolding r_state
  few-divs = length-map t.div_nodes (r_div q)

  same-room : (r_state p q t).diverge_room ≡ t.diverge_room
  unfolding r_state
  same-room = refl

  size_same : size wide (r_state p q t) ≡ size wide t
  size_same = rw (few-est, same-room)

  header_is : path_header_of (r_state p q t) ≡ path_header_of t
  unfolding r_state
  header_is = rw (length-map t.disp_path (r_node p), length-map t.div_nodes (r_div q))

  -- the header, its train aside

  after_size_is : after_size wide (r_state p q t) bs ≡ after_size wide t bs
  unfolding put_size r_state
  after_size_is = rw (length-map t.est_times (r_est p))

  inner : List ℕ
  inner = put_le 4 (diverge_offset (length t.est_times)) 28 (put_le 4 (node_place (length t.est_times) 0) 24 (put_le 4 (est_place 0) 20 (put_le 4 t.diverge_room 16 (after_size wide t bs))))

  after_offsets_is : after_offsets wide (r_state p q t) bs ≡ put_le 2 (q t.train_idx.0) 32 inner
  unfolding put_offsets inner r_state
  after_offsets_is = rw (after_size_is, length-map t.est_times (r_est p))

  after_offsets_was : after_offsets wide t bs ≡ put_le 2 t.train_idx.0 32 inner
  unfolding put_offsets inner
  after_offsets_was = refl

  after_counts_is : after_counts wide (r_state p q t) bs ≡ put_counts (path_header_of t) (after_records wide (r_state p q t) bs)
  after_counts_is = ap (λ (h : PathHeader). put_counts h (after_records wide (r_state p q t) bs)) header_is

  after_indices_is : after_indices wide (r_state p q t) bs ≡ put_indices (path_header_of t) (put_counts (path_header_of t) (after_records wide (r_state p q t) bs))
  after_indices_is = ap (λ (h : PathHeader). put_indices h (put_counts h (after_records wide (r_state p q t) bs))) header_is

  train-is : (r_state p q t).train_idx.0 ≡ q t.train_idx.0
  unfolding r_state
  train-is = refl

  -- lengths of the two buffers
  offsets-long : length (after_offsets wide (r_state p q t) bs) ≡ length (after_offsets wide t bs)
  offsets-long = long-offsets wide (r_state p q t) k'.room bs ∙ sym (long-offsets wide t k.room bs)

  dists_long : length (after_dists wide (r_state p q t) bs) ≡ length (after_dists wide t bs)
  dists_long = long_dists wide (r_state p q t) k'.room bs ∙ sym (long_dists wide t k.room bs)

  ests-long : length (after_ests wide (r_state p q t) bs) ≡ length (after_ests wide t bs)
  ests-long = long-ests wide (r_state p q t) k'.room bs ∙ sym (long-ests wide t k.room bs)

  records-long : length (after_records wide (r_state p q t) bs) ≡ length (after_records wide t bs)
  records-long = long-records wide (r_state p q t) k'.room bs ∙ sym (long-records wide t k.room bs)

  module _ (i : ℕ) (o : (i < 32) ⊎ (34 ≤ i)) (l : i < 64) where
    offsets_byte : get_or (after_offsets wide (r_state p q t) bs) i 0 ≡ get_or (after_offsets wide t bs) i 0
    offsets_byte =
        ap (λ (x : List ℕ). get_or x i 0) after_offsets_is
        ∙ ((put-to 2 (q t.train_idx.0) 32 34 (omega arith)).outside inner i o
        ∙ (sym ((put-to 2 t.train_idx.0 32 34 (omega arith)).outside inner i o) ∙ sym (ap (λ (x : List ℕ). get_or x i 0) after_offsets_was)))

    dists_byte : get_or (after_dists wide (r_state p q t) bs) i 0 ≡ get_or (after_dists wide t bs) i 0
    unfolding put_dists r_state
    dists_byte = keep (dists_writes wide t) (after_offsets wide (r_state p q t) bs) (after_offsets wide t bs) offsets-long i (omega (arith, long-offsets wide (r_state p q t) k'.room bs)) offsets_byte

    ests_byte : get_or (after_ests wide (r_state p q t) bs) i 0 ≡ get_or (after_ests wide t bs) i 0
    ests_byte = (ests_writes (r_state p q t)).outside (after_dists wide (r_state p q t) bs) i (inl l) ∙ (dists_byte ∙ sym ((ests_writes t).outside (after_dists wide t bs) i (inl l)))

    records_byte : get_or (after_records wide (r_state p q t) bs) i 0 ≡ get_or (after_records wide t bs) i 0
    records_byte =
        (records_writes wide (r_state p q t) k'.room).outside (after_ests wide (r_state p q t) bs) i (inl (omega arith))
        ∙ (ests_byte ∙ sym ((records_writes wide t k.room).outside (after_ests wide t bs) i (inl (omega arith))))

    indices_byte : get_or (after_indices wide (r_state p q t) bs) i 0 ≡ get_or (after_indices wide t bs) i 0
    indices_byte =
        let n = (counts_writes (path_header_of t)).long (after_records wide (r_state p q t) bs) in
        let counts-byte = keep (counts_writes (path_header_of t)) (after_records wide (r_state p q t) bs) (after_records wide t bs) records-long i (omega (arith, long-records wide (r_state p q t) k'.room bs)) records_byte in
        ap (λ (x : List ℕ). get_or x i 0) after_indices_is
        ∙ keep (indices_writes (path_header_of t)) (put_counts (path_header_of t) (after_records wide (r_state p q t) bs)) (after_counts wide t bs) (n ∙ (records-long ∙ sym ((counts_writes (path_header_of t)).long (after_records wide t bs)))) i
        (omega (arith, long-records wide (r_state p q t) k'.room bs)) counts-byte

  header_match : Renumbered q (after_indices wide t bs) (after_indices wide (r_state p q t) bs) 0 64 32 2
  header_match =
      record {
        before = λ i x y. indices_byte i (inl y) (omega arith);
        number = train_read wide (r_state p q t) k' bs (lb ∙ sym size_same) ∙ (train-is ∙ ap q (sym (train_read wide t k bs lb)));
        after = λ i x y. indices_byte i (inr x) y;
      }

  -- a record behind the header stays as the header's numbers are written
  behind : (r : ℕ → ℕ) (at w j v : ℕ) → j + v ≤ w → 64 ≤ at → Renumbered r (after_records wide t bs) (after_records wide (r_state p q t) bs) at w j v → Renumbered r (after_indices wide t bs) (after_indices wide (r_state p q t) bs) at w j v
  behind r at w j v fit l m =
      match-outside (indices_writes (path_header_of t)) (indices_writes (path_header_of (r_state p q t))) r (after_counts wide t bs) (after_counts wide (r_state p q t) bs) at w j v fit (inr (omega arith)) (inr (omega arith))
      (match-outside (counts_writes (path_header_of t)) (counts_writes (path_header_of (r_state p q t))) r (after_records wide t bs) (after_records wide (r_state p q t) bs) at w j v fit (inr (omega arith)) (inr (omega arith)) m)

  -- the est records

  est-held : (i : ℕ) → i < length t.est_times → EstHeld (r_est p (get_or t.est_times i (est_from [] 0)))
  unfolding r_state
  est-held i l = rw (get_d_map_in (r_est p) t.est_times i (est_from [] 0) l) at (k'.est i (omega (arith, few-est)))

  est-row : (i : ℕ) → i < length t.est_times → Renumbered p (after_ests wide t bs) (after_ests wide (r_state p q t) bs) (64 + 32 * i) 32 24 4
  unfolding r_state
  est-row =
      each_match put_est (r_est p) 32 24 4 p EstHeld (est_from [] 0) (omega arith) est_writes (est-one p) t.est_times 64 (after_dists wide t bs) (after_dists wide (r_state p q t) bs) (sym dists_long)
      (omega (arith, long_dists wide t k.room bs)) k.est est-held

  est_matched : (i : ℕ) → i < length t.est_times → Renumbered p (after_indices wide t bs) (after_indices wide (r_state p q t) bs) (est_place i) 32 24 4
  est_matched i l =
      behind p (est_place i) 32 24 4 (omega arith) (omega arith)
      (match-outside (records_writes wide t k.room) (records_writes wide (r_state p q t) k'.room) p (after_ests wide t bs) (after_ests wide (r_state p q t) bs) (est_place i) 32 24 4 (omega arith)
      (inl (omega arith)) (inl (omega (arith, few-est))) (est-row i l))

  -- the path, the diverge nodes, and their unused records, with the lengths of the first

  path' : List ℕ
  path' = put_each put_node 32 (map (r_node p) t.disp_path) (node_place (length t.est_times) 0) (after_ests wide (r_state p q t) bs)

  divs' : List ℕ
  divs' = put_each (put_diverge wide) (diverge_size wide) (map (r_div q) t.div_nodes) (diverge_place wide (length t.est_times) 0) (clear_path t path')

  path'_writes : Writes (node_place (length t.est_times) 0) (node_place (length t.est_times) 0 + 32 * length (map (r_node p) t.disp_path))
      (put_each put_node 32 (map (r_node p) t.disp_path) (node_place (length t.est_times) 0))
  path'_writes = each_writes put_node 32 node_writes (map (r_node p) t.disp_path) (node_place (length t.est_times) 0)

  divs'_writes : Writes (diverge_place wide (length t.est_times) 0) (diverge_place wide (length t.est_times) 0 + diverge_size wide * length (map (r_div q) t.div_nodes))
      (put_each (put_diverge wide) (diverge_size wide) (map (r_div q) t.div_nodes) (diverge_place wide (length t.est_times) 0))
  divs'_writes = each_writes (put_diverge wide) (diverge_size wide) (diverge_writes wide) (map (r_div q) t.div_nodes) (diverge_place wide (length t.est_times) 0)

  after_records_is : after_records wide (r_state p q t) bs ≡ clear_diverges wide t divs'
  unfolding put_records r_state divs' path'
  after_records_is = rw (length-map t.est_times (r_est p), length-map t.disp_path (r_node p), length-map t.div_nodes (r_div q))

  after_records_was : after_records wide t bs ≡ clear_diverges wide t (put_diverges wide t (clear_path t (put_path t (after_ests wide t bs))))
  unfolding put_records
  after_records_was = refl

  l_path : length (put_path t (after_ests wide t bs)) ≡ size wide t
  l_path = (path_writes t k.room).long (after_ests wide t bs) ∙ (long-ests wide t k.room bs ∙ lb)

  l_path' : length path' ≡ size wide t
  unfolding path'
  l_path' = path'_writes.long (after_ests wide (r_state p q t) bs) ∙ (long-ests wide (r_state p q t) k'.room bs ∙ lb)

  l_clear : length (clear_path t (put_path t (after_ests wide t bs))) ≡ size wide t
  l_clear = (no-path_writes t k.room).long (put_path t (after_ests wide t bs)) ∙ l_path

  l_clear' : length (clear_path t path') ≡ size wide t
  l_clear' = (no-path_writes t k.room).long path' ∙ l_path'

  l_divs : length (put_diverges wide t (clear_path t (put_path t (after_ests wide t bs)))) ≡ size wide t
  l_divs = (diverges_writes wide t k.room).long (clear_path t (put_path t (after_ests wide t bs))) ∙ l_clear

  l_divs' : length divs' ≡ size wide t
  unfolding divs'
  l_divs' = divs'_writes.long (clear_path t path') ∙ l_clear'

  -- a record of the buffers before the unused diverge records, and before the diverge nodes
  before-unused : (r : ℕ → ℕ) (at w j v : ℕ) → j + v ≤ w → 64 ≤ at → at + w ≤ diverge_place wide (length t.est_times) (length t.div_nodes)
      → Renumbered r (put_diverges wide t (clear_path t (put_path t (after_ests wide t bs)))) divs' at w j v → Renumbered r (after_indices wide t bs) (after_indices wide (r_state p q t) bs) at w j v
  before-unused r at w j v fit l h m =
      behind r at w j v fit l
      (rw (after_records_was, after_records_is)
      (match-outside (no_diverges_writes wide t k.room) (no_diverges_writes wide t k.room) r (put_diverges wide t (clear_path t (put_path t (after_ests wide t bs)))) divs' at w j v fit (inl h) (inl h) m))

  before-divs : (at : ℕ) → 64 ≤ at → at + 32 ≤ diverge_place wide (length t.est_times) 0 → Renumbered p (clear_path t (put_path t (after_ests wide t bs))) (clear_path t path') at 32 16 4
      → Renumbered p (after_indices wide t bs) (after_indices wide (r_state p q t) bs) at 32 16 4
  unfolding divs'
  before-divs at l h m =
      before-unused p at 32 16 4 (omega arith) l (omega arith)
      (match-outside (diverges_writes wide t k.room) divs'_writes p (clear_path t (put_path t (after_ests wide t bs))) (clear_path t path') at 32 16 4 (omega arith) (inl (omega arith)) (inl (omega arith)) m)

  node-held : (i : ℕ) → i < length t.disp_path → NodeHeld (r_node p (get_or t.disp_path i (node_from [] 0)))
  unfolding r_state
  node-held i l = rw (get_d_map_in (r_node p) t.disp_path i (node_from [] 0) l) at (k'.node i (omega (arith, few-path)))

  node_row : (i : ℕ) → i < length t.disp_path → Renumbered p (put_path t (after_ests wide t bs)) path' (node_place (length t.est_times) 0 + 32 * i) 32 16 4
  unfolding path'
  node_row =
      let a = k.room.path in
      each_match put_node (r_node p) 32 16 4 p NodeHeld (node_from [] 0) (omega arith) node_writes (node-one p) t.disp_path (node_place (length t.est_times) 0)
      (after_ests wide t bs) (after_ests wide (r_state p q t) bs) (sym ests-long) (omega (arith, long-ests wide t k.room bs)) k.node node-held

  node_matched : (i : ℕ) → i < length t.est_times → Renumbered p (after_indices wide t bs) (after_indices wide (r_state p q t) bs) (node_place (length t.est_times) i) 32 16 4
  node_matched i l =
      let a = k.room.path in
      before-divs (node_place (length t.est_times) i) (omega arith) (omega arith)
      (⊎_elim
      (λ (h : i < length t.disp_path).
      let e : node_place (length t.est_times) i ≡ node_place (length t.est_times) 0 + 32 * i = omega arith in
      match-outside (no-path_writes t k.room) (no-path_writes t k.room) p (put_path t (after_ests wide t bs)) path' (node_place (length t.est_times) i) 32 16 4 (omega arith)
      (inl (omega arith)) (inl (omega arith)) (rw e (node_row i h)))
      (λ (h : length t.disp_path ≤ i).
      zero_match p p0 (8 * (length t.est_times - length t.disp_path)) (node_place (length t.est_times) (length t.disp_path)) (put_path t (after_ests wide t bs)) path'
      (l_path ∙ sym l_path') (node_place (length t.est_times) i) 32 16 4 (omega arith) (omega arith) (omega arith) (omega (arith, l_path)))
      (side i (length t.disp_path)))

  diverge-held : (i : ℕ) → i < length t.div_nodes → DivergeHeld wide (r_div q (get_or t.div_nodes i zero_diverge))
  unfolding r_state
  diverge-held i l = rw (get_d_map_in (r_div q) t.div_nodes i zero_diverge l) at (k'.diverge i (omega (arith, few-divs)))

  diverge-row : (i : ℕ) → i < length t.div_nodes
      → Renumbered q (put_diverges wide t (clear_path t (put_path t (after_ests wide t bs)))) divs' (diverge_place wide (length t.est_times) 0 + diverge_size wide * i) (diverge_size wide) 0 (2 * diverge_words wide)
  unfolding divs'
  diverge-row =
      let o = words-some wide in
      let a = words_rise wide (length t.div_nodes) t.diverge_room k.room.diverge in
      each_match (put_diverge wide) (r_div q) (diverge_size wide) 0 (2 * diverge_words wide) q (DivergeHeld wide) zero_diverge (omega arith) (diverge_writes wide) (λ at bs bs' l. diverge-one q at bs bs' l wide) t.div_nodes (diverge_place wide (length t.est_times) 0)
      (clear_path t (put_path t (after_ests wide t bs))) (clear_path t path') (l_clear ∙ sym l_clear') (omega (arith, l_clear)) k.diverge diverge-held

  diverge_matched : (i : ℕ) → i < t.diverge_room → Renumbered q (after_indices wide t bs) (after_indices wide (r_state p q t) bs) (diverge_place wide (length t.est_times) i) (diverge_size wide) 0 (2 * diverge_words wide)
  diverge_matched i l =
      ⊎_elim
      (λ (h : i < length t.div_nodes).
      let e : diverge_place wide (length t.est_times) i ≡ diverge_place wide (length t.est_times) 0 + diverge_size wide * i = omega arith in
      let n = words-next wide i (length t.div_nodes) h in
      let o = words-some wide in
      before-unused q (diverge_place wide (length t.est_times) i) (diverge_size wide) 0 (2 * diverge_words wide) (omega arith) (omega arith) (omega arith) (rw e (diverge-row i h)))
      (λ (h : length t.div_nodes ≤ i).
      let o = words-some wide in
      let r = words_rise wide (length t.div_nodes) i h in
      let n = words-next wide i t.diverge_room l in
      let f = words_left wide (length t.div_nodes) t.diverge_room k.room.diverge in
      behind q (diverge_place wide (length t.est_times) i) (diverge_size wide) 0 (2 * diverge_words wide) (omega arith) (omega arith)
      (rw (after_records_was, after_records_is)
      (zero_match q q0 (diverge_words wide * (t.diverge_room - length t.div_nodes)) (diverge_place wide (length t.est_times) (length t.div_nodes))
      (put_diverges wide t (clear_path t (put_path t (after_ests wide t bs)))) divs' (l_divs ∙ sym l_divs') (diverge_place wide (length t.est_times) i) (diverge_size wide) 0 (2 * diverge_words wide)
      (omega arith) (omega arith) (omega arith) (omega (arith, l_divs)))))
      (side i (length t.div_nodes))

  whole_match : ImagesMatch p q (after_indices wide t bs) (after_indices wide (r_state p q t) bs)
  whole_match =
      let e = e_is wide t k bs lb in
      let w = width_read wide (after_indices wide t bs) (wide_is wide t k bs lb) in
      record {
        long = long_indices wide (r_state p q t) k'.room bs ∙ sym (long_indices wide t k.room bs);
        header = header_match;
        est = λ i l. est_matched i (omega (arith, e));
        node = λ i l. rw e (node_matched i (omega (arith, e)));
        diverge = λ i l. rw (w, e) (diverge_matched i (omega (arith, room_read wide t k bs lb)));
        rest = rw (w, e, room_read wide t k bs lb) (λ i l n. absurd (omega (arith, long_indices wide t k.room bs, lb)));
      }

module _ (p q : ℕ → ℕ) (p0 : p 0 ≡ 0) (q0 : q 0 ≡ 0) (wide : Bool) (t : Train) (k : Held wide t) (k' : Held wide (r_state p q t)) where
  shut_match : ImagesMatch p q (encoded wide t) (encoded wide (r_state p q t))
  unfolding encoded
  shut_match =
      let z : List ℕ = replicate (size wide t) 0 in
      let n : length z ≡ size wide t = length-replicate (size wide t) 0 in
      rw (size_same p q p0 q0 wide t k k' z n, parts wide t z, parts wide (r_state p q t) z) (whole_match p q p0 q0 wide t k k' z n)

-- the encoding of the renumbered state matches
pub encoded_match : (p q : ℕ → ℕ) → p 0 ≡ 0 → q 0 ≡ 0 → (wide : Bool) (t : Train) → Held wide t → Held wide (r_train_disp p q t) → ImagesMatch p q (encoded wide t) (encoded wide (r_train_disp p q t))
unfolding r_state
encoded_match p q p0 q0 wide t k k' = shut_match p q p0 q0 wide t k k'

-- ---- a renumbered state can be held where the state can

-- a renumbering of numbers below b keeps them below b
pub width : (top b : ℕ) (p : ℕ → ℕ) → Renumbering top p → top < b → (a : ℕ) → a < b → p a < b
width top b p r h a l =
    ⊎_elim
    (λ (s : a < top + 1). omega (arith, within top p r a (omega arith)))
    (λ (s : top + 1 ≤ a). omega (arith, r.above_stays a (omega arith)))
    (side a (top + 1))

-- where the largest train fits a diverge record, and the renumbered train of the header its field
pub renumbered_held : (top top' : ℕ) (p q : ℕ → ℕ) → Renumbering top p → Renumbering top' q → top < 2 ^ 32 → (wide : Bool) → top' < field_bound (diverge_train_field wide)
    → (t : Train) → q t.train_idx.0 < field_bound train_field → Held wide t → Held wide (r_train_disp p q t)
renumbered_held top top' p q rp rq hp wide hq t own k =
    let ne = length-map t.est_times (r_est p) in
    let nn = length-map t.disp_path (r_node p) in
    let nm = length-map t.div_nodes (r_div q) in
    record {
      room = record { path = rw (nn, ne) k.room.path; diverge = rw nm k.room.diverge };
      few-est = rw ne k.few-est;
      few-room = k.few-room;
      est = λ i l. let h = k.est i (omega (arith, ne)) in rw (get_d_map_in (r_est p) t.est_times i (est_from [] 0) (omega (arith, ne)))
          (record { dist = h.dist; next = h.next; alt = h.alt; prev = h.prev; prev-alt = h.prev-alt; link = width top (2 ^ 32) p rp hp _ h.link });
      node = λ i l. let h = k.node i (omega (arith, nn)) in rw (get_d_map_in (r_node p) t.disp_path i (node_from [] 0) (omega (arith, nn)))
          (record { offset = h.offset; time = h.time; link = width top (2 ^ 32) p rp hp _ h.link; est = h.est; auth = h.auth });
      diverge = λ i l. let h = k.diverge i (omega (arith, nm)) in rw (get_d_map_in (r_div q) t.div_nodes i zero_diverge (omega (arith, nm)))
          (record { train = width top' (field_bound (diverge_train_field wide)) q rq hq _ h.train; node = h.node });
      fixed = k.fixed;
      free = k.free;
      front = k.front;
      back = k.back;
      train = own;
      search = k.search;
      fixed-max = k.fixed-max;
    }
