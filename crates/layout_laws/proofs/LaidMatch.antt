-- Images laid out from est records and orders that match, match. Assumes nothing.
use mathlib.Core.Path.{◌≡◌, refl, sym, ap, ap₂, subst, ◌∙◌}
use mathlib.Core.Logic.{◌⊎◌, inl, inr, ⊎_elim}
use mathlib.Core.Bool.{Bool, true, false, cond, not}
use mathlib.Core.List.{List, [], ◌∷◌, map}
use Prim.Native.Nat.{ℕ, zero, suc, ◌+◌, ◌*◌, ◌-◌, ◌%◌, ◌^◌, ◌≤◌, ◌<◌}
use native.Mathlib.Nat.{lt_of_le_of_lt}
use native.Mathlib.Omega.{arith}
use lib.Dec.{T, lit<}
use lib.Ieee.{binary64, fits, is_nan}
use lib.Ieee.Bits.{of_bits-fits}
use lib.Ieee.Fits.{add-fits, inf-fits}
use lib.ListN.{length, get_or, replicate, length-replicate, length-map}
use Rattle.link_rules.specs.Octets.{le_at, put_le}
use Rattle.link_rules.specs.Renumbering.{Renumbering}
use Rattle.link_rules.proofs.OctetLaws.{Bytes, le_lt, le_cong, le_past, length-put, le_put_same, le_put_other}
use Rattle.disp_structs.specs.Floats.{real_of}
use Rattle.disp_structs.specs.Values.{no_est, same_est, zero_metres}
use Rattle.disp_structs.specs.Renumbered.{r_est, r_node}
use Rattle.disp_structs.specs.declared.Metres.{Metres}
use Rattle.disp_structs.specs.declared.DispNode.{DispNode}
use Rattle.disp_structs.proofs.FloatLaws.{real_number, reach-number}
use Rattle.image.specs.Fields.{diverge_words}
use Rattle.image.specs.Image.{diverge_room, est_place, node_place, est_from, node_from, put_node}
use Rattle.image.specs.ImageMatch.{Renumbered, ImagesMatch}
use Rattle.image.proofs.Writers.{Writes, side, put_writes, each_writes, le_outside}
use Rattle.image.proofs.RecordLaws.{NodeHeld, node_writes}
use Rattle.image.proofs.Parts.{keep}
use Rattle.image.proofs.MatchLaws.{est_renumbered}
use Rattle.image.proofs.MatchEncoded.{match-outside, node-one, each_match, width}
use Rattle.train_disp.specs.TrainDisp.{new_node, offset_behind, walk_next, est_length, new_path, with_header, put_nodes, with_ends, laid_image, all_within}
use Rattle.train_disp.specs.declared.Settings.{Settings}
use Rattle.layout_laws.specs.LayOutMatch.{EstsMatch, r_settings}
use Rattle.layout_laws.proofs.LaidBase.{head_train, head_beside, based, based_long, based_head, based_est, based_zero, narrow_place, narrow-place}
use Rattle.train_disp.proofs.LayOutLaws.{SizesFit}
use Rattle.layout_laws.proofs.LaidBytes.{read, later, walk_all, all-within, laid-est-count, laid-narrow, few}

-- ---- numbers

-- the same bytes elsewhere
pub le_shift : (v : ℕ) (bs cs : List ℕ) (j k : ℕ) → ((i : ℕ) → i < v → get_or bs (j + i) 0 ≡ get_or cs (k + i) 0) → le_at v bs j ≡ le_at v cs k
unfolding le_at
le_shift zero bs cs j k h = refl
le_shift (suc v) bs cs j k h =
    let a : j + 0 ≡ j = omega arith in
    let b : k + 0 ≡ k = omega arith in
    ap₂ (λ (x y : ℕ). x + 256 * y) (rw (a, b) at (h 0 (omega arith)))
    (le_shift v bs cs (j + 1) (k + 1) (λ i l. let c : j + 1 + i ≡ j + suc i = omega arith in let e : k + 1 + i ≡ k + suc i = omega arith in rw (c, e) (h (suc i) (omega arith))))

pub le-zero : (v : ℕ) (bs : List ℕ) (j : ℕ) → ((i : ℕ) → j ≤ i → i < j + v → get_or bs i 0 ≡ 0) → le_at v bs j ≡ 0
le-zero v bs j h = le_cong v bs [] j h ∙ le_past v [] j (omega arith)

zeros_match : (p : ℕ → ℕ) → p 0 ≡ 0 → (bs bs' : List ℕ) (at w k v : ℕ) → k + v ≤ w → ((i : ℕ) → at ≤ i → get_or bs i 0 ≡ 0) → ((i : ℕ) → at ≤ i → get_or bs' i 0 ≡ 0)
    → Renumbered p bs bs' at w k v
zeros_match p p0 bs bs' at w k v f z z' =
    record {
      before = λ i l m. z' i (omega arith) ∙ sym (z i (omega arith));
      number = le-zero v bs' (at + k) (λ i l m. z' i (omega arith)) ∙ (sym p0 ∙ ap p (sym (le-zero v bs (at + k) (λ i l m. z i (omega arith)))));
      after = λ i l m. z' i (omega arith) ∙ sym (z i (omega arith));
    }

-- ---- the walk

module _ (p : ℕ → ℕ) (p0 : p 0 ≡ 0) (est est' : List ℕ) (m : EstsMatch p est est') (whole : length est % 32 ≡ 0) where
  -- a record behind the last is that of zero bytes in both
  every-est : (e : ℕ) → read est' e ≡ r_est p (read est e)
  unfolding est_from
  every-est e =
      ⊎_elim (λ (h : e < est_length est). est_renumbered p est est' (32 * e) (m.each e h))
      (λ (h : est_length est ≤ e).
      let l : length est ≤ 32 * e = omega (arith, whole) in
      let l' : length est' ≤ 32 * e = omega (arith, m.long) in
      rw (
        le_past 8 est (32 * e) (omega arith),
        le_past 8 est' (32 * e) (omega arith),
        le_past 4 est (32 * e + 8) (omega arith),
        le_past 4 est' (32 * e + 8) (omega arith),
        le_past 4 est (32 * e + 12) (omega arith),
        le_past 4 est' (32 * e + 12) (omega arith),
        le_past 4 est (32 * e + 16) (omega arith),
        le_past 4 est' (32 * e + 16) (omega arith),
        le_past 4 est (32 * e + 20) (omega arith),
        le_past 4 est' (32 * e + 20) (omega arith),
        le_past 4 est (32 * e + 24) (omega arith),
        le_past 4 est' (32 * e + 24) (omega arith),
        le_past 1 est (32 * e + 28) (omega arith),
        le_past 1 est' (32 * e + 28) (omega arith),
        p0,
      ))
      (side e (est_length est))

  walk_match : (sums : Bool) (k e : ℕ) (o : Metres) → walk_next sums est' k e o ≡ map (r_node p) (walk_next sums est k e o)
  unfolding walk_next offset_behind
  walk_match sums zero e o = refl
  walk_match sums (suc k) e o =
      rw (every-est e) (go (same_est (read est e).idx_next no_est) (walk_match sums k (read est e).idx_next.0 (offset_behind sums o (read est e))))
    where
      go : (t : Bool) → walk_next sums est' k (read est e).idx_next.0 (offset_behind sums o (read est e)) ≡ map (r_node p) (later sums est k e o)
          → new_node (r_est p (read est e)) e o ∷ cond t [] (walk_next sums est' k (read est e).idx_next.0 (offset_behind sums o (read est e))) ≡ map (r_node p) (new_node (read est e) e o ∷ cond t [] (later sums est k e o))
      go true h = refl
      go false h = ap (λ (ns : List DispNode). new_node (r_est p (read est e)) e o ∷ ns) h

  pub path_match : (sums : Bool) → new_path sums est' ≡ map (r_node p) (new_path sums est)
  path_match sums = rw m.long (walk_match sums (est_length est) 0 zero_metres)

-- ---- nodes that their bytes can hold

module _ (est : List ℕ) (b : Bytes est) where
  -- of a record number that four bytes hold, at a value of binary64
  held-node : (e : ℕ) (o : Metres) → e < 2 ^ 32 → T (fits binary64 o.0) → T (not (is_nan o.0)) → NodeHeld (new_node (read est e) e o)
  unfolding est_from is_nan
  held-node e o l f n =
      record {
        offset = record { holds = f; number = n };
        time = record { holds = inf-fits binary64 false; number = tt };
        link = le_lt 4 est (32 * e + 24) b;
        est = l;
        auth = lit< tt;
      }

  next_low : (e : ℕ) → (read est e).idx_next.0 < 2 ^ 32
  unfolding est_from
  next_low e = le_lt 4 est (32 * e + 8) b

  behind_holds : (sums : Bool) (e : ℕ) (o : Metres) → T (fits binary64 o.0) → T (fits binary64 (offset_behind sums o (read est e)).0)
  unfolding offset_behind
  behind_holds true e o f = add-fits binary64 o.0 (read est e).dist_to_next.0
  behind_holds false e o f = f

  -- no NaN among the offsets
  abbrev pub Numbers : Bool → Type 0
  Numbers sums = (i : ℕ) → i < length (new_path sums est) → T (not (is_nan (get_or (new_path sums est) i (node_from [] 0)).offset.0))

  pub held : (sums : Bool) → Numbers sums → (i : ℕ) → i < length (new_path sums est) → NodeHeld (get_or (new_path sums est) i (node_from [] 0))
  held sums r i l =
      walk_all sums est (λ x. T (not (is_nan x.offset.0)) → NodeHeld x) (λ e o. (e < 2 ^ 32) × T (fits binary64 o.0))
      (λ e o h n. held-node e o h.0 h.1 n) (λ e o h. (next_low e, behind_holds sums e o h.1)) (est_length est) 0 zero_metres (lit< tt, of_bits-fits binary64 0) i l (r i l)

  pub numbers_plain : Numbers false
  unfolding offset_behind real_of
  numbers_plain i l = walk_all false est (λ x. T (not (is_nan x.offset.0))) (λ e o. T (not (is_nan o.0))) (λ e o h. h) (λ e o h. h) (est_length est) 0 zero_metres (real_number 0) i l

  pub numbers-within : all_within (new_path true est) ≡ true → Numbers true
  numbers-within w i l = reach-number (get_or (new_path true est) i (node_from [] 0)).offset.0 (all-within (new_path true est) w i l)

-- ---- the images

module _ (p q : ℕ → ℕ) (top : ℕ) (est est' : List ℕ) (o : Settings) (size : ℕ) (rp : Renumbering (o.links - 1) p) (rq : Renumbering top q) (few-trains : top < 2 ^ 16)
    (b : Bytes est) (t : o.train_idx.0 < 2 ^ 16) (m : EstsMatch p est est') (z : SizesFit (length est) o size) (sums : Bool) (r : Numbers est b sums) where
  abbrev e : ℕ
  e = est_length est

  abbrev path : List DispNode
  path = new_path sums est

  abbrev n : ℕ
  n = length path

  abbrev base : List ℕ
  base = based e o est size

  abbrev base' : List ℕ
  base' = based e (r_settings q o) est' size

  abbrev nodes : List ℕ → List ℕ
  nodes = put_nodes path (node_place e 0)

  abbrev nodes' : List ℕ → List ℕ
  nodes' = put_nodes (map (r_node p) path) (node_place e 0)

  abbrev ends : List ℕ → List ℕ
  ends bs = put_le 2 n (narrow_place e 1 + 2) (put_le 4 n 8 bs)

  first-is : laid_image sums est o size ≡ ends (nodes base)
  unfolding laid_image with_ends diverge_words
  first-is = refl

  second_is : laid_image sums est' (r_settings q o) size ≡ ends (nodes' base')
  unfolding laid_image with_ends diverge_words
  second_is = rw (path_match p rp.zero_stays est est' m z.whole sums, m.long, length-map path (r_node p))

  room : 64 + length est ≤ size
  room = omega (arith, z.whole, z.size_is)

  room' : 64 + length est' ≤ size
  room' = omega (arith, m.long, room)

  few-nodes : n ≤ e
  few-nodes = few est o size z sums

  long : length base ≡ size
  long = based_long e o est size room

  long' : length base' ≡ size
  long' = based_long e (r_settings q o) est' size room'

  writes : Writes (node_place e 0) (node_place e 0 + 32 * n) nodes
  writes = each_writes put_node 32 node_writes path (node_place e 0)

  writes' : Writes (node_place e 0) (node_place e 0 + 32 * n) nodes'
  writes' = rw (length-map path (r_node p)) at (each_writes put_node 32 node_writes (map (r_node p) path) (node_place e 0))

  -- a byte outside of the path on which the first buffers agree
  outer : (i : ℕ) → (i < node_place e 0) ⊎ (node_place e 0 + 32 * n ≤ i) → i < size → get_or base' i 0 ≡ get_or base i 0 → get_or (ends (nodes' base')) i 0 ≡ get_or (ends (nodes base)) i 0
  outer i h l k =
      keep (put_writes 2 n (narrow_place e 1 + 2)) (put_le 4 n 8 (nodes' base')) (put_le 4 n 8 (nodes base))
      (length-put 4 n 8 (nodes' base') ∙ (same-long ∙ sym (length-put 4 n 8 (nodes base)))) i (omega (arith, length-put 4 n 8 (nodes' base'), writes'.long base', long'))
      (keep (put_writes 4 n 8) (nodes' base') (nodes base) same-long i (omega (arith, writes'.long base', long'))
      (writes'.outside base' i h ∙ (k ∙ sym (writes.outside base i h))))
    where
      same-long : length (nodes' base') ≡ length (nodes base)
      same-long = writes'.long base' ∙ (long' ∙ (sym long ∙ sym (writes.long base)))

  -- a number that the ends leave
  ends-number : (v j : ℕ) (bs : List ℕ) → 12 ≤ j → (j + v ≤ narrow_place e 1 + 2) ⊎ (narrow_place e 1 + 4 ≤ j) → le_at v (ends bs) j ≡ le_at v bs j
  ends-number v j bs h k =
      le_put_other v 2 n (narrow_place e 1 + 2) (put_le 4 n 8 bs) j (⊎_elim (λ (c : j + v ≤ narrow_place e 1 + 2). inl c) (λ (c : narrow_place e 1 + 4 ≤ j). inr (omega arith)) k)
      ∙ le_put_other v 4 n 8 bs j (inr (omega arith))

  -- a record between header and diverge nodes
  ends_match : (at w k v : ℕ) → k + v ≤ w → 64 ≤ at → at + w ≤ narrow_place e 0 → Renumbered p (nodes base) (nodes' base') at w k v → Renumbered p (ends (nodes base)) (ends (nodes' base')) at w k v
  ends_match at w k v f h l x =
      match-outside (put_writes 2 n (narrow_place e 1 + 2)) (put_writes 2 n (narrow_place e 1 + 2)) p (put_le 4 n 8 (nodes base)) (put_le 4 n 8 (nodes' base')) at w k v f (inl (omega arith)) (inl (omega arith))
      (match-outside (put_writes 4 n 8) (put_writes 4 n 8) p (nodes base) (nodes' base') at w k v f (inr (omega arith)) (inr (omega arith)) x)

  -- ---- the header

  head_same : (i : ℕ) → (i < 32) ⊎ (34 ≤ i) → i < 64 → get_or (ends (nodes' base')) i 0 ≡ get_or (ends (nodes base)) i 0
  head_same i h l =
      outer i (inl (omega arith)) (omega (arith, room))
      (based_head e (r_settings q o) est' size room' i l
      ∙ (sym (head_beside e o (replicate size 0) q i h (rw length-replicate (omega (arith, room)))) ∙ sym (based_head e o est size room i l)))

  train-is : le_at 2 (ends (nodes base)) 32 ≡ o.train_idx.0
  train-is =
      ends-number 2 32 (nodes base) (omega arith) (inl (omega arith))
      ∙ (le_outside writes 2 32 base (inl (omega arith))
      ∙ (le_cong 2 base (with_header e o (replicate size 0)) 32 (λ i x y. based_head e o est size room i (omega arith))
      ∙ head_train e o (replicate size 0) (rw length-replicate (omega (arith, room))) t))

  train_is' : le_at 2 (ends (nodes' base')) 32 ≡ q o.train_idx.0
  train_is' =
      ends-number 2 32 (nodes' base') (omega arith) (inl (omega arith))
      ∙ (le_outside writes' 2 32 base' (inl (omega arith))
      ∙ (le_cong 2 base' (with_header e (r_settings q o) (replicate size 0)) 32 (λ i x y. based_head e (r_settings q o) est' size room' i (omega arith))
      ∙ head_train e (r_settings q o) (replicate size 0) (rw length-replicate (omega (arith, room))) (width top (2 ^ 16) q rq few-trains o.train_idx.0 t)))

  header_match : Renumbered q (ends (nodes base)) (ends (nodes' base')) 0 64 32 2
  header_match =
      record {
        before = λ i l k. head_same i (inl (omega arith)) (omega arith);
        number = train_is' ∙ ap q (sym train-is);
        after = λ i l k. head_same i (inr (omega arith)) (omega arith);
      }

  -- ---- est records

  est_match : (i : ℕ) → i < e → Renumbered p (ends (nodes base)) (ends (nodes' base')) (est_place i) 32 24 4
  est_match i l =
      ends_match (est_place i) 32 24 4 (omega arith) (omega arith) (omega arith)
      (match-outside writes writes' p base base' (est_place i) 32 24 4 (omega arith) (inl (omega arith)) (inl (omega arith))
      (record {
        before = λ y a c. byte' y (omega arith) (omega arith) ∙ (x.before (y - 64) (omega arith) (omega arith) ∙ sym (byte y (omega arith) (omega arith)));
        number = number est' (r_settings q o) room' (omega (arith, m.long)) ∙ (x.number ∙ ap p (sym (number est o room (omega arith))));
        after = λ y a c. byte' y (omega arith) (omega arith) ∙ (x.after (y - 64) (omega arith) (omega arith) ∙ sym (byte y (omega arith) (omega arith)));
      }))
    where
      x : Renumbered p est est' (32 * i) 32 24 4
      x = m.each i l

      byte : (y : ℕ) → 64 ≤ y → y < 64 + length est → get_or base y 0 ≡ get_or est (y - 64) 0
      byte y a c = let k : 64 + (y - 64) ≡ y = omega arith in rw k at (based_est e o est size room (y - 64) (omega arith))

      byte' : (y : ℕ) → 64 ≤ y → y < 64 + length est → get_or base' y 0 ≡ get_or est' (y - 64) 0
      byte' y a c = let k : 64 + (y - 64) ≡ y = omega arith in rw k at (based_est e (r_settings q o) est' size room' (y - 64) (omega (arith, m.long)))

      number : (s : List ℕ) (u : Settings) (h : 64 + length s ≤ size) → 32 * i + 32 ≤ length s → le_at 4 (based e u s size) (est_place i + 24) ≡ le_at 4 s (32 * i + 24)
      number s u h k =
          le_shift 4 (based e u s size) s (est_place i + 24) (32 * i + 24)
          (λ j c. let g : est_place i + 24 + j ≡ 64 + (32 * i + 24 + j) = omega arith in rw g (based_est e u s size h (32 * i + 24 + j) (omega arith)))

  -- ---- path records, written and unused

  held' : (i : ℕ) → i < n → NodeHeld (r_node p (get_or path i (node_from [] 0)))
  held' i l =
      let h = held est b sums r i l in
      record {
        offset = h.offset;
        time = h.time;
        link = width (o.links - 1) (2 ^ 32) p rp (lt_of_le_of_lt links (lit< tt)) _ h.link;
        est = h.est;
        auth = h.auth;
      }
    where
      links : o.links - 1 ≤ 4000
      links = omega (arith, z.few-links)

  node_match : (i : ℕ) → i < e → Renumbered p (ends (nodes base)) (ends (nodes' base')) (node_place e i) 32 16 4
  node_match i l = ends_match (node_place e i) 32 16 4 (omega arith) (omega arith) (omega arith) (⊎_elim (λ (h : i < n). written h) (λ (h : n ≤ i). unused h) (side i n))
    where
      written : i < n → Renumbered p (nodes base) (nodes' base') (node_place e i) 32 16 4
      written h =
          let k : node_place e 0 + 32 * i ≡ node_place e i = omega arith in
          rw k at (each_match put_node (r_node p) 32 16 4 p NodeHeld (node_from [] 0) (omega arith) node_writes (λ at bs bs' y x. node-one p at bs bs' y x) path (node_place e 0) base base' (long ∙ sym long')
          (omega (arith, long, few-nodes, z.size_is)) (held est b sums r) held' i h)

      unused : n ≤ i → Renumbered p (nodes base) (nodes' base') (node_place e i) 32 16 4
      unused h =
          match-outside writes writes' p base base' (node_place e i) 32 16 4 (omega arith) (inr (omega arith)) (inr (omega arith))
          (zeros_match p rp.zero_stays base base' (node_place e i) 32 16 4 (omega arith) (λ y k. based_zero e o est size room y (omega (arith, z.whole)))
          (λ y k. based_zero e (r_settings q o) est' size room' y (omega (arith, z.whole, m.long))))

  -- ---- diverge records

  diverge-train : (s : List ℕ) (u : Settings) (h : 64 + length s ≤ size) → length s ≡ length est → (f : List ℕ → List ℕ) → Writes (node_place e 0) (node_place e 0 + 32 * n) f
      → (i : ℕ) → le_at 2 (ends (f (based e u s size))) (narrow_place e i) ≡ 0
  diverge-train s u h g f w i =
      ends-number 2 (narrow_place e i) (f (based e u s size)) (omega arith) (⊎_elim (λ (c : i < 2). inl (omega arith)) (λ (c : 2 ≤ i). inr (omega arith)) (side i 2))
      ∙ (le_outside w 2 (narrow_place e i) (based e u s size) (inr (omega (arith, few-nodes)))
      ∙ le-zero 2 (based e u s size) (narrow_place e i) (λ y k l. based_zero e u s size h y (omega (arith, z.whole, g))))

  diverge_match : (i : ℕ) → i < o.diverge_room → Renumbered q (ends (nodes base)) (ends (nodes' base')) (narrow_place e i) 4 0 2
  diverge_match i l =
      let k : narrow_place e i + 0 ≡ narrow_place e i = omega arith in
      record {
        before = λ y a c. absurd (omega arith);
        number = rw k (diverge-train est' (r_settings q o) room' m.long nodes' writes' i ∙ (sym rq.zero_stays ∙ ap q (sym (diverge-train est o room refl nodes writes i))));
        after = λ y a c. outer y (inr (omega (arith, few-nodes))) (omega (arith, z.size_is))
            (based_zero e (r_settings q o) est' size room' y (omega (arith, z.whole, m.long)) ∙ sym (based_zero e o est size room y (omega (arith, z.whole))));
      }

  -- ---- all

  room-is : diverge_room (laid_image sums est o size) ≡ o.diverge_room
  unfolding with_header
  room-is =
      rw first-is
      (ends-number 4 16 (nodes base) (omega arith) (inl (omega arith))
      ∙ (le_outside writes 4 16 base (inl (omega arith))
      ∙ (le_cong 4 base (with_header e o (replicate size 0)) 16 (λ i x y. based_head e o est size room i (omega arith))
      ∙ (le_put_other 4 4 _ 4 _ 16 (inr (omega arith)) ∙ le_put_other 4 8 _ 56 _ 16 (inl (omega arith)) ∙ le_put_other 4 8 _ 48 _ 16 (inl (omega arith)) ∙ le_put_other 4 2 _ 32 _ 16 (inl (omega arith))
      ∙ le_put_other 4 4 _ 28 _ 16 (inl (omega arith)) ∙ le_put_other 4 4 _ 24 _ 16 (inl (omega arith)) ∙ le_put_other 4 4 _ 20 _ 16 (inl (omega arith))
      ∙ le_put_same 4 o.diverge_room 16 _ (rw (length-put, length-put, length-replicate) (omega (arith, room))) (lt_of_le_of_lt z.few-room (lit< tt))))))

  pub laid_match : ImagesMatch p q (laid_image sums est o size) (laid_image sums est' (r_settings q o) size)
  unfolding diverge_words
  laid_match =
      record {
        long = rw (first-is, second_is) (same-long);
        header = rw (first-is, second_is) header_match;
        est = rw (laid-est-count est o size z sums, first-is, second_is) est_match;
        node = rw (laid-est-count est o size z sums, first-is, second_is) node_match;
        diverge = rw (laid-narrow est o size z sums, laid-est-count est o size z sums, room-is, first-is, second_is)
            (λ i l. subst (λ (at : ℕ). Renumbered q (ends (nodes base)) (ends (nodes' base')) at 4 0 2) (sym (narrow-place e i)) (diverge_match i l));
        rest = rw (laid-narrow est o size z sums, laid-est-count est o size z sums, room-is, first-is, second_is) (λ i l n. absurd (omega (arith, first-long, z.size_is)));
      }
    where
      same-long : length (ends (nodes' base')) ≡ length (ends (nodes base))
      same-long = rw (length-put, length-put, length-put, length-put, writes'.long base', writes.long base, long', long)

      first-long : length (ends (nodes base)) ≡ size
      first-long = rw (length-put, length-put, writes.long base) long
