-- The bytes of a laid out image: its counts, and what the two ways of laying the path out have in common. Assumes nothing.
use mathlib.Core.Path.{◌≡◌, refl, sym, ap, ◌∙◌}
use mathlib.Core.Logic.{◌⊎◌, inl, inr, ⊎_elim}
use mathlib.Core.Bool.{Bool, true, false, cond}
use mathlib.Core.List.{List, [], ◌∷◌, map}
use Prim.Native.Nat.{ℕ, zero, suc, ◌+◌, ◌*◌, ◌%◌, ◌≤◌, ◌<◌}
use native.Mathlib.Nat.{lt_of_le_of_lt}
use native.Mathlib.Omega.{arith}
use lib.Dec.{T, eqb, lit<}
use lib.Ieee.{Float, binary64, fits}
use lib.Ieee.Bits.{of_bits-fits}
use lib.Ieee.Fits.{add-fits}
use lib.ListN.{length, get_or, replicate, length-replicate, length-map, get_or-eq_default}
use borrow.Author.Tests.{le-leb}
use Rattle.link_rules.specs.Octets.{le_at, put_le}
use Rattle.link_rules.proofs.OctetLaws.{length-put, get_d_put, le_put_same, le_put_other}
use Rattle.disp_structs.specs.Floats.{bits_of, in_reach}
use Rattle.disp_structs.specs.Values.{no_est, same_est, zero_metres, within}
use Rattle.disp_structs.specs.declared.Metres.{Metres}
use Rattle.disp_structs.specs.declared.EstTime.{EstTime}
use Rattle.disp_structs.specs.declared.DispNode.{DispNode}
use Rattle.disp_structs.proofs.FloatLaws.{bits_lt, bits-number, real_bits, reach-number}
use Rattle.image.specs.Fields.{diverge_words}
use Rattle.image.specs.Image.{est_count, path_count_of, is_wide, node_place, type_number, est_from, node_from, put_node}
use Rattle.image.specs.Codec.{put_each}
use Rattle.image.proofs.Writers.{Writes, side, then, put-to, put_writes, each_writes, le_outside}
use Rattle.image.proofs.RecordLaws.{Real, node_writes}
use Rattle.image.proofs.Parts.{keep}
use Rattle.image_fault.specs.ImageFault.{float_fits}
use Rattle.train_disp.specs.TrainDisp.{new_node, offset_behind, walk_next, est_length, new_path, put_nodes, with_ends, laid_image, all_within}
use Rattle.train_disp.specs.declared.Settings.{Settings}
use Rattle.train_disp.proofs.LayOutLaws.{count-written, walk_few, SizesFit}
use Rattle.layout_laws.proofs.LaidBase.{based, based_long, based_width, narrow_place}
use Rattle.layout_laws.proofs.OffsetsAside.{Aside, SameAside}

-- ---- a path without its offsets

abbrev pub plain : DispNode → DispNode
plain n =
    record {
      offset = zero_metres;
      time_pass = n.time_pass;
      link_event = n.link_event;
      est_idx = n.est_idx;
      disp_auth_idx_entry = n.disp_auth_idx_entry;
    }

-- the est record that a walk reads, and the nodes behind it
abbrev pub read : List ℕ → ℕ → EstTime
read est e = est_from est (32 * e)

abbrev pub later : Bool → List ℕ → ℕ → ℕ → Metres → List DispNode
later sums est k e o = walk_next sums est k (read est e).idx_next.0 (offset_behind sums o (read est e))

-- without sums the walk gives the same nodes with offsets 0
pub walk_plain : (est : List ℕ) (k e : ℕ) (o : Metres) → map plain (walk_next true est k e o) ≡ walk_next false est k e zero_metres
unfolding walk_next offset_behind
walk_plain est zero e o = refl
walk_plain est (suc k) e o = go (same_est (read est e).idx_next no_est) (walk_plain est k (read est e).idx_next.0 (offset_behind true o (read est e)))
  where
    go : (t : Bool) → map plain (later true est k e o) ≡ later false est k e zero_metres
        → map plain (new_node (read est e) e o ∷ cond t [] (later true est k e o)) ≡ new_node (read est e) e zero_metres ∷ cond t [] (later false est k e zero_metres)
    go true h = refl
    go false h = ap (λ (ns : List DispNode). new_node (read est e) e zero_metres ∷ ns) h

-- what each node of a walk has, where each record and offset that it comes to has Q
pub walk_all : (sums : Bool) (est : List ℕ) (P : DispNode → Type 0) (Q : ℕ → Metres → Type 0) → ((e : ℕ) (o : Metres) → Q e o → P (new_node (read est e) e o))
    → ((e : ℕ) (o : Metres) → Q e o → Q (read est e).idx_next.0 (offset_behind sums o (read est e)))
    → (k e : ℕ) (o : Metres) → Q e o → (i : ℕ) → i < length (walk_next sums est k e o) → P (get_or (walk_next sums est k e o) i (node_from [] 0))
unfolding walk_next
walk_all sums est P Q here on zero e o h i l = absurd (omega arith)
walk_all sums est P Q here on (suc k) e o h i l =
    go (same_est (read est e).idx_next no_est) (walk_all sums est P Q here on k (read est e).idx_next.0 (offset_behind sums o (read est e)) (on e o h)) i l
  where
    go : (t : Bool) → ((j : ℕ) → j < length (later sums est k e o) → P (get_or (later sums est k e o) j (node_from [] 0)))
        → (j : ℕ) → j < length (new_node (read est e) e o ∷ cond t [] (later sums est k e o)) → P (get_or (new_node (read est e) e o ∷ cond t [] (later sums est k e o)) j (node_from [] 0))
    go t r zero m = here e o h
    go true r (suc j) m = absurd (omega arith)
    go false r (suc j) m = r j (omega arith)

-- ---- one node's bytes: its offset, and the rest

abbrev behind : DispNode → ℕ → List ℕ → List ℕ
behind x at bs =
    put_le 4 0 (at + 28)
    (put_le 2 (type_number x.link_event.est_type) (at + 26)
    (put_le 2 x.disp_auth_idx_entry (at + 24)
    (put_le 4 x.est_idx.0 (at + 20)
    (put_le 4 x.link_event.link_idx.0 (at + 16)
    (put_le 8 (bits_of x.time_pass.0) (at + 8) bs)))))

behind_writes : (x : DispNode) (at : ℕ) → Writes (at + 8) (at + 32) (behind x at)
behind_writes x at =
    then (then (then (then (then (put-to 8 (bits_of x.time_pass.0) (at + 8) (at + 16) (omega arith))
    (put-to 4 x.link_event.link_idx.0 (at + 16) (at + 20) (omega arith)) (omega arith) (omega arith))
    (put-to 4 x.est_idx.0 (at + 20) (at + 24) (omega arith)) (omega arith) (omega arith))
    (put-to 2 x.disp_auth_idx_entry (at + 24) (at + 26) (omega arith)) (omega arith) (omega arith))
    (put-to 2 (type_number x.link_event.est_type) (at + 26) (at + 28) (omega arith)) (omega arith) (omega arith))
    (put-to 4 0 (at + 28) (at + 32) (omega arith)) (omega arith) (omega arith)

node-is : (x : DispNode) (at : ℕ) (bs : List ℕ) → put_node x at bs ≡ behind x at (put_le 8 (bits_of x.offset.0) at bs)
unfolding put_node
node-is x at bs = refl

-- beside its offset, a node without it has the same bytes
node_plain : (x : DispNode) (at : ℕ) (bs : List ℕ) (i : ℕ) → (i < at) ⊎ (at + 8 ≤ i) → i < length bs → get_or (put_node x at bs) i 0 ≡ get_or (put_node (plain x) at bs) i 0
node_plain x at bs i h l =
    ap (λ (ds : List ℕ). get_or ds i 0) (node-is x at bs)
    ∙ (keep (behind_writes x at) (put_le 8 (bits_of x.offset.0) at bs) (put_le 8 (bits_of zero_metres.0) at bs)
    (length-put 8 (bits_of x.offset.0) at bs ∙ sym (length-put 8 (bits_of zero_metres.0) at bs)) i (rw length-put l)
    ((put_writes 8 (bits_of x.offset.0) at).outside bs i h ∙ sym ((put_writes 8 (bits_of zero_metres.0) at).outside bs i h))
    ∙ sym (ap (λ (ds : List ℕ). get_or ds i 0) (node-is (plain x) at bs)))

offset_read : (x : DispNode) (at : ℕ) (bs : List ℕ) → Real x.offset.0 → at + 32 ≤ length bs → le_at 8 (put_node x at bs) (at + 0) ≡ bits_of x.offset.0
offset_read x at bs r l =
    let e : at + 0 ≡ at = omega arith in
    rw (e, node-is x at bs)
    (le_outside (behind_writes x at) 8 at (put_le 8 (bits_of x.offset.0) at bs) (inl (omega arith))
    ∙ le_put_same 8 (bits_of x.offset.0) at bs (omega arith) (bits_lt x.offset.0 r.holds r.number))

-- ---- a row of nodes

pub nodes_plain : (xs : List DispNode) (at : ℕ) (bs : List ℕ) (i : ℕ) → Aside (length xs) at i → i < length bs
    → get_or (put_nodes xs at bs) i 0 ≡ get_or (put_nodes (map plain xs) at bs) i 0
unfolding put_each
nodes_plain [] at bs i h l = refl
nodes_plain (x ∷ xs) at bs i h l =
    keep (each_writes put_node 32 node_writes xs (at + 32)) (put_node x at bs) (put_node (plain x) at bs)
    ((node_writes x at).long bs ∙ sym ((node_writes (plain x) at).long bs)) i (omega (arith, (node_writes x at).long bs))
    (node_plain x at bs i (⊎_elim (λ (a : i < at + 32 * 0). inl (omega arith)) (λ (a : at + 32 * 0 + 8 ≤ i). inr (omega arith)) (h 0 (omega arith))) l)
    ∙ nodes_plain xs (at + 32) (put_node (plain x) at bs) i
    (λ j r. ⊎_elim (λ (a : i < at + 32 * suc j). inl (omega arith)) (λ (a : at + 32 * suc j + 8 ≤ i). inr (omega arith)) (h (suc j) (omega arith)))
    (omega (arith, (node_writes (plain x) at).long bs))

-- a number in the v bytes from k of each record
pub nodes-number : (v k : ℕ) (number : DispNode → ℕ) (P : DispNode → Type 0) → ((x : DispNode) (at : ℕ) (bs : List ℕ) → P x → at + 32 ≤ length bs → le_at v (put_node x at bs) (at + k) ≡ number x)
    → k + v ≤ 32 → (xs : List DispNode) (at : ℕ) (bs : List ℕ) → ((i : ℕ) → i < length xs → P (get_or xs i (node_from [] 0))) → at + 32 * length xs ≤ length bs
    → (i : ℕ) → i < length xs → le_at v (put_nodes xs at bs) (at + 32 * i + k) ≡ number (get_or xs i (node_from [] 0))
unfolding put_each
nodes-number v k number P one w [] at bs h l i m = absurd (omega arith)
nodes-number v k number P one w (x ∷ xs) at bs h l zero m =
    let e : at + 32 * 0 + k ≡ at + k = omega arith in
    rw e (le_outside (each_writes put_node 32 node_writes xs (at + 32)) v (at + k) (put_node x at bs) (inl (omega arith)) ∙ one x at bs (h 0 m) (omega arith))
nodes-number v k number P one w (x ∷ xs) at bs h l (suc i) m =
    let e : at + 32 * suc i + k ≡ at + 32 + 32 * i + k = omega arith in
    rw e (nodes-number v k number P one w xs (at + 32) (put_node x at bs) (λ j r. h (suc j) (omega arith)) (omega (arith, (node_writes x at).long bs)) i (omega arith))

-- ---- offsets

split : (a b : Bool) → cond a b false ≡ true → (a ≡ true) × (b ≡ true)
split true b h = (refl, h)
split false b h = let z : ◌≡◌ {A = ℕ} 0 1 = cc in absurd (omega arith)

float_fits_lem : (x : Float) → Real x → in_reach x ≡ true → float_fits (bits_of x) ≡ true
unfolding float_fits
float_fits_lem x r h = rw (le-leb (bits_of x % 0x8000_0000_0000_0000) 0x7ff0_0000_0000_0000 (bits-number x r.holds r.number), real_bits x r.holds r.number, h)

real_offset : (x : DispNode) → T (fits binary64 x.offset.0) → within x.offset ≡ true → Real x.offset.0
real_offset x f h = record { holds = f; number = reach-number x.offset.0 h }

pub all-within : (xs : List DispNode) → all_within xs ≡ true → (i : ℕ) → i < length xs → within (get_or xs i (node_from [] 0)).offset ≡ true
unfolding all_within
all-within [] w i l = absurd (omega arith)
all-within (x ∷ xs) w zero l = (split (within x.offset) (all_within xs) w).0
all-within (x ∷ xs) w (suc i) l = all-within xs (split (within x.offset) (all_within xs) w).1 i (omega arith)

-- ---- the whole image

module _ (est : List ℕ) (o : Settings) (size : ℕ) (z : SizesFit (length est) o size) where
  abbrev e : ℕ
  e = est_length est

  abbrev base : List ℕ
  base = based e o est size

  base_long : length base ≡ size
  base_long = based_long e o est size (omega (arith, z.whole, z.size_is))

  module _ (sums : Bool) where
    abbrev path : List DispNode
    path = new_path sums est

    abbrev noded : List ℕ
    noded = put_nodes path (node_place e 0) base

    nodes_write : Writes (node_place e 0) (node_place e 0 + 32 * length path) (put_nodes path (node_place e 0))
    nodes_write = each_writes put_node 32 node_writes path (node_place e 0)

    pub few : length path ≤ e
    few = walk_few sums est e 0 zero_metres

    noded_long : length noded ≡ size
    noded_long = nodes_write.long base ∙ base_long

    pub laid-long : length (laid_image sums est o size) ≡ size
    unfolding laid_image with_ends diverge_words
    laid-long = length-put 2 (length path) (narrow_place e 1 + 2) _ ∙ (length-put 4 (length path) 8 noded ∙ noded_long)

    pub laid-est-count : est_count (laid_image sums est o size) ≡ e
    unfolding laid_image with_ends diverge_words
    laid-est-count =
        le_put_other 4 2 (length path) (narrow_place e 1 + 2) (put_le 4 (length path) 8 noded) 4 (inl (omega arith))
        ∙ (le_put_other 4 4 (length path) 8 noded 4 (inl (omega arith))
        ∙ (le_outside nodes_write 4 4 base (inl (omega arith))
        ∙ count-written est e o (replicate size 0) (rw length-replicate (omega (arith, z.size_is))) z.few-est))

    pub laid-path-count : path_count_of (laid_image sums est o size) ≡ length path
    unfolding laid_image with_ends diverge_words
    laid-path-count =
        le_put_other 4 2 (length path) (narrow_place e 1 + 2) (put_le 4 (length path) 8 noded) 8 (inl (omega arith))
        ∙ le_put_same 4 (length path) 8 noded (omega (arith, noded_long, z.size_is)) (lt_of_le_of_lt few (lt_of_le_of_lt z.few-est (lit< tt)))

    -- a narrow image
    pub laid-narrow : is_wide (laid_image sums est o size) ≡ false
    unfolding laid_image with_ends diverge_words is_wide le_at
    laid-narrow =
        let n = length path in
        let b : get_or (put_le 2 n (narrow_place e 1 + 2) (put_le 4 n 8 noded)) 42 0 ≡ 0 =
        get_d_put 2 n (narrow_place e 1 + 2) (put_le 4 n 8 noded) 42 (inl (omega arith))
        ∙ (get_d_put 4 n 8 noded 42 (inr (omega arith))
        ∙ (nodes_write.outside base 42 (inl (omega arith)) ∙ based_width e o est size (omega (arith, z.whole, z.size_is)))) in
        ap (λ (x : ℕ). eqb (x + 256 * 0) 1) b

  same_count : length (new_path false est) ≡ length (new_path true est)
  same_count = ap length (sym (walk_plain est e 0 zero_metres)) ∙ length-map (new_path true est) plain

  nodes-same : (i : ℕ) → Aside (length (new_path true est)) (node_place e 0) i → i < size → get_or (noded true) i 0 ≡ get_or (noded false) i 0
  nodes-same i h l =
      nodes_plain (new_path true est) (node_place e 0) base i h (omega (arith, base_long))
      ∙ ap (λ (ns : List DispNode). get_or (put_nodes ns (node_place e 0) base) i 0) (walk_plain est e 0 zero_metres)

  laid_same : (i : ℕ) → Aside (length (new_path true est)) (node_place e 0) i → i < size → get_or (laid_image true est o size) i 0 ≡ get_or (laid_image false est o size) i 0
  unfolding laid_image with_ends diverge_words
  laid_same i h l =
      let n = length (new_path true est) in
      rw same_count
      (keep (put_writes 2 n (narrow_place e 1 + 2)) (put_le 4 n 8 (noded true)) (put_le 4 n 8 (noded false))
      (length-put 4 n 8 (noded true) ∙ (noded_long true ∙ sym (length-put 4 n 8 (noded false) ∙ noded_long false))) i (omega (arith, length-put 4 n 8 (noded true), noded_long true))
      (keep (put_writes 4 n 8) (noded true) (noded false) (noded_long true ∙ sym (noded_long false)) i (omega (arith, noded_long true)) (nodes-same i h l)))

  past : (sums : Bool) (i : ℕ) → size ≤ i → get_or (laid_image sums est o size) i 0 ≡ 0
  past sums i l = get_or-eq_default (laid_image sums est o size) 0 (omega (arith, laid-long sums))

  offset-fits : all_within (new_path true est) ≡ true → (i : ℕ) → i < length (new_path true est) → float_fits (le_at 8 (laid_image true est o size) (node_place e i)) ≡ true
  unfolding laid_image with_ends diverge_words offset_behind
  offset-fits w i l =
      let path = new_path true est in
      let n = length path in
      let k = few true in
      let q : node_place e i ≡ node_place e 0 + 32 * i + 0 = omega arith in
      let holds = walk_all true est (λ x. T (fits binary64 x.offset.0)) (λ j y. T (fits binary64 y.0)) (λ j y h. h) (λ j y h. add-fits binary64 y.0 (read est j).dist_to_next.0) e 0 zero_metres (of_bits-fits binary64 0) in
      let real : (j : ℕ) → j < n → Real (get_or path j (node_from [] 0)).offset.0 = λ j m. real_offset (get_or path j (node_from [] 0)) (holds j m) (all-within path w j m) in
      rw (
        le_put_other 8 2 n (narrow_place e 1 + 2) (put_le 4 n 8 (noded true)) (node_place e i) (inl (omega arith)),
        le_put_other 8 4 n 8 (noded true) (node_place e i) (inr (omega arith)),
        q,
        nodes-number 8 0 (λ x. bits_of x.offset.0) (λ x. Real x.offset.0) offset_read (omega arith) path (node_place e 0) base real (omega (arith, base_long, z.size_is)) i l,
      )
      (float_fits_lem (get_or path i (node_from [] 0)).offset.0 (real i l) (all-within path w i l))

  -- the two images, if no offset is beyond reach
  pub laid_aside : all_within (new_path true est) ≡ true → SameAside (laid_image false est o size) (laid_image true est o size)
  laid_aside w =
      record {
        long = laid-long true ∙ sym (laid-long false);
        same = rw (laid-path-count false, laid-est-count false, same_count) (λ i h. ⊎_elim (λ (l : i < size). laid_same i h l) (λ (l : size ≤ i). past true i l ∙ sym (past false i l)) (side i size));
        offset = rw (laid-path-count false, laid-est-count false, same_count) (offset-fits w);
      }
