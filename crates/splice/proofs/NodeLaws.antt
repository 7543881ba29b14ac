-- A path node is its 32 bytes; what is read of an image after bytes of its path changed. Assumes nothing.
use mathlib.Core.Path.{◌≡◌, refl, sym, ap, ap₂, ◌∙◌}
use mathlib.Core.Logic.{◌⊎◌, inl, inr, ⊎_elim}
use mathlib.Core.Bool.{Bool, true, false, cond, not, ◌||◌}
use mathlib.Core.List.{List, [], ◌∷◌, ◌++◌}
use Prim.Native.Nat.{ℕ, zero, suc, ◌+◌, ◌*◌, ◌-◌, ◌≤◌, ◌<◌}
use native.Mathlib.Omega.{arith}
use native.Mathlib.Nat.{add-zero, add_assoc, eq-or-lt_of_le}
use lib.Dec.{T, ltb, eqb}
use lib.Ieee.{Float, binary64, fits, is_nan}
use lib.Ieee.Fits.{add-fits}
use lib.ListN.{length, get_or, take, drop}
use lib.Seq.{paste}
use borrow.Author.Tests.{ltb-true, ltb-false, lt-ltb, le-ltb, eq-eqb, ne_eqb}
use Rattle.link_rules.specs.Octets.{le_at, put_le}
use Rattle.link_rules.proofs.OctetLaws.{le_cong, le_add, le_put_same, le_put_other, get_d_put, length-put}
use Rattle.disp_structs.specs.Floats.{bits_of}
use Rattle.disp_structs.specs.Values.{plus, within, is_zero, is_never}
use Rattle.disp_structs.proofs.FloatLaws.{bits_lt, real_bits, reach-number}
use Rattle.disp_structs.specs.declared.Metres.{Metres}
use Rattle.disp_structs.specs.declared.EstType.{EstType}
use Rattle.disp_structs.specs.declared.EstType.TheVariants.{Arrive, Clear, Fake}
use Rattle.disp_structs.specs.declared.DispNode.{DispNode}
use Rattle.image.specs.Image.{est_count, node_place, est_place, est_at, node_at, node_from, est_from, type_of, type_number, put_node}
use Rattle.free_path.specs.Base.{Res, ok, no, ◌>>=◌, ◌>>◌, need, room, before}
use Rattle.disp_structs.specs.Listed.{listed}
use Rattle.disp_structs.proofs.ListedLaws.{listed-length, listed_at, listed-set}
use Rattle.update_definition.specs.Join.{shift_offsets, with_offset, free_is_correct}
use Rattle.splice.specs.Read.{Kept}
use Rattle.splice.specs.Parts.{from_on, Splices, Sound, put_offset}
use Rattle.splice.proofs.ListLaws.{listed_splice, from-turn, from-no, from_end, at-need, read_before}
use Rattle.splice.proofs.MoveLaws.{moved-size, moved_splice}

-- a number is its bytes, wherever they stand
le_moved : (v : ℕ) (bs cs : List ℕ) (j k : ℕ) → ((i : ℕ) → i < v → get_or bs (j + i) 0 ≡ get_or cs (k + i) 0) → le_at v bs j ≡ le_at v cs k
unfolding le_at
le_moved zero bs cs j k h = refl
le_moved (suc v) bs cs j k h =
    ap₂ (λ (a b : ℕ). a + 256 * b) (rw (add-zero, add-zero) at (h 0 (omega arith)))
    (le_moved v bs cs (j + 1) (k + 1) (λ i l. let x : j + 1 + i ≡ j + (i + 1) = omega arith in let y : k + 1 + i ≡ k + (i + 1) = omega arith in rw (x, y) (h (i + 1) (omega arith))))

-- a node is its 32 bytes, wherever they stand
module _ (bs cs : List ℕ) (j k : ℕ) (h : (i : ℕ) → i < 32 → get_or bs (j + i) 0 ≡ get_or cs (k + i) 0) where
  field : (v o : ℕ) → o + v ≤ 32 → le_at v bs (j + o) ≡ le_at v cs (k + o)
  field v o l = le_moved v bs cs (j + o) (k + o) (λ i m. rw (add_assoc, add_assoc) (h (o + i) (omega arith)))

  pub node-moved : node_from bs j ≡ node_from cs k
  unfolding node_from
  node-moved = rw (le_moved 8 bs cs j k (λ i l. h i (omega arith)), field 8 8 (omega arith), field 4 16 (omega arith), field 1 26 (omega arith), field 4 20 (omega arith), field 2 24 (omega arith))

-- ---- bytes before the path

module _ (img was : List ℕ) (k : Kept img was) where
  pub kept-le : (v at : ℕ) → at + v ≤ node_place (est_count was) 0 → le_at v img at ≡ le_at v was at
  kept-le v at h = le_cong v img was at (λ i l m. k.below i (omega arith))

  pub kept-count : est_count img ≡ est_count was
  kept-count = kept-le 4 4 (omega arith)

  pub kept-est : (i : ℕ) → i < est_count was → est_at img i ≡ est_at was i
  unfolding est_from
  kept-est i h =
      rw (
        kept-le 8 (est_place i) (omega arith),
        kept-le 4 (est_place i + 8) (omega arith),
        kept-le 4 (est_place i + 12) (omega arith),
        kept-le 4 (est_place i + 16) (omega arith),
        kept-le 4 (est_place i + 20) (omega arith),
        kept-le 4 (est_place i + 24) (omega arith),
        kept-le 1 (est_place i + 28) (omega arith),
      )

  -- a node whose bytes are the same
  pub kept-node : (j : ℕ) → ((b : ℕ) → b < 32 → get_or img (node_place (est_count was) j + b) 0 ≡ get_or was (node_place (est_count was) j + b) 0) → node_at img j ≡ node_at was j
  kept-node j h = ap (λ (e : ℕ). node_from img (node_place e j)) kept-count ∙ node-moved img was (node_place (est_count was) j) (node_place (est_count was) j) h

pub kept_then : (c b a : List ℕ) → Kept c b → Kept b a → Kept c a
kept_then c b a k l = record { size = k.size ∙ l.size; below = λ i h. k.below i (rw (kept-count b a l) h) ∙ l.below i h }

-- ---- bytes of one path record

order : (a b : ℕ) → (a ≡ b → ⊥) → (a < b) ⊎ (b < a)
order a b q = go (ltb a b) refl
  where
    go : (t : Bool) → ltb a b ≡ t → (a < b) ⊎ (b < a)
    go true k = inl (ltb-true a b k)
    go false k = ⊎_elim (λ e. absurd (q (sym e))) inr (eq-or-lt_of_le (ltb-false a b k))

-- the w bytes from record i's place on are not those of record j
apart : (e i j b w : ℕ) → (j ≡ i → ⊥) → b < 32 → w ≤ 32 → (node_place e j + b < node_place e i) ⊎ (node_place e i + w ≤ node_place e j + b)
apart e i j b w q h l = ⊎_elim (λ k. inl (omega arith)) (λ k. inr (omega arith)) (order j i q)

-- ---- an offset

offset_read : (bs : List ℕ) (o : Float) (p : ℕ) → p + 8 ≤ length bs → T (fits binary64 o) → T (not (is_nan o)) → node_from (put_le 8 (bits_of o) p bs) p ≡ with_offset (node_from bs p) (record { 0 = o })
unfolding node_from
offset_read bs o p l f n =
    rw (
      le_put_same 8 (bits_of o) p bs l (bits_lt o f n),
      real_bits o f n,
      le_put_other 8 8 (bits_of o) p bs (p + 8) (inr (omega arith)),
      le_put_other 4 8 (bits_of o) p bs (p + 16) (inr (omega arith)),
      le_put_other 1 8 (bits_of o) p bs (p + 26) (inr (omega arith)),
      le_put_other 4 8 (bits_of o) p bs (p + 20) (inr (omega arith)),
      le_put_other 2 8 (bits_of o) p bs (p + 24) (inr (omega arith)),
    )

module _ (bs : List ℕ) (o : Float) (i : ℕ) where
  pub offset-kept : Kept (put_offset o i bs) bs
  unfolding put_offset
  offset-kept =
      record {
        size = length-put 8 (bits_of o) (node_place (est_count bs) i) bs;
        below = λ j h. get_d_put 8 (bits_of o) (node_place (est_count bs) i) bs j (inl (omega arith));
      }

  offset-other : (j : ℕ) → (j ≡ i → ⊥) → node_at (put_offset o i bs) j ≡ node_at bs j
  unfolding put_offset
  offset-other j q =
      kept-node (put_offset o i bs) bs offset-kept j
      (λ b h. get_d_put 8 (bits_of o) (node_place (est_count bs) i) bs (node_place (est_count bs) j + b) (apart (est_count bs) i j b 8 q h (omega arith)))

  offset-same : node_place (est_count bs) (i + 1) ≤ length bs → T (fits binary64 o) → T (not (is_nan o)) → node_at (put_offset o i bs) i ≡ with_offset (node_at bs i) (record { 0 = o })
  unfolding put_offset
  offset-same l f n =
      ap (λ (e : ℕ). node_from (put_offset o i bs) (node_place e i)) (kept-count (put_offset o i bs) bs offset-kept)
      ∙ offset_read bs o (node_place (est_count bs) i) (omega arith) f n

module _ (change : Metres) where
  shift_one : DispNode → Res DispNode
  shift_one n = room (within (plus n.offset change)) >>= λ _. ok (with_offset n (plus n.offset change))

  none : shift_offsets change [] ≡ ok []
  unfolding shift_offsets
  none = refl

  more : (n : DispNode) (ns : List DispNode) → shift_offsets change (n ∷ ns) ≡ (shift_one n >>= λ y. shift_offsets change ns >>= λ ys. ok (y ∷ ys))
  unfolding shift_offsets shift_one
  more n ns = go (within (plus n.offset change))
    where
      go : (t : Bool) → (room t >>= λ _. shift_offsets change ns >>= λ ys. ok (with_offset n (plus n.offset change) ∷ ys)) ≡ ((room t >>= λ _. ok (with_offset n (plus n.offset change))) >>= λ z. shift_offsets change ns >>= λ ys. ok (z ∷ ys))
      go true = refl
      go false = refl

  module _ (bs : List ℕ) (n i : ℕ) where
    pub offsets-end : n ≤ i → from_on (shift_offsets change) i (listed n (node_at bs)) ≡ ok (listed n (node_at bs))
    offsets-end h = from_end (shift_offsets change) shift_one none more (listed n (node_at bs)) i (omega (arith, listed-length n (node_at bs)))

    pub offsets-no : i < n → within (plus (node_at bs i).offset change) ≡ false → from_on (shift_offsets change) i (listed n (node_at bs)) ≡ no 11
    unfolding shift_one
    offsets-no h e =
        from-no (shift_offsets change) shift_one none more (listed n (node_at bs)) i (node_at bs i) 11 (omega (arith, listed-length n (node_at bs)))
        (ap shift_one (listed_at n (node_at bs) i (node_at bs i) h) ∙ rw e)

    pub offsets-turn : i < n → node_place (est_count bs) n ≤ length bs → within (plus (node_at bs i).offset change) ≡ true
        → from_on (shift_offsets change) (i + 1) (listed n (node_at (put_offset (plus (node_at bs i).offset change).0 i bs))) ≡ from_on (shift_offsets change) i (listed n (node_at bs))
    unfolding shift_one
    offsets-turn h l e =
        let o : Float = (plus (node_at bs i).offset change).0 in
        let y : DispNode = with_offset (node_at bs i) (record { 0 = o }) in
        ap (from_on (shift_offsets change) (i + 1))
        (listed-set n (node_at bs) (node_at (put_offset o i bs)) i y h (λ j k q. offset-other bs o i j q)
        (offset-same bs o i (omega arith) (add-fits binary64 (node_at bs i).offset.0 change.0) (reach-number o e)))
        ∙ from-turn (shift_offsets change) shift_one none more (listed n (node_at bs)) i (node_at bs i) y (omega (arith, listed-length n (node_at bs)))
        (ap shift_one (listed_at n (node_at bs) i (node_at bs i) h) ∙ rw e)

-- ---- a whole node

type_back : (t : EstType) → type_of (type_number t) ≡ t
unfolding type_of
type_back Arrive = refl
type_back Clear = refl
type_back Fake = refl

type_small : (t : EstType) → type_number t ≤ 2
type_small Arrive = omega arith
type_small Clear = omega arith
type_small Fake = omega arith

low_octet : (bs : List ℕ) (p x : ℕ) → le_at 2 bs p ≡ x → x ≤ 2 → le_at 1 bs p ≡ x
low_octet bs p x e h = omega (arith, le_add 1 1 bs p)

module _ (x : DispNode) (p : ℕ) (bs : List ℕ) where
  byte_other : (i : ℕ) → (i < p) ⊎ (p + 32 ≤ i) → get_or (put_node x p bs) i 0 ≡ get_or bs i 0
  unfolding put_node
  byte_other i (inl h) =
      rw (
        get_d_put 4 0 (p + 28) _ i (inl (omega arith)),
        get_d_put 2 _ (p + 26) _ i (inl (omega arith)),
        get_d_put 2 _ (p + 24) _ i (inl (omega arith)),
        get_d_put 4 _ (p + 20) _ i (inl (omega arith)),
        get_d_put 4 _ (p + 16) _ i (inl (omega arith)),
        get_d_put 8 _ (p + 8) _ i (inl (omega arith)),
        get_d_put 8 _ p _ i (inl (omega arith)),
      )
  byte_other i (inr h) =
      rw (
        get_d_put 4 0 (p + 28) _ i (inr (omega arith)),
        get_d_put 2 _ (p + 26) _ i (inr (omega arith)),
        get_d_put 2 _ (p + 24) _ i (inr (omega arith)),
        get_d_put 4 _ (p + 20) _ i (inr (omega arith)),
        get_d_put 4 _ (p + 16) _ i (inr (omega arith)),
        get_d_put 8 _ (p + 8) _ i (inr (omega arith)),
        get_d_put 8 _ p _ i (inr (omega arith)),
      )

  node-size : length (put_node x p bs) ≡ length bs
  unfolding put_node
  node-size = simp length-put

  module _ (l : p + 32 ≤ length bs) (s : Sound x) where
    -- each number, past the writes behind it
    read_offset : le_at 8 (put_node x p bs) p ≡ bits_of x.offset.0
    unfolding put_node
    read_offset =
        rw (
          le_put_other 8 4 0 (p + 28) _ p (inl (omega arith)),
          le_put_other 8 2 _ (p + 26) _ p (inl (omega arith)),
          le_put_other 8 2 _ (p + 24) _ p (inl (omega arith)),
          le_put_other 8 4 _ (p + 20) _ p (inl (omega arith)),
          le_put_other 8 4 _ (p + 16) _ p (inl (omega arith)),
          le_put_other 8 8 _ (p + 8) _ p (inl (omega arith)),
        )
        (le_put_same 8 _ p _ (omega arith) (bits_lt x.offset.0 s.offset.0 s.offset.1))

    read_time : le_at 8 (put_node x p bs) (p + 8) ≡ bits_of x.time_pass.0
    unfolding put_node
    read_time =
        rw (
          le_put_other 8 4 0 (p + 28) _ (p + 8) (inl (omega arith)),
          le_put_other 8 2 _ (p + 26) _ (p + 8) (inl (omega arith)),
          le_put_other 8 2 _ (p + 24) _ (p + 8) (inl (omega arith)),
          le_put_other 8 4 _ (p + 20) _ (p + 8) (inl (omega arith)),
          le_put_other 8 4 _ (p + 16) _ (p + 8) (inl (omega arith)),
        )
        (le_put_same 8 _ (p + 8) _ (simp length-put (omega arith)) (bits_lt x.time_pass.0 s.time.0 s.time.1))

    read_link : le_at 4 (put_node x p bs) (p + 16) ≡ x.link_event.link_idx.0
    unfolding put_node
    read_link =
        rw (
          le_put_other 4 4 0 (p + 28) _ (p + 16) (inl (omega arith)),
          le_put_other 4 2 _ (p + 26) _ (p + 16) (inl (omega arith)),
          le_put_other 4 2 _ (p + 24) _ (p + 16) (inl (omega arith)),
          le_put_other 4 4 _ (p + 20) _ (p + 16) (inl (omega arith)),
        )
        (le_put_same 4 _ (p + 16) _ (simp length-put (omega arith)) s.link)

    read_est : le_at 4 (put_node x p bs) (p + 20) ≡ x.est_idx.0
    unfolding put_node
    read_est =
        rw (le_put_other 4 4 0 (p + 28) _ (p + 20) (inl (omega arith)), le_put_other 4 2 _ (p + 26) _ (p + 20) (inl (omega arith)), le_put_other 4 2 _ (p + 24) _ (p + 20) (inl (omega arith)))
        (le_put_same 4 _ (p + 20) _ (simp length-put (omega arith)) s.est)

    read_auth : le_at 2 (put_node x p bs) (p + 24) ≡ x.disp_auth_idx_entry
    unfolding put_node
    read_auth =
        rw (le_put_other 2 4 0 (p + 28) _ (p + 24) (inl (omega arith)), le_put_other 2 2 _ (p + 26) _ (p + 24) (inl (omega arith)))
        (le_put_same 2 _ (p + 24) _ (simp length-put (omega arith)) s.auth)

    read_type : le_at 2 (put_node x p bs) (p + 26) ≡ type_number x.link_event.est_type
    unfolding put_node
    read_type =
        rw (le_put_other 2 4 0 (p + 28) _ (p + 26) (inl (omega arith)))
        (le_put_same 2 _ (p + 26) _ (simp length-put (omega arith)) (omega (arith, type_small x.link_event.est_type)))

    node-back : node_from (put_node x p bs) p ≡ x
    unfolding node_from
    node-back =
        rw (
          read_offset,
          real_bits x.offset.0 s.offset.0 s.offset.1,
          read_time,
          real_bits x.time_pass.0 s.time.0 s.time.1,
          read_link,
          low_octet (put_node x p bs) (p + 26) (type_number x.link_event.est_type) read_type (type_small x.link_event.est_type),
          type_back x.link_event.est_type,
          read_est,
          read_auth,
        )

module _ (x : DispNode) (bs : List ℕ) (i : ℕ) where
  pub put-kept : Kept (put_node x (node_place (est_count bs) i) bs) bs
  put-kept = record { size = node-size x (node_place (est_count bs) i) bs; below = λ j h. byte_other x (node_place (est_count bs) i) bs j (inl (omega arith)) }

  pub put_other : (j : ℕ) → (j ≡ i → ⊥) → node_at (put_node x (node_place (est_count bs) i) bs) j ≡ node_at bs j
  put_other j q =
      kept-node (put_node x (node_place (est_count bs) i) bs) bs put-kept j
      (λ b h. byte_other x (node_place (est_count bs) i) bs (node_place (est_count bs) j + b) (apart (est_count bs) i j b 32 q h (omega arith)))

  pub put_same : node_place (est_count bs) (i + 1) ≤ length bs → Sound x → node_at (put_node x (node_place (est_count bs) i) bs) i ≡ x
  put_same l s =
      ap (λ (e : ℕ). node_from (put_node x (node_place (est_count bs) i) bs) (node_place e i)) (kept-count (put_node x (node_place (est_count bs) i) bs) bs put-kept)
      ∙ node-back x (node_place (est_count bs) i) bs (omega arith) s

-- ---- a splice of paths, from one of their bytes

module _ (img fresh img1 : List ℕ) (n split base k : ℕ) (a : split ≤ base) (b : base ≤ n)
    (s : Splices (λ i. get_or img1 i 0) (λ i. get_or img i 0) (λ i. get_or fresh (node_place (est_count fresh) 0 + i) 0) (node_place (est_count img) split) (32 * k) (node_place (est_count img) base) (node_place (est_count img) n))
    (z : length img1 ≡ length img) where
  pub splice_kept : Kept img1 img
  splice_kept = record { size = z; below = λ i h. s.first i (omega arith) }

  read : (cs : List ℕ) (j q : ℕ) → ((i : ℕ) → i < 32 → get_or img1 (node_place (est_count img) j + i) 0 ≡ get_or cs (q + i) 0) → node_at img1 j ≡ node_from cs q
  read cs j q h = ap (λ (e : ℕ). node_from img1 (node_place e j)) (kept-count img1 img splice_kept) ∙ node-moved img1 cs (node_place (est_count img) j) q h

  pub splice_nodes : listed (split + k + (n - base)) (node_at img1) ≡ take split (listed n (node_at img)) ++ listed k (node_at fresh) ++ drop base (listed n (node_at img))
  splice_nodes =
      listed_splice (node_at img1) (node_at img) (node_at fresh) split k base n
      (record {
        first = λ j h. read img j (node_place (est_count img) j) (λ i l. s.first (node_place (est_count img) j + i) (omega arith));
        new = λ j h. read fresh (split + j) (node_place (est_count fresh) j) (λ i l.
            let x : node_place (est_count img) (split + j) + i ≡ node_place (est_count img) split + (32 * j + i) = omega arith in
            let y : node_place (est_count fresh) 0 + (32 * j + i) ≡ node_place (est_count fresh) j + i = omega arith in
            ap (λ (m : ℕ). get_or img1 m 0) x ∙ s.new (32 * j + i) (omega arith) ∙ ap (λ (m : ℕ). get_or fresh m 0) y);
        rest = λ j h. read img (split + k + j) (node_place (est_count img) (base + j)) (λ i l.
            let x : node_place (est_count img) (split + k + j) + i ≡ node_place (est_count img) split + 32 * k + (32 * j + i) = omega arith in
            let y : node_place (est_count img) base + (32 * j + i) ≡ node_place (est_count img) (base + j) + i = omega arith in
            ap (λ (m : ℕ). get_or img1 m 0) x ∙ s.rest (32 * j + i) (omega arith) ∙ ap (λ (m : ℕ). get_or img m 0) y);
      })
      (omega arith) b

pub kept_eq : (a b c : List ℕ) → a ≡ b → Kept b c → Kept a c
kept_eq a b c e k = rw e k

-- the bytes of a move and a copy: the old path's rest goes to its new place, and the new path behind the split
module _ (img fresh img1 img2 : List ℕ) (n split base k p r s : ℕ) (a : split ≤ base) (b : base ≤ n) (l : node_place (est_count img) n ≤ length img)
    (m : node_place (est_count img) (split + k + (n - base)) ≤ length img) (o : node_place (est_count fresh) k ≤ length fresh)
    (ep : p ≡ node_place (est_count img) 0) (er : r ≡ node_place (est_count fresh) 0) (es : s ≡ node_place (est_count img) split)
    (e : img1 ≡ paste img (p + 32 * (split + k)) (drop (p + 32 * base) img) (32 * (n - base))) (f : img2 ≡ paste img1 s (drop r fresh) (32 * k)) where
  abbrev A : ℕ
  A = node_place (est_count img) split

  abbrev B : ℕ
  B = node_place (est_count fresh) 0

  abbrev K : ℕ
  K = node_place (est_count img) base

  abbrev M : ℕ
  M = node_place (est_count img) n

  tail : img1 ≡ paste img (A + 32 * k) (drop K img) (M - K)
  tail =
      let x : p + 32 * (split + k) ≡ A + 32 * k = omega arith in
      let y : p + 32 * base ≡ K = omega arith in
      let z : 32 * (n - base) ≡ M - K = omega arith in
      e ∙ ap₂ (λ (g h : ℕ). paste img g (drop h img) (32 * (n - base))) x y ∙ ap (λ (g : ℕ). paste img (A + 32 * k) (drop K img) g) z

  front : img2 ≡ paste img1 A (drop B fresh) (32 * k)
  front = f ∙ ap₂ (λ (g h : ℕ). paste img1 g (drop h fresh) (32 * k)) es er

  pub path-size : length img2 ≡ length img
  path-size = moved-size img fresh img1 img2 A B (32 * k) K M (omega arith) l (omega arith) (omega arith) tail front

  pub path_bytes : Splices (λ i. get_or img2 i 0) (λ i. get_or img i 0) (λ i. get_or fresh (node_place (est_count fresh) 0 + i) 0) (node_place (est_count img) split) (32 * k) (node_place (est_count img) base) (node_place (est_count img) n)
  path_bytes = moved_splice img fresh img1 img2 A B (32 * k) K M (omega arith) l (omega arith) (omega arith) tail front

-- ---- the begin of the free path

module _ (f : ℕ → DispNode) (n free : ℕ) where
  behind : Res (Unit {0})
  behind = before (listed n f) free >>= λ m. need (is_zero m.offset || not (is_never m.time_pass))

  free-is : free_is_correct (listed n f) free ≡ (need (ltb free n) >> (need (is_never (f free).time_pass) >> cond (eqb free 0) (ok tt) behind))
  unfolding free_is_correct behind
  free-is = at-need n f free (λ x. need (is_never x.time_pass) >> cond (eqb free 0) (ok tt) behind)

  pub free_out : n ≤ free → no 13 ≡ free_is_correct (listed n f) free
  free_out h = rw (free-is, le-ltb free n h)

  module _ (h : free < n) where
    pub free-passed : is_never (f free).time_pass ≡ false → no 13 ≡ free_is_correct (listed n f) free
    free-passed a = rw (free-is, lt-ltb free n h, a)

    module _ (a : is_never (f free).time_pass ≡ true) where
      pub free-first : free ≡ 0 → ok tt ≡ free_is_correct (listed n f) free
      free-first z = rw (free-is, lt-ltb free n h, a, eq-eqb free 0 z)

      module _ (q : free ≡ 0 → ⊥) where
        after : need (is_zero (f (free - 1)).offset || not (is_never (f (free - 1)).time_pass)) ≡ free_is_correct (listed n f) free
        unfolding behind
        after = rw (free-is, lt-ltb free n h, a, ne_eqb free 0 q) (read_before n f free (λ m. need (is_zero m.offset || not (is_never m.time_pass))) q (omega arith))

        pub free_zero : is_zero (f (free - 1)).offset ≡ true → ok tt ≡ free_is_correct (listed n f) free
        free_zero z = ap (λ t. need (t || not (is_never (f (free - 1)).time_pass))) (sym z) ∙ after

        module _ (z : is_zero (f (free - 1)).offset ≡ false) where
          pub free_late : (t : Bool) → is_never (f (free - 1)).time_pass ≡ t → need (not t) ≡ free_is_correct (listed n f) free
          free_late t e = ap₂ (λ (s u : Bool). need (s || not u)) (sym z) (sym e) ∙ after
