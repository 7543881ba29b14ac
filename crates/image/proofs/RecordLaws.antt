-- One record of each kind: where it is written, what it reads, and its round trips. Assumes nothing.
use mathlib.Core.Path.{◌≡◌, refl, sym, ap, ◌∙◌}
use mathlib.Core.Logic.{inl}
use mathlib.Core.Bool.{Bool, not}
use mathlib.Core.List.{List}
use Prim.Native.Nat.{ℕ, zero, suc, ◌+◌, ◌*◌, ◌-◌, ◌/◌, ◌%◌, ◌^◌, ◌≤◌, ◌<◌}
use native.Mathlib.Omega.{arith}
use lib.Dec.{T, lit<}
use lib.Ieee.{Float, binary64, fits, is_nan}
use lib.ListN.{length, get_or}
use Rattle.link_rules.specs.Octets.{le_at, put_le}
use Rattle.link_rules.proofs.OctetLaws.{Bytes, le_lt, le_cong, le_put_same, le_put_other, length-put, put-le, put-add}
use Rattle.disp_structs.specs.Floats.{bits_of}
use Rattle.disp_structs.specs.declared.EstType.{EstType}
use Rattle.disp_structs.specs.declared.EstType.TheVariants.{Arrive, Clear, Fake}
use Rattle.disp_structs.specs.declared.EstTime.{EstTime}
use Rattle.disp_structs.specs.declared.DispNode.{DispNode}
use Rattle.disp_structs.specs.declared.DivergeNode.{DivergeNode}
use Rattle.disp_structs.proofs.FloatLaws.{bits_real, bits_lt, real_bits}
use Rattle.image.specs.Fields.{diverge_words, diverge_size, diverge_train_field, diverge_spare_field, field_bound, read_in}
use Rattle.image.specs.Image.{est_count, est_place, node_place, type_of, type_number, est_from, node_from, diverge_from, est_at, node_at, zero_est, zero_node, whole_est, whole_node, put_est, put_node, put_diverge}
use borrow.Author.Tests.{le-ltb, lt-ltb}
use Rattle.image.proofs.WidthLaws.{words-some}
use Rattle.image.proofs.Writers.{Writes, put-to, then}

-- ---- records within an image

module _ (bs : List ℕ) (i : ℕ) where
  pub whole-est : est_place i + 32 ≤ length bs → whole_est bs i ≡ est_at bs i
  unfolding whole_est
  whole-est h = rw (le-ltb (length bs) (est_place i + 32) h)

  pub whole_est_past : length bs < est_place i + 32 → whole_est bs i ≡ zero_est
  unfolding whole_est
  whole_est_past h = rw (lt-ltb (length bs) (est_place i + 32) h)

  pub whole-node : node_place (est_count bs) i + 32 ≤ length bs → whole_node bs i ≡ node_at bs i
  unfolding whole_node
  whole-node h = rw (le-ltb (length bs) (node_place (est_count bs) i + 32) h)

  pub whole_node_past : length bs < node_place (est_count bs) i + 32 → whole_node bs i ≡ zero_node
  unfolding whole_node
  whole_node_past h = rw (lt-ltb (length bs) (node_place (est_count bs) i + 32) h)

-- ---- floats

-- the pattern of no NaN
abbrev pub Number : ℕ → Type 0
Number b = b % 0x8000_0000_0000_0000 ≤ 0x7ff0_0000_0000_0000

-- a value of binary64 that is no NaN
pub record Real (x : Float) : Type 0 where
  pub holds : T (fits binary64 x)
  pub number : T (not (is_nan x))

-- ---- types

type_back : (t : ℕ) → t ≤ 2 → type_number (type_of t) ≡ t
unfolding type_of
type_back zero h = refl
type_back (suc zero) h = refl
type_back (suc (suc zero)) h = refl
type_back (suc (suc (suc t))) h = absurd (omega arith)

type_same : (t : EstType) → type_of (type_number t) ≡ t
unfolding type_of
type_same Arrive = refl
type_same Clear = refl
type_same Fake = refl

type_lt : (t : EstType) → type_number t < 256 ^ 1
type_lt Arrive = lit< tt
type_lt Clear = lit< tt
type_lt Fake = lit< tt

-- the low byte of a number that is at most 2
low_byte : (w : ℕ) (bs : List ℕ) (at : ℕ) → Bytes bs → le_at (suc w) bs at ≤ 2 → le_at 1 bs at ≡ le_at (suc w) bs at
unfolding le_at
low_byte w bs at b h = omega (arith, b at)

-- a type in the low byte of w + 1
type_read : (w at : ℕ) (bs : List ℕ) (t : EstType) → at + 1 ≤ length bs → le_at 1 (put_le (suc w) (type_number t) at bs) at ≡ type_number t
type_read w at bs t l =
    let e : suc w ≡ 1 + w = omega arith in
    rw (e, put-add 1 w (type_number t) at bs, le_put_other 1 w (type_number t / 256 ^ 1) (at + 1) (put_le 1 (type_number t) at bs) at (inl (omega arith)))
    (le_put_same 1 (type_number t) at bs l (type_lt t))

-- ---- est records

pub est_writes : (x : EstTime) (at : ℕ) → Writes at (at + 32) (put_est x at)
unfolding put_est
est_writes x at =
    then (then (then (then (then (then (put-to 8 (bits_of x.dist_to_next.0) at (at + 8) (omega arith)) (put-to 4 x.idx_next.0 (at + 8) (at + 12) (omega arith)) (omega arith) (omega arith)) (put-to 4 x.idx_next_alt.0 (at + 12) (at + 16) (omega arith)) (omega arith) (omega arith)) (put-to 4 x.idx_prev.0 (at + 16) (at + 20) (omega arith)) (omega arith) (omega arith)) (put-to 4 x.idx_prev_alt.0 (at + 20) (at + 24) (omega arith)) (omega arith) (omega arith)) (put-to 4 x.link_event.link_idx.0 (at + 24) (at + 28) (omega arith)) (omega arith) (omega arith)) (put-to 4 (type_number x.link_event.est_type) (at + 28) (at + 32) (omega arith)) (omega arith) (omega arith)

pub est_cong : (bs cs : List ℕ) (at : ℕ) → ((i : ℕ) → at ≤ i → i < at + 32 → get_or bs i 0 ≡ get_or cs i 0) → est_from bs at ≡ est_from cs at
unfolding est_from
est_cong bs cs at h =
    rw (
      le_cong 8 bs cs at (λ i l m. h i (omega arith) (omega arith)),
      le_cong 4 bs cs (at + 8) (λ i l m. h i (omega arith) (omega arith)),
      le_cong 4 bs cs (at + 12) (λ i l m. h i (omega arith) (omega arith)),
      le_cong 4 bs cs (at + 16) (λ i l m. h i (omega arith) (omega arith)),
      le_cong 4 bs cs (at + 20) (λ i l m. h i (omega arith) (omega arith)),
      le_cong 4 bs cs (at + 24) (λ i l m. h i (omega arith) (omega arith)),
      le_cong 1 bs cs (at + 28) (λ i l m. h i (omega arith) (omega arith)),
    )

-- an est record that its 32 bytes can hold
pub record EstHeld (x : EstTime) : Type 0 where
  pub dist : Real x.dist_to_next.0
  pub next : x.idx_next.0 < 2 ^ 32
  pub alt : x.idx_next_alt.0 < 2 ^ 32
  pub prev : x.idx_prev.0 < 2 ^ 32
  pub prev-alt : x.idx_prev_alt.0 < 2 ^ 32
  pub link : x.link_event.link_idx.0 < 2 ^ 32

pub est_read : (x : EstTime) (at : ℕ) (bs : List ℕ) → EstHeld x → at + 32 ≤ length bs → est_from (put_est x at bs) at ≡ x
unfolding est_from put_est
est_read x at bs k l =
    let b1 = put_le 8 (bits_of x.dist_to_next.0) at bs in
    let l1 : length b1 ≡ length bs = length-put 8 (bits_of x.dist_to_next.0) at bs in
    let b2 = put_le 4 x.idx_next.0 (at + 8) b1 in
    let l2 : length b2 ≡ length bs = length-put 4 x.idx_next.0 (at + 8) b1 ∙ l1 in
    let b3 = put_le 4 x.idx_next_alt.0 (at + 12) b2 in
    let l3 : length b3 ≡ length bs = length-put 4 x.idx_next_alt.0 (at + 12) b2 ∙ l2 in
    let b4 = put_le 4 x.idx_prev.0 (at + 16) b3 in
    let l4 : length b4 ≡ length bs = length-put 4 x.idx_prev.0 (at + 16) b3 ∙ l3 in
    let b5 = put_le 4 x.idx_prev_alt.0 (at + 20) b4 in
    let l5 : length b5 ≡ length bs = length-put 4 x.idx_prev_alt.0 (at + 20) b4 ∙ l4 in
    let b6 = put_le 4 x.link_event.link_idx.0 (at + 24) b5 in
    let l6 : length b6 ≡ length bs = length-put 4 x.link_event.link_idx.0 (at + 24) b5 ∙ l5 in
    let b7 = put_le 4 (type_number x.link_event.est_type) (at + 28) b6 in
    let f1 : le_at 8 b7 at ≡ (bits_of x.dist_to_next.0) = le_put_other 8 4 (type_number x.link_event.est_type) (at + 28) b6 at (inl (omega arith)) ∙ (le_put_other 8 4 x.link_event.link_idx.0 (at + 24) b5 at (inl (omega arith)) ∙ (le_put_other 8 4 x.idx_prev_alt.0 (at + 20) b4 at (inl (omega arith)) ∙ (le_put_other 8 4 x.idx_prev.0 (at + 16) b3 at (inl (omega arith)) ∙ (le_put_other 8 4 x.idx_next_alt.0 (at + 12) b2 at (inl (omega arith)) ∙ (le_put_other 8 4 x.idx_next.0 (at + 8) b1 at (inl (omega arith)) ∙ (le_put_same 8 (bits_of x.dist_to_next.0) at bs (omega arith) (bits_lt x.dist_to_next.0 k.dist.holds k.dist.number))))))) in
    let f2 : le_at 4 b7 (at + 8) ≡ x.idx_next.0 = le_put_other 4 4 (type_number x.link_event.est_type) (at + 28) b6 (at + 8) (inl (omega arith)) ∙ (le_put_other 4 4 x.link_event.link_idx.0 (at + 24) b5 (at + 8) (inl (omega arith)) ∙ (le_put_other 4 4 x.idx_prev_alt.0 (at + 20) b4 (at + 8) (inl (omega arith)) ∙ (le_put_other 4 4 x.idx_prev.0 (at + 16) b3 (at + 8) (inl (omega arith)) ∙ (le_put_other 4 4 x.idx_next_alt.0 (at + 12) b2 (at + 8) (inl (omega arith)) ∙ (le_put_same 4 x.idx_next.0 (at + 8) b1 (omega arith) k.next))))) in
    let f3 : le_at 4 b7 (at + 12) ≡ x.idx_next_alt.0 = le_put_other 4 4 (type_number x.link_event.est_type) (at + 28) b6 (at + 12) (inl (omega arith)) ∙ (le_put_other 4 4 x.link_event.link_idx.0 (at + 24) b5 (at + 12) (inl (omega arith)) ∙ (le_put_other 4 4 x.idx_prev_alt.0 (at + 20) b4 (at + 12) (inl (omega arith)) ∙ (le_put_other 4 4 x.idx_prev.0 (at + 16) b3 (at + 12) (inl (omega arith)) ∙ (le_put_same 4 x.idx_next_alt.0 (at + 12) b2 (omega arith) k.alt)))) in
    let f4 : le_at 4 b7 (at + 16) ≡ x.idx_prev.0 = le_put_other 4 4 (type_number x.link_event.est_type) (at + 28) b6 (at + 16) (inl (omega arith)) ∙ (le_put_other 4 4 x.link_event.link_idx.0 (at + 24) b5 (at + 16) (inl (omega arith)) ∙ (le_put_other 4 4 x.idx_prev_alt.0 (at + 20) b4 (at + 16) (inl (omega arith)) ∙ (le_put_same 4 x.idx_prev.0 (at + 16) b3 (omega arith) k.prev))) in
    let f5 : le_at 4 b7 (at + 20) ≡ x.idx_prev_alt.0 = le_put_other 4 4 (type_number x.link_event.est_type) (at + 28) b6 (at + 20) (inl (omega arith)) ∙ (le_put_other 4 4 x.link_event.link_idx.0 (at + 24) b5 (at + 20) (inl (omega arith)) ∙ (le_put_same 4 x.idx_prev_alt.0 (at + 20) b4 (omega arith) k.prev-alt)) in
    let f6 : le_at 4 b7 (at + 24) ≡ x.link_event.link_idx.0 = le_put_other 4 4 (type_number x.link_event.est_type) (at + 28) b6 (at + 24) (inl (omega arith)) ∙ (le_put_same 4 x.link_event.link_idx.0 (at + 24) b5 (omega arith) k.link) in
    let f7 : le_at 1 b7 (at + 28) ≡ (type_number x.link_event.est_type) = type_read 3 (at + 28) b6 x.link_event.est_type (omega arith) in
    rw (f1, f2, f3, f4, f5, f6, f7, real_bits x.dist_to_next.0 k.dist.holds k.dist.number, type_same x.link_event.est_type)

-- bytes that are those of an est record
pub record GoodEst (bs : List ℕ) (at : ℕ) : Type 0 where
  pub dist : Number (le_at 8 bs at)
  pub kind : le_at 4 bs (at + 28) ≤ 2

pub est-back : (bs : List ℕ) (at : ℕ) → Bytes bs → GoodEst bs at → put_est (est_from bs at) at bs ≡ bs
unfolding est_from put_est
est-back bs at b g =
    rw (
      bits_real (le_at 8 bs at) (le_lt 8 bs at b) g.dist,
      put-le 8 at bs b,
      put-le 4 (at + 8) bs b,
      put-le 4 (at + 12) bs b,
      put-le 4 (at + 16) bs b,
      put-le 4 (at + 20) bs b,
      put-le 4 (at + 24) bs b,
      low_byte 3 bs (at + 28) b g.kind,
      type_back (le_at 4 bs (at + 28)) g.kind,
    )
    (put-le 4 (at + 28) bs b)

-- ---- path records

pub node_writes : (x : DispNode) (at : ℕ) → Writes at (at + 32) (put_node x at)
unfolding put_node
node_writes x at =
    then (then (then (then (then (then (put-to 8 (bits_of x.offset.0) at (at + 8) (omega arith)) (put-to 8 (bits_of x.time_pass.0) (at + 8) (at + 16) (omega arith)) (omega arith) (omega arith)) (put-to 4 x.link_event.link_idx.0 (at + 16) (at + 20) (omega arith)) (omega arith) (omega arith)) (put-to 4 x.est_idx.0 (at + 20) (at + 24) (omega arith)) (omega arith) (omega arith)) (put-to 2 x.disp_auth_idx_entry (at + 24) (at + 26) (omega arith)) (omega arith) (omega arith)) (put-to 2 (type_number x.link_event.est_type) (at + 26) (at + 28) (omega arith)) (omega arith) (omega arith)) (put-to 4 0 (at + 28) (at + 32) (omega arith)) (omega arith) (omega arith)

pub node_cong : (bs cs : List ℕ) (at : ℕ) → ((i : ℕ) → at ≤ i → i < at + 32 → get_or bs i 0 ≡ get_or cs i 0) → node_from bs at ≡ node_from cs at
unfolding node_from
node_cong bs cs at h =
    rw (
      le_cong 8 bs cs at (λ i l m. h i (omega arith) (omega arith)),
      le_cong 8 bs cs (at + 8) (λ i l m. h i (omega arith) (omega arith)),
      le_cong 4 bs cs (at + 16) (λ i l m. h i (omega arith) (omega arith)),
      le_cong 4 bs cs (at + 20) (λ i l m. h i (omega arith) (omega arith)),
      le_cong 2 bs cs (at + 24) (λ i l m. h i (omega arith) (omega arith)),
      le_cong 1 bs cs (at + 26) (λ i l m. h i (omega arith) (omega arith)),
    )

pub record NodeHeld (x : DispNode) : Type 0 where
  pub offset : Real x.offset.0
  pub time : Real x.time_pass.0
  pub link : x.link_event.link_idx.0 < 2 ^ 32
  pub est : x.est_idx.0 < 2 ^ 32
  pub auth : x.disp_auth_idx_entry < 2 ^ 16

pub node_read : (x : DispNode) (at : ℕ) (bs : List ℕ) → NodeHeld x → at + 32 ≤ length bs → node_from (put_node x at bs) at ≡ x
unfolding node_from put_node
node_read x at bs k l =
    let b1 = put_le 8 (bits_of x.offset.0) at bs in
    let l1 : length b1 ≡ length bs = length-put 8 (bits_of x.offset.0) at bs in
    let b2 = put_le 8 (bits_of x.time_pass.0) (at + 8) b1 in
    let l2 : length b2 ≡ length bs = length-put 8 (bits_of x.time_pass.0) (at + 8) b1 ∙ l1 in
    let b3 = put_le 4 x.link_event.link_idx.0 (at + 16) b2 in
    let l3 : length b3 ≡ length bs = length-put 4 x.link_event.link_idx.0 (at + 16) b2 ∙ l2 in
    let b4 = put_le 4 x.est_idx.0 (at + 20) b3 in
    let l4 : length b4 ≡ length bs = length-put 4 x.est_idx.0 (at + 20) b3 ∙ l3 in
    let b5 = put_le 2 x.disp_auth_idx_entry (at + 24) b4 in
    let l5 : length b5 ≡ length bs = length-put 2 x.disp_auth_idx_entry (at + 24) b4 ∙ l4 in
    let b6 = put_le 2 (type_number x.link_event.est_type) (at + 26) b5 in
    let l6 : length b6 ≡ length bs = length-put 2 (type_number x.link_event.est_type) (at + 26) b5 ∙ l5 in
    let b7 = put_le 4 0 (at + 28) b6 in
    let f1 : le_at 8 b7 at ≡ (bits_of x.offset.0) = le_put_other 8 4 0 (at + 28) b6 at (inl (omega arith)) ∙ (le_put_other 8 2 (type_number x.link_event.est_type) (at + 26) b5 at (inl (omega arith)) ∙ (le_put_other 8 2 x.disp_auth_idx_entry (at + 24) b4 at (inl (omega arith)) ∙ (le_put_other 8 4 x.est_idx.0 (at + 20) b3 at (inl (omega arith)) ∙ (le_put_other 8 4 x.link_event.link_idx.0 (at + 16) b2 at (inl (omega arith)) ∙ (le_put_other 8 8 (bits_of x.time_pass.0) (at + 8) b1 at (inl (omega arith)) ∙ (le_put_same 8 (bits_of x.offset.0) at bs (omega arith) (bits_lt x.offset.0 k.offset.holds k.offset.number))))))) in
    let f2 : le_at 8 b7 (at + 8) ≡ (bits_of x.time_pass.0) = le_put_other 8 4 0 (at + 28) b6 (at + 8) (inl (omega arith)) ∙ (le_put_other 8 2 (type_number x.link_event.est_type) (at + 26) b5 (at + 8) (inl (omega arith)) ∙ (le_put_other 8 2 x.disp_auth_idx_entry (at + 24) b4 (at + 8) (inl (omega arith)) ∙ (le_put_other 8 4 x.est_idx.0 (at + 20) b3 (at + 8) (inl (omega arith)) ∙ (le_put_other 8 4 x.link_event.link_idx.0 (at + 16) b2 (at + 8) (inl (omega arith)) ∙ (le_put_same 8 (bits_of x.time_pass.0) (at + 8) b1 (omega arith) (bits_lt x.time_pass.0 k.time.holds k.time.number)))))) in
    let f3 : le_at 4 b7 (at + 16) ≡ x.link_event.link_idx.0 = le_put_other 4 4 0 (at + 28) b6 (at + 16) (inl (omega arith)) ∙ (le_put_other 4 2 (type_number x.link_event.est_type) (at + 26) b5 (at + 16) (inl (omega arith)) ∙ (le_put_other 4 2 x.disp_auth_idx_entry (at + 24) b4 (at + 16) (inl (omega arith)) ∙ (le_put_other 4 4 x.est_idx.0 (at + 20) b3 (at + 16) (inl (omega arith)) ∙ (le_put_same 4 x.link_event.link_idx.0 (at + 16) b2 (omega arith) k.link)))) in
    let f4 : le_at 4 b7 (at + 20) ≡ x.est_idx.0 = le_put_other 4 4 0 (at + 28) b6 (at + 20) (inl (omega arith)) ∙ (le_put_other 4 2 (type_number x.link_event.est_type) (at + 26) b5 (at + 20) (inl (omega arith)) ∙ (le_put_other 4 2 x.disp_auth_idx_entry (at + 24) b4 (at + 20) (inl (omega arith)) ∙ (le_put_same 4 x.est_idx.0 (at + 20) b3 (omega arith) k.est))) in
    let f5 : le_at 2 b7 (at + 24) ≡ x.disp_auth_idx_entry = le_put_other 2 4 0 (at + 28) b6 (at + 24) (inl (omega arith)) ∙ (le_put_other 2 2 (type_number x.link_event.est_type) (at + 26) b5 (at + 24) (inl (omega arith)) ∙ (le_put_same 2 x.disp_auth_idx_entry (at + 24) b4 (omega arith) k.auth)) in
    let f6 : le_at 1 b7 (at + 26) ≡ (type_number x.link_event.est_type) = le_put_other 1 4 0 (at + 28) b6 (at + 26) (inl (omega arith)) ∙ (type_read 1 (at + 26) b5 x.link_event.est_type (omega arith)) in
    rw (f1, f2, f3, f4, f5, f6, real_bits x.offset.0 k.offset.holds k.offset.number, real_bits x.time_pass.0 k.time.holds k.time.number, type_same x.link_event.est_type)

pub record GoodNode (bs : List ℕ) (at : ℕ) : Type 0 where
  pub offset : Number (le_at 8 bs at)
  pub time : Number (le_at 8 bs (at + 8))
  pub kind : le_at 2 bs (at + 26) ≤ 2
  pub spare : le_at 4 bs (at + 28) ≡ 0

pub node-back : (bs : List ℕ) (at : ℕ) → Bytes bs → GoodNode bs at → put_node (node_from bs at) at bs ≡ bs
unfolding node_from put_node
node-back bs at b g =
    rw (
      bits_real (le_at 8 bs at) (le_lt 8 bs at b) g.offset,
      put-le 8 at bs b,
      bits_real (le_at 8 bs (at + 8)) (le_lt 8 bs (at + 8) b) g.time,
      put-le 8 (at + 8) bs b,
      put-le 4 (at + 16) bs b,
      put-le 4 (at + 20) bs b,
      put-le 2 (at + 24) bs b,
      low_byte 1 bs (at + 26) b g.kind,
      type_back (le_at 2 bs (at + 26)) g.kind,
      put-le 2 (at + 26) bs b,
      ← g.spare,
    )
    (put-le 4 (at + 28) bs b)

-- ---- diverge records, of either width

pub record DivergeHeld (wide : Bool) (x : DivergeNode) : Type 0 where
  pub train : x.train_idx.0 < field_bound (diverge_train_field wide)
  pub node : x.disp_node_idx < 2 ^ 16

module _ (wide : Bool) where
  abbrev K : ℕ
  K = diverge_words wide

  pub diverge_writes : (x : DivergeNode) (at : ℕ) → Writes at (at + diverge_size wide) (put_diverge wide x at)
  unfolding put_diverge
  diverge_writes x at =
      let k = words-some wide in
      then (then (put-to (2 * K) x.train_idx.0 at (at + 2 * K) (omega arith)) (put-to 2 x.disp_node_idx (at + 2 * K) (at + (2 * K + 2)) (omega arith)) (omega arith) (omega arith))
      (put-to (2 * K - 2) 0 (at + (2 * K + 2)) (at + diverge_size wide) (omega arith)) (omega arith) (omega arith)

  pub diverge_cong : (bs cs : List ℕ) (at : ℕ) → ((i : ℕ) → at ≤ i → i < at + diverge_size wide → get_or bs i 0 ≡ get_or cs i 0) → diverge_from wide bs at ≡ diverge_from wide cs at
  unfolding diverge_from
  diverge_cong bs cs at h =
      let k = words-some wide in
      rw (
        le_cong (2 * K) bs cs at (λ i l m. h i (omega arith) (omega arith)),
        le_cong 2 bs cs (at + 2 * K) (λ i l m. h i (omega arith) (omega arith)),
      )

  pub diverge_read : (x : DivergeNode) (at : ℕ) (bs : List ℕ) → DivergeHeld wide x → at + diverge_size wide ≤ length bs → diverge_from wide (put_diverge wide x at bs) at ≡ x
  unfolding diverge_from put_diverge
  diverge_read x at bs h l =
      let k = words-some wide in
      let b1 = put_le (2 * K) x.train_idx.0 at bs in
      let l1 : length b1 ≡ length bs = length-put (2 * K) x.train_idx.0 at bs in
      let b2 = put_le 2 x.disp_node_idx (at + 2 * K) b1 in
      let b3 = put_le (2 * K - 2) 0 (at + (2 * K + 2)) b2 in
      let f1 : le_at (2 * K) b3 at ≡ x.train_idx.0 =
      le_put_other (2 * K) (2 * K - 2) 0 (at + (2 * K + 2)) b2 at (inl (omega arith))
      ∙ (le_put_other (2 * K) 2 x.disp_node_idx (at + 2 * K) b1 at (inl (omega arith)) ∙ le_put_same (2 * K) x.train_idx.0 at bs (omega arith) h.train) in
      let f2 : le_at 2 b3 (at + 2 * K) ≡ x.disp_node_idx =
      le_put_other 2 (2 * K - 2) 0 (at + (2 * K + 2)) b2 (at + 2 * K) (inl (omega arith)) ∙ le_put_same 2 x.disp_node_idx (at + 2 * K) b1 (omega arith) h.node in
      rw (f1, f2)

  -- its spare bytes are 0
  abbrev pub GoodDiverge : (bs : List ℕ) (at : ℕ) → Type 0
  GoodDiverge bs at = read_in (diverge_spare_field wide) bs at ≡ 0

  pub diverge-back : (bs : List ℕ) (at : ℕ) → Bytes bs → GoodDiverge bs at → put_diverge wide (diverge_from wide bs at) at bs ≡ bs
  unfolding diverge_from put_diverge
  diverge-back bs at b g =
      rw (put-le (2 * K) at bs b, put-le 2 (at + 2 * K) bs b)
      (ap (λ (y : ℕ). put_le (2 * K - 2) y (at + (2 * K + 2)) bs) (sym g) ∙ put-le (2 * K - 2) (at + (2 * K + 2)) bs b)
