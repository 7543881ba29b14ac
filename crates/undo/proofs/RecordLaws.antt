-- The undo record once it is filled: its four numbers, the two yards, the bytes beyond. Assumes nothing.
use mathlib.Core.Path.{◌≡◌, sym, ap, ◌∙◌}
use mathlib.Core.Logic.{inl, inr}
use mathlib.Core.List.{List, ◌++◌}
use Prim.Native.Nat.{ℕ, ◌+◌, ◌-◌, ◌≤◌, ◌<◌}
use native.Mathlib.Omega.{arith}
use lib.ListN.{length, get_or, take, drop, length-drop, take-append-drop}
use lib.Seq.{length-take-le, take-append_seam, drop_at, drop-drop, get_or-take, get_or-drop, ext_get_or}
use Rattle.link_rules.specs.Octets.{le_at, put_le, put_bytes}
use Rattle.link_rules.proofs.OctetLaws.{le_cong, le_put_same, le_put_other, length-put}
use Rattle.image.proofs.Writers.{Writes, then, put-to}
use Rattle.yard_check.specs.Yard.{slot_count}
use Rattle.yard_check.proofs.PatchLaws.{patch_length, patch_low, patch_high}
use Rattle.undo.specs.Undo.{filled_bytes, old_offset, written_offset, old_yard, written_yard, with_numbers, with_old, with_written, filled}

-- the same bytes from a on, n of them
pub span_same : (a n : ℕ) (xs ys : List ℕ) → a + n ≤ length xs → a + n ≤ length ys → ((i : ℕ) → a ≤ i → i < a + n → get_or xs i 0 ≡ get_or ys i 0) → take n (drop a xs) ≡ take n (drop a ys)
span_same a n xs ys l m h =
    let lx = length-take-le n (drop a xs) (omega (arith, length-drop a xs)) in
    let ly = length-take-le n (drop a ys) (omega (arith, length-drop a ys)) in
    ext_get_or 0 (take n (drop a xs)) (take n (drop a ys)) (lx ∙ sym ly) (λ i k.
    let k : i < n = omega (arith, lx) in
    get_or-take n (drop a xs) i 0 k ∙ (get_or-drop a xs i 0 ∙ (h (a + i) (omega arith) (omega arith) ∙ sym (get_or-take n (drop a ys) i 0 k ∙ get_or-drop a ys i 0))))

-- ---- bytes put into a buffer

module _ (k : ℕ) (xs r : List ℕ) (fits : k + length xs ≤ length r) where
  up : k ≤ k + length xs
  up = omega arith

  span : length xs ≡ k + length xs - k
  span = omega arith

  pub put-length : length (put_bytes k xs r) ≡ length r
  unfolding put_bytes
  put-length = patch_length k (k + length xs) xs r up fits span

  pub put_low : (i : ℕ) → i < k → get_or (put_bytes k xs r) i 0 ≡ get_or r i 0
  unfolding put_bytes
  put_low = patch_low k (k + length xs) xs r up fits span

  pub put-high : (i : ℕ) → k + length xs ≤ i → get_or (put_bytes k xs r) i 0 ≡ get_or r i 0
  unfolding put_bytes
  put-high = patch_high k (k + length xs) xs r up fits span

  pub put_there : take (length xs) (drop k (put_bytes k xs r)) ≡ xs
  unfolding put_bytes
  put_there =
      ap (λ (z : List ℕ). take (length xs) z) (drop_at (take k r) (xs ++ drop (k + length xs) r) k (length-take-le k r (omega arith)))
      ∙ take-append_seam xs (drop (k + length xs) r)

  pub put-number : (j : ℕ) → j + 4 ≤ k → le_at 4 (put_bytes k xs r) j ≡ le_at 4 r j
  put-number j h = le_cong 4 (put_bytes k xs r) r j (λ i l m. put_low i (omega arith))

-- what stands there, put there
pub put_back : (k n : ℕ) (r : List ℕ) → k + n ≤ length r → put_bytes k (take n (drop k r)) r ≡ r
unfolding put_bytes
put_back k n r h =
    let long : length (take n (drop k r)) ≡ n = length-take-le n (drop k r) (omega (arith, length-drop k r)) in
    rw (long, ← drop-drop n k r, take-append-drop n (drop k r)) (take-append-drop k r)

-- ---- the four numbers

numbers_writes : (y slots : ℕ) → Writes 0 16 (with_numbers y slots)
unfolding with_numbers
numbers_writes y slots =
    then (then (then (put-to 4 (filled_bytes y) 0 4 (omega arith))
    (put-to 4 slots 4 8 (omega arith)) (omega arith) (omega arith))
    (put-to 4 old_offset 8 12 (omega arith)) (omega arith) (omega arith))
    (put-to 4 (written_offset y) 12 16 (omega arith)) (omega arith) (omega arith)

pub numbers-length : (y slots : ℕ) (r : List ℕ) → length (with_numbers y slots r) ≡ length r
numbers-length y slots r = (numbers_writes y slots).long r

module _ (y slots : ℕ) (r : List ℕ) (head : 16 ≤ length r) (small : filled_bytes y < 4294967296) (few : slots < 4294967296) where
  abbrev n1 : List ℕ
  n1 = put_le 4 (filled_bytes y) 0 r

  abbrev n2 : List ℕ
  n2 = put_le 4 slots 4 n1

  abbrev n3 : List ℕ
  n3 = put_le 4 old_offset 8 n2

  l1 : length n1 ≡ length r
  l1 = length-put 4 (filled_bytes y) 0 r

  l2 : length n2 ≡ length r
  l2 = length-put 4 slots 4 n1 ∙ l1

  l3 : length n3 ≡ length r
  l3 = length-put 4 old_offset 8 n2 ∙ l2

  pub says_filled : le_at 4 (with_numbers y slots r) 0 ≡ filled_bytes y
  unfolding with_numbers
  says_filled =
      le_put_other 4 4 (written_offset y) 12 n3 0 (inl (omega arith))
      ∙ (le_put_other 4 4 old_offset 8 n2 0 (inl (omega arith))
      ∙ (le_put_other 4 4 slots 4 n1 0 (inl (omega arith)) ∙ le_put_same 4 (filled_bytes y) 0 r (omega arith) (omega arith)))

  pub says_slots : le_at 4 (with_numbers y slots r) 4 ≡ slots
  unfolding with_numbers
  says_slots =
      le_put_other 4 4 (written_offset y) 12 n3 4 (inl (omega arith))
      ∙ (le_put_other 4 4 old_offset 8 n2 4 (inl (omega arith)) ∙ le_put_same 4 slots 4 n1 (omega (arith, l1)) (omega arith))

  pub says_old : le_at 4 (with_numbers y slots r) 8 ≡ old_offset
  unfolding with_numbers
  says_old = le_put_other 4 4 (written_offset y) 12 n3 8 (inl (omega arith)) ∙ le_put_same 4 old_offset 8 n2 (omega (arith, l2)) (omega arith)

  pub says_written : le_at 4 (with_numbers y slots r) 12 ≡ written_offset y
  unfolding with_numbers
  says_written = le_put_same 4 (written_offset y) 12 n3 (omega (arith, l3)) (omega arith)

-- ---- a record filled by a check, in a buffer with room

module _ (old written r : List ℕ) (long : length written ≡ length old) (room : filled_bytes (length old) ≤ length r) where
  abbrev r1 : List ℕ
  r1 = with_numbers (length old) (slot_count old) r

  abbrev r2 : List ℕ
  r2 = with_old old r

  fits1 : old_offset + length old ≤ length r1
  fits1 = omega (arith, numbers-length (length old) (slot_count old) r, room)

  old_length : length r2 ≡ length r
  unfolding with_old
  old_length = put-length old_offset old r1 fits1 ∙ numbers-length (length old) (slot_count old) r

  fits2 : written_offset (length written) + length written ≤ length r2
  fits2 = omega (arith, old_length, room, long)

  pub filled-length : length (filled old written r) ≡ length r
  unfolding with_written
  filled-length = put-length (written_offset (length written)) written r2 fits2 ∙ old_length

  pub filled-number : (j : ℕ) → j + 4 ≤ 16 → le_at 4 (filled old written r) j ≡ le_at 4 r1 j
  unfolding with_old with_written
  filled-number j h = put-number (written_offset (length written)) written r2 fits2 j (omega arith) ∙ put-number old_offset old r1 fits1 j h

  pub filled_old : old_yard (length old) (filled old written r) ≡ old
  unfolding with_old with_written
  filled_old =
      span_same old_offset (length old) (filled old written r) r2 (omega (arith, filled-length, room)) (omega (arith, old_length, room))
      (λ i l m. put_low (written_offset (length written)) written r2 fits2 i (omega (arith, long)))
      ∙ put_there old_offset old r1 fits1

  pub filled-written : written_yard (length old) (filled old written r) ≡ written
  unfolding with_written
  filled-written = ap (λ (y : ℕ). written_yard y (filled old written r)) (sym long) ∙ put_there (written_offset (length written)) written r2 fits2

  -- buffer bytes beyond stay
  pub filled_beyond : (i : ℕ) → filled_bytes (length old) ≤ i → get_or (filled old written r) i 0 ≡ get_or r i 0
  unfolding with_old with_written
  filled_beyond i h =
      put-high (written_offset (length written)) written r2 fits2 i (omega (arith, long))
      ∙ (put-high old_offset old r1 fits1 i (omega arith) ∙ (numbers_writes (length old) (slot_count old)).outside r i (inr (omega arith)))
