-- Little-endian numbers in a list of octets, over the width w in octets, and octets put into a buffer. Assumes nothing.
use Rattle.std.specs.Prelude.{ℕ, zero, suc, ◌+◌, ◌*◌, ◌/◌, ◌%◌, cond, List, ◌++◌, length, take, drop, nat_le, slice_index, slice_set}

-- the number in the w octets from at; an octet past the end counts 0
unfoldable pub le_at : (w : ℕ) (bs : List ℕ) (at : ℕ) → ℕ
le_at zero bs at = 0
le_at (suc w) bs at = slice_index bs at + 256 * le_at w bs (at + 1)

-- bs with the number x in the w octets from at; an octet past the end is dropped
unfoldable pub put_le : (w x at : ℕ) (bs : List ℕ) → List ℕ
put_le zero x at bs = bs
put_le (suc w) x at bs = put_le w (x / 256) (at + 1) (slice_set bs at (x % 256))

-- a buffer with these octets from k on
unfoldable pub put_bytes : (k : ℕ) (xs r : List ℕ) → List ℕ
put_bytes k xs r = take k r ++ (xs ++ drop (k + length xs) r)

-- where they all find room
unfoldable pub put_whole : (k : ℕ) (xs r : List ℕ) → List ℕ
put_whole k xs r = cond (nat_le (k + length xs) (length r)) (put_bytes k xs r) r
