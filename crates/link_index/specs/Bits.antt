-- A number as its bits: an entry of an index is a u64. Assumes nothing.
use Rattle.std.specs.Prelude.{ℕ, zero, suc, ◌+◌, ◌-◌, ◌/◌, ◌%◌, ◌^◌, Bool, cond, eqb}

-- bit t
unfoldable pub bit_of : (n t : ℕ) → Bool
bit_of n t = eqb (n / 2 ^ t % 2) 1

-- the number with these bits below k, and no other
unfoldable pub number_of : (bits : ℕ → Bool) (k : ℕ) → ℕ
number_of bits zero = 0
number_of bits (suc k) = number_of bits k + cond (bits k) (2 ^ k) 0

-- n with bit t as b says
unfoldable pub with_bit : (n t : ℕ) (b : Bool) → ℕ
with_bit n t b = cond (bit_of n t) (cond b n (n - 2 ^ t)) (cond b (n + 2 ^ t) n)
