-- Text as bytes of ASCII: words, and numbers in decimal. Assumes nothing.
use Rattle.std.specs.Prelude.{ℕ, zero, suc, ◌+◌, ◌/◌, ◌%◌, Bool, true, false, List, [], ◌∷◌, ◌++◌, ltb}
use Prim.Native.Char.{code}
use Prim.Native.String.{String, len, char_at}
use Rattle.disp_structs.specs.Listed.{listed}

unfoldable pub ascii : String → List ℕ
ascii s = listed (len s) (λ i. code (char_at s i))

abbrev pub line_end : List ℕ
line_end = 10 ∷ []

-- ---- numbers

abbrev pub digit : ℕ → List ℕ
digit d = (48 + d) ∷ []

-- the decimal digits of n, for n below the first number
unfoldable pub decimal_from : (k n : ℕ) → List ℕ
decimal_from zero n = []
decimal_from (suc k) n = let front = decimal_from k (n / 10) in elim (ltb n 10) [ true ↦ digit n | false ↦ front ++ digit (n % 10) ]

abbrev pub decimal : ℕ → List ℕ
decimal n = decimal_from (suc n) n

-- a blank and a number
abbrev pub column : ℕ → List ℕ
column n = 32 ∷ decimal n

-- a minus sign stands directly left of the digits
abbrev pub signed : Bool → ℕ → List ℕ
signed true n = 45 ∷ decimal n
signed false n = decimal n
