-- Numbers to the right in columns of a given width. Assumes nothing.
use Rattle.std.specs.Prelude.{ℕ, zero, suc, ◌/◌, ◌%◌, Bool, true, false, List, [], ◌∷◌, ◌++◌, ltb, replicate}
use Rattle.text.specs.Ascii.{digit}

abbrev pub blanks : ℕ → List ℕ
blanks n = replicate n 32

-- w columns left of the first digit
abbrev pub lead_in : ℕ → Bool → List ℕ
lead_in w false = blanks w
lead_in zero true = []
lead_in (suc w) true = blanks w ++ (45 ∷ [])

-- n with its sign, to the right in w columns; what finds no room on the left is cut off
unfoldable pub signed_in : (w : ℕ) (minus : Bool) (n : ℕ) → List ℕ
signed_in zero minus n = []
signed_in (suc w) minus n =
    let more = signed_in w minus (n / 10) in
    elim (ltb n 10) [ true ↦ lead_in w minus ++ digit n | false ↦ more ++ digit (n % 10) ]

abbrev pub right_in : (w n : ℕ) → List ℕ
right_in w n = signed_in w false n
