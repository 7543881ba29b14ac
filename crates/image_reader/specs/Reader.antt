-- What a reader over an image reads that `image` has no definition of. Assumes nothing.
use Rattle.std.specs.Prelude.{ℕ, List}
use Rattle.image.specs.Fields.{free_field, read_field}

-- the header's free number
abbrev pub free_of : (bs : List ℕ) → ℕ
free_of bs = read_field free_field bs
