-- Bytes compared. Assumes nothing.
use Rattle.std.specs.Prelude.{ℕ, Bool, ◌&&◌, List, eqb, length, get_or}
use Rattle.link_rules.specs.Network.{all_below}

-- as many, and each the same
unfoldable pub same_bytes : List ℕ → List ℕ → Bool
same_bytes xs ys = eqb (length xs) (length ys) && all_below (length xs) (λ i. eqb (get_or xs i 0) (get_or ys i 0))
