-- A path record whose bytes are those that writing its node makes. Assumes nothing.
use Rattle.std.specs.Prelude.{ℕ, ◌+◌, ◌/◌, ◌%◌, Bool, ◌&&◌, List, leb, length}
use Rattle.link_rules.specs.Octets.{le_at}

-- the 32 bytes from at lie within bs, neither float is a NaN, the type is at most 2, and the spare bytes behind it are 0
unfoldable pub plain_node : (bs : List ℕ) (at : ℕ) → Bool
plain_node bs at =
    leb (at + 32) (length bs)
    && (leb (le_at 8 bs at % 0x8000_0000_0000_0000) 0x7ff0_0000_0000_0000
    && (leb (le_at 8 bs (at + 8) % 0x8000_0000_0000_0000) 0x7ff0_0000_0000_0000
    && leb (le_at 8 bs (at + 24) / 65536) 2))
