-- Matching of two images (document 01): p renumbers links, q trains. Assumes nothing.
use Rattle.std.specs.Prelude.{◌≡◌, List, ℕ, ◌+◌, ◌≤◌, ◌<◌, length, get_or}
use Rattle.link_rules.specs.Octets.{le_at}
use Rattle.image.specs.Fields.{train_field, est_link_field, node_link_field, diverge_size, diverge_train_field}
use Rattle.image.specs.Image.{est_count, diverge_room, is_wide, est_place, node_place, diverge_place}

-- the same bytes from a up to e
abbrev pub SameBytes : (bs bs' : List ℕ) (a e : ℕ) → Type 0
SameBytes bs bs' a e = (i : ℕ) → a ≤ i → i < e → get_or bs' i 0 ≡ get_or bs i 0

-- the w bytes from at are the same, except the number in the v bytes from at + k, which is renumbered
pub record Renumbered (p : ℕ → ℕ) (bs bs' : List ℕ) (at w k v : ℕ) : Type 0 where
  pub before : SameBytes bs bs' at (at + k)
  pub number : le_at v bs' (at + k) ≡ p (le_at v bs (at + k))
  pub after : SameBytes bs bs' (at + k + v) (at + w)

-- the header's train, the links in est and path records and the trains in diverge records are renumbered; every other byte is the same
pub record ImagesMatch (p q : ℕ → ℕ) (bs bs' : List ℕ) : Type 0 where
  pub long : length bs' ≡ length bs
  pub header : Renumbered q bs bs' 0 64 train_field.place train_field.width
  pub est : (i : ℕ) → i < est_count bs → Renumbered p bs bs' (est_place i) 32 est_link_field.place est_link_field.width
  pub node : (i : ℕ) → i < est_count bs → Renumbered p bs bs' (node_place (est_count bs) i) 32 node_link_field.place node_link_field.width
  pub diverge : (i : ℕ) → i < diverge_room bs → Renumbered q bs bs' (diverge_place (is_wide bs) (est_count bs) i) (diverge_size (is_wide bs)) (diverge_train_field (is_wide bs)).place (diverge_train_field (is_wide bs)).width
  -- bytes behind the records, which an image has that 6 refuses
  pub rest : SameBytes bs bs' (diverge_place (is_wide bs) (est_count bs) (diverge_room bs)) (length bs)
