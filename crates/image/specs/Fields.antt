-- The fields of an image (document 01, Layouts), each with its place and width in bytes: readers, writers, refusals and matching cite this table.
-- Assumes nothing.
use Rattle.std.specs.Prelude.{ℕ, ◌+◌, ◌*◌, ◌-◌, ◌^◌, Bool, cond, List}
use Rattle.link_rules.specs.Octets.{le_at, put_le}

pub record Field : Type 0 where
  pub place : ℕ
  pub width : ℕ

abbrev pub field : (place width : ℕ) → Field
field place width = record { place = place; width = width }

-- a field holds the numbers below it
abbrev pub field_bound : Field → ℕ
field_bound f = 256 ^ f.width

-- ---- header

abbrev pub size_field : Field
size_field = field 0 4

abbrev pub est_count_field : Field
est_count_field = field 4 4

abbrev pub path_count_field : Field
path_count_field = field 8 4

abbrev pub diverge_count_field : Field
diverge_count_field = field 12 4

abbrev pub diverge_room_field : Field
diverge_room_field = field 16 4

abbrev pub est_offset_field : Field
est_offset_field = field 20 4

abbrev pub path_offset_field : Field
path_offset_field = field 24 4

abbrev pub diverge_offset_field : Field
diverge_offset_field = field 28 4

abbrev pub train_field : Field
train_field = field 32 2

abbrev pub fixed_field : Field
fixed_field = field 34 2

abbrev pub free_field : Field
free_field = field 36 2

abbrev pub front_field : Field
front_field = field 38 2

abbrev pub back_field : Field
back_field = field 40 2

-- six spare bytes, of which the first is 1 in a wide image (document 02, Q-6); that one with the byte behind it, and the other four
abbrev pub wide_field : Field
wide_field = field 42 1

abbrev pub spare_field : Field
spare_field = field 42 2

abbrev pub spare_rest_field : Field
spare_rest_field = field 44 4

abbrev pub search_field : Field
search_field = field 48 8

abbrev pub fixed_max_field : Field
fixed_max_field = field 56 8

-- ---- est record of 32 bytes; places from its beginning

abbrev pub est_dist_field : Field
est_dist_field = field 0 8

abbrev pub est_next_field : Field
est_next_field = field 8 4

abbrev pub est_next_alt_field : Field
est_next_alt_field = field 12 4

abbrev pub est_prev_field : Field
est_prev_field = field 16 4

abbrev pub est_prev_alt_field : Field
est_prev_alt_field = field 20 4

abbrev pub est_link_field : Field
est_link_field = field 24 4

abbrev pub est_type_field : Field
est_type_field = field 28 1

-- the type with the spare bytes behind it
abbrev pub est_kind_field : Field
est_kind_field = field 28 4

-- ---- path record of 32 bytes

abbrev pub node_offset_field : Field
node_offset_field = field 0 8

abbrev pub node_time_field : Field
node_time_field = field 8 8

abbrev pub node_link_field : Field
node_link_field = field 16 4

abbrev pub node_est_field : Field
node_est_field = field 20 4

abbrev pub node_auth_field : Field
node_auth_field = field 24 2

abbrev pub node_type_field : Field
node_type_field = field 26 1

-- the type with the spare byte behind it, and the other four
abbrev pub node_kind_field : Field
node_kind_field = field 26 2

abbrev pub node_spare_field : Field
node_spare_field = field 28 4

-- ---- diverge record of one word of 4 bytes, in a wide image of two: the train takes half of it, the node two bytes, what is left is spare

unfoldable pub diverge_words : (wide : Bool) → ℕ
diverge_words wide = cond wide 2 1

abbrev pub diverge_size : (wide : Bool) → ℕ
diverge_size wide = 4 * diverge_words wide

abbrev pub diverge_train_field : (wide : Bool) → Field
diverge_train_field wide = field 0 (2 * diverge_words wide)

abbrev pub diverge_node_field : (wide : Bool) → Field
diverge_node_field wide = field (2 * diverge_words wide) 2

abbrev pub diverge_spare_field : (wide : Bool) → Field
diverge_spare_field wide = field (2 * diverge_words wide + 2) (2 * diverge_words wide - 2)

-- ---- read and written

-- a field of the header
abbrev pub read_field : Field → List ℕ → ℕ
read_field f bs = le_at f.width bs f.place

abbrev pub put_field : (f : Field) (x : ℕ) (bs : List ℕ) → List ℕ
put_field f x bs = put_le f.width x f.place bs

-- a field of the record that begins at the place given
abbrev pub read_in : (f : Field) (bs : List ℕ) (at : ℕ) → ℕ
read_in f bs at = le_at f.width bs (at + f.place)

abbrev pub put_in : (f : Field) (x at : ℕ) (bs : List ℕ) → List ℕ
put_in f x at bs = put_le f.width x (at + f.place) bs

-- the field that a record begins with
abbrev pub read_first : (f : Field) (bs : List ℕ) (at : ℕ) → ℕ
read_first f bs at = le_at f.width bs at

abbrev pub put_first : (f : Field) (x at : ℕ) (bs : List ℕ) → List ℕ
put_first f x at bs = put_le f.width x at bs
