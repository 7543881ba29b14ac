-- The limit of the search, a maximum of IEEE 754-2019, clause 9.6 (free_path.rs 316-320). Assumes nothing.
use Rattle.std.specs.Prelude.{◌≡◌, Bool, true, false, cond, ◌||◌, ◌⊎◌, is_nan, Float}
use Rattle.std.specs.Float.{nan, inf, fin}
use Rattle.std.specs.Float.Ieee.{lt}
use Rattle.disp_structs.specs.Values.{minus}
use Rattle.disp_structs.specs.declared.Metres.{Metres}

abbrev pub is_minus : Float → Bool
is_minus nan = false
is_minus (inf s) = s
is_minus (fin s m e) = s

-- of two numbers the larger, and of two zeros +0
abbrev pub larger : Float → Float → Float
larger a b = cond (lt a b) b (cond (lt b a) a (cond (is_minus a) b a))

-- maximum of clause 9.6: NaN where one of the two is
unfoldable pub maximum : Float → Float → Float
maximum a b = cond (is_nan a || is_nan b) nan (larger a b)

-- maximum_number of clause 9.6: the number where the other is NaN
unfoldable pub maximum_number : Float → Float → Float
maximum_number a b = cond (is_nan a) b (cond (is_nan b) a (larger a b))

-- what these two, and maxNum of IEEE 754-2008, have in common: of two numbers the larger, and of two equal ones either
pub record MaxOf (a b m : Float) : Type 0 where
  pub second : lt a b ≡ true → m ≡ b
  pub first : lt b a ≡ true → m ≡ a
  pub either : (m ≡ a) ⊎ (m ≡ b)

-- offset_cancel (316-320): the definition takes maximum_number; SearchLimitLaws.limit_read: any of them reads the same
abbrev pub offset_cancel_of : Bool → Metres → Metres → Metres → Metres
offset_cancel_of local lowest offset search = cond local (record { 0 = maximum_number lowest.0 (minus offset search).0 }) lowest
