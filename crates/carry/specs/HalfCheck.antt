-- The check of a half-carried sitting (document 02, Q-7): slots 1 to count are read and written in the second yard, the others in the first. It is the check
-- of two yards (yard_check, Pair) behind the whole of 24, and its report is wide. Assumes nothing.
use Rattle.std.specs.Prelude.{ℕ, Bool, ◌&&◌, List, leb, length}
use Rattle.link_rules.specs.Refusals.{or_else, refused_unless}
use Rattle.link_rules.specs.declared.refusal.Refusal.{Refusal}
use Rattle.image_fault.specs.declared.Widths.TheVariants.{Either}
use Rattle.update_definition.specs.UpdateImage.{call_fault}
use Rattle.yard_check.specs.Yard.{yard_fault}
use Rattle.yard_check.specs.Check.{CheckArgs}
use Rattle.yard_check.specs.Pair.{late_fault, PairChecked, pair_done, pair_by}
use Rattle.carry.specs.Carry.{second_fits}

-- else 24: as in a step, and the count is not 0
unfoldable pub half_fits : (yard : List ℕ) (count : ℕ) (wide : List ℕ) → Bool
half_fits yard count wide = leb 1 count && second_fits yard count wide

-- 2, 4, 5, 14 and 24, in this order
unfoldable pub early_fault : (yard wide : List ℕ) → ℕ → List ℕ → CheckArgs → Refusal
early_fault yard wide count occ a =
    or_else (call_fault occ a.blocking a.moved a.limit)
    (or_else (yard_fault yard)
    (refused_unless (half_fits yard count wide) 24))

-- then 22, 15 and 16; long is the length of the report
abbrev pub half_fault : (yard wide : List ℕ) → ℕ → List ℕ → CheckArgs → ℕ → Refusal
half_fault yard wide count occ a long = or_else (early_fault yard wide count occ a) (late_fault yard wide count occ a long)

-- the answer, and the two yards and the report that are left; a refused check leaves them
unfoldable pub half_checked : (yard wide : List ℕ) → ℕ → List ℕ → CheckArgs → List ℕ → PairChecked
half_checked yard wide count occ a report =
    let f = half_fault yard wide count occ a (length report) in
    let done = pair_done yard wide count occ a report in
    pair_by f.number f done yard wide report

-- over u32 entries
abbrev pub half_args : (blocking : List ℕ) (moved begin : ℕ) (local : Bool) (limit : ℕ) → CheckArgs
half_args blocking moved begin local limit = record { widths = Either; blocking = blocking; moved = moved; begin = begin; local = local; limit = limit }
