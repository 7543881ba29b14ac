-- The yard (document 01, Layouts): u32 size, u32 S, S u32 offsets, then the images; slot t (1 to S) holds train t. Refusal 14. Assumes nothing.
use Rattle.std.specs.Prelude.{ℕ, ◌+◌, ◌*◌, ◌-◌, min, max, Bool, cond, ◌&&◌, List, [], ◌++◌, ltb, leb, eqb, length, take, drop}
use Rattle.link_rules.specs.Octets.{le_at}
use Rattle.image.specs.Fields.{train_field, read_in}
use Rattle.link_rules.specs.Network.{all_below}
use Rattle.link_rules.specs.Refusals.{no_refusal, refused}
use Rattle.link_rules.specs.declared.refusal.Refusal.{Refusal}

abbrev pub yard_size : List ℕ → ℕ
yard_size yard = le_at 4 yard 0

-- S
abbrev pub slot_count : List ℕ → ℕ
slot_count yard = le_at 4 yard 4

-- ---- the part of slot t: from its offset up to the next slot's, the last up to the end of the yard

abbrev pub part_begin : List ℕ → ℕ → ℕ
part_begin yard t = le_at 4 yard (4 + 4 * t)

unfoldable pub part_end : List ℕ → ℕ → ℕ
part_end yard t = cond (ltb t (slot_count yard)) (part_begin yard (t + 1)) (length yard)

-- the image of slot t: the slot's own part of the yard
unfoldable pub part_of : List ℕ → ℕ → List ℕ
part_of yard t = take (part_end yard t - part_begin yard t) (drop (part_begin yard t) yard)

-- empty where the yard has no such slot, and none has slot 0
unfoldable pub image_in : (yard : List ℕ) (slot : ℕ) → List ℕ
image_in yard slot = cond (leb 1 slot && leb slot (slot_count yard)) (part_of yard slot) []

-- where the part lies within the yard, whatever the offsets are
unfoldable pub part_from : List ℕ → ℕ → ℕ
part_from yard t = min (part_begin yard t) (length yard)

unfoldable pub part_until : List ℕ → ℕ → ℕ
part_until yard t = max (part_from yard t) (min (part_end yard t) (length yard))

-- the yard with another image in slot t
unfoldable pub with_part : (yard : List ℕ) (t : ℕ) (img : List ℕ) → List ℕ
with_part yard t img = take (part_begin yard t) yard ++ (img ++ drop (part_end yard t) yard)

-- ---- 14: bad yard header, a part below 64 bytes, or wrong slot train

-- at least 64 bytes, and the train in its header is the slot's
unfoldable pub part_fits : List ℕ → ℕ → Bool
part_fits yard t = leb (part_begin yard t + 64) (part_end yard t) && eqb (read_in train_field yard (part_begin yard t)) t

-- the size is that of the whole buffer, S from 1 to 63, the first part right behind the offsets; the others follow without gaps
unfoldable pub yard_fits : List ℕ → Bool
yard_fits yard =
    eqb (yard_size yard) (length yard) && (leb 1 (slot_count yard) && (leb (slot_count yard) 63 && (eqb (part_begin yard 1) (8 + 4 * slot_count yard)
    && all_below (slot_count yard) (λ i. part_fits yard (i + 1)))))

abbrev pub yard_fault : List ℕ → Refusal
yard_fault yard = cond (yard_fits yard) no_refusal (refused 14 0)
