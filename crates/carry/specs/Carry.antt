-- Carrying a sitting over (document 02, Q-7): a step carries the slot behind the first count into a second yard of the all-wide size; refusal 24.
-- Assumes nothing.
use Rattle.std.specs.Prelude.{ℕ, zero, suc, ◌+◌, ◌*◌, ◌-◌, Bool, true, ◌&&◌, ◌||◌, List, ◌++◌, ltb, eqb, length, get_or, take, drop, replicate}
use Rattle.link_rules.specs.Octets.{le_at, put_le}
use Rattle.link_rules.specs.Network.{all_below}
use Rattle.link_rules.specs.Refusals.{no_refusal, or_else, refused_unless}
use Rattle.link_rules.specs.declared.refusal.Refusal.{Refusal}
use Rattle.link_rules.specs.Refusals as Step
use Rattle.image.specs.Image.{diverge_room}
use Rattle.image.specs.Codec.{decoded, encoded}
use Rattle.image_fault.specs.ImageFault.{length_fault, image_fault}
use Rattle.yard_check.specs.Yard.{yard_size, slot_count, part_begin, part_of, yard_fault}

-- ---- the second yard: u32 size, u32 S, S u32 offsets, then the parts, each of the wide size of the first yard's image

-- bytes of part t: four more for each diverge record that the image has room for; Q is read as it stands, and the sum is of natural numbers
unfoldable pub wide_length : (yard : List ℕ) (t : ℕ) → ℕ
wide_length yard t = length (part_of yard t) + 4 * diverge_room (part_of yard t)

-- where parts 1 to n end, and so where part n + 1 begins
unfoldable pub wide_end : (yard : List ℕ) (n : ℕ) → ℕ
wide_end yard zero = 8 + 4 * slot_count yard
wide_end yard (suc n) = wide_end yard n + wide_length yard (suc n)

-- bytes of the second yard
abbrev pub wide_size : List ℕ → ℕ
wide_size yard = wide_end yard (slot_count yard)

-- ---- refusals 2, 14, 6 to 9 of the images still to carry, and 24, in this order

-- 2: either length is outside 2 to 4,000, or they are unequal
unfoldable pub occupancies_fault : (l m : ℕ) → Refusal
occupancies_fault l m = or_else (length_fault l) (refused_unless (eqb m l) 2)

-- of the n slots behind slot t, the lowest that 6 to 9 refuse over l links, with its own number and place
unfoldable pub images_fault : (yard : List ℕ) (l n t : ℕ) → Refusal
images_fault yard l zero t = no_refusal
images_fault yard l (suc n) t = let rest = images_fault yard l n (t + 1) in or_else (image_fault (part_of yard (t + 1)) l) rest

-- the offset of slot i + 1
unfoldable pub offset_fits : (yard wide : List ℕ) (i : ℕ) → Bool
offset_fits yard wide i = eqb (part_begin wide (i + 1)) (wide_end yard i)

-- size, S and every offset
unfoldable pub second_header_fits : List ℕ → List ℕ → Bool
second_header_fits yard wide =
    eqb (yard_size wide) (wide_size yard) && (eqb (slot_count wide) (slot_count yard) && all_below (slot_count yard) (offset_fits yard wide))

-- slot i + 1 is carried: its train, and a wide image
unfoldable pub carried_fits : (yard wide : List ℕ) (i : ℕ) → Bool
carried_fits yard wide i = eqb (le_at 2 wide (wide_end yard i + 32)) (i + 1) && eqb (get_or wide (wide_end yard i + 42) 0) 1

-- every byte from a on is 0
unfoldable pub zero_from : ℕ → List ℕ → Bool
zero_from a bs = all_below (length bs - a) (λ i. eqb (get_or bs (a + i) 0) 0)

-- once begun: the header, the slots that are carried, and the parts behind them zero
unfoldable pub begun_fits : (yard : List ℕ) (count : ℕ) (wide : List ℕ) → Bool
begun_fits yard count wide = second_header_fits yard wide && (all_below count (carried_fits yard wide) && zero_from (wide_end yard count) wide)

-- else 24
unfoldable pub second_fits : (yard : List ℕ) (count : ℕ) (wide : List ℕ) → Bool
second_fits yard count wide = ltb count (slot_count yard) && (eqb (length wide) (wide_size yard) && (eqb count 0 || begun_fits yard count wide))

-- behind 14: the images still to carry, then 24
unfoldable pub rest_fault : (yard : List ℕ) (l count : ℕ) (wide : List ℕ) → Refusal
rest_fault yard l count wide = or_else (images_fault yard l (slot_count yard - count) count) (refused_unless (second_fits yard count wide) 24)

-- l and m are the lengths of the two occupancies
unfoldable pub carry_fault : (yard : List ℕ) (l count : ℕ) (wide : List ℕ) (m : ℕ) → Refusal
carry_fault yard l count wide m = or_else (occupancies_fault l m) (or_else (yard_fault yard) (rest_fault yard l count wide))

-- ---- a step that is not refused

-- the offsets of slots 1 to n
unfoldable pub with_offsets : (yard : List ℕ) (n : ℕ) (wide : List ℕ) → List ℕ
with_offsets yard zero wide = wide
with_offsets yard (suc n) wide = put_le 4 (wide_end yard n) (4 + 4 * suc n) (with_offsets yard n wide)

-- the header, and zero in every part
unfoldable pub begun : List ℕ → List ℕ
begun yard = with_offsets yard (slot_count yard) (put_le 4 (slot_count yard) 4 (put_le 4 (wide_size yard) 0 (replicate (wide_size yard) 0)))

-- the first step writes all of the second yard
abbrev pub begun_by : (count : ℕ) (yard wide : List ℕ) → List ℕ
begun_by zero yard wide = begun yard
begun_by (suc n) yard wide = wide

-- and carries the occupancy
abbrev pub occupancy_by : (count : ℕ) (occ wide_occ : List ℕ) → List ℕ
occupancy_by zero occ wide_occ = occ
occupancy_by (suc n) occ wide_occ = wide_occ

-- the image of slot t, wide
abbrev pub widened : List ℕ → ℕ → List ℕ
widened yard t = encoded true (decoded (part_of yard t))

-- the image of slot n + 1 in its part
unfoldable pub with_widened : (yard : List ℕ) (n : ℕ) (wide : List ℕ) → List ℕ
with_widened yard n wide = take (wide_end yard n) wide ++ (widened yard (suc n) ++ drop (wide_end yard (suc n)) wide)

-- ---- a step

-- the answer, and the second yard and occupancy that are left; the first ones are never written
pub record Carried : Type 0 where
  pub answer : Step.Answer
  pub yard : List ℕ
  pub occupancy : List ℕ

abbrev pub carrying : Step.Answer → (yard occ : List ℕ) → Carried
carrying answer yard occ = record { answer = answer; yard = yard; occupancy = occ }

-- by the number of the refusal f, which leaves both
abbrev pub carried_by : (number : ℕ) (f : Refusal) (done : Carried) (wide wide_occ : List ℕ) → Carried
carried_by zero f done wide wide_occ = done
carried_by (suc n) f done wide wide_occ = carrying (Step.Refused f) wide wide_occ

abbrev pub carried_done : (yard occ : List ℕ) (count : ℕ) (wide wide_occ : List ℕ) → Carried
carried_done yard occ count wide wide_occ = carrying Step.Done (with_widened yard count (begun_by count yard wide)) (occupancy_by count occ wide_occ)

-- the first yard and occupancy, how many slots are carried, the second yard and occupancy
unfoldable pub carried : (yard occ : List ℕ) (count : ℕ) (wide wide_occ : List ℕ) → Carried
carried yard occ count wide wide_occ =
    let f = carry_fault yard (length occ) count wide (length wide_occ) in
    let done = carried_done yard occ count wide wide_occ in
    carried_by f.number f done wide wide_occ

-- steps 0 to n one after the other, with nothing between them
unfoldable pub steps : (yard occ wide wide_occ : List ℕ) (n : ℕ) → Carried
steps yard occ wide wide_occ zero = carried yard occ 0 wide wide_occ
steps yard occ wide wide_occ (suc n) = let c = steps yard occ wide wide_occ n in carried yard occ (suc n) c.yard c.occupancy
