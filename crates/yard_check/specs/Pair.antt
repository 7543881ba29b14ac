-- The check over the images of two yards (document 02, Q-7): slots 1 to count lie in a second yard, the others in the first. Otherwise it is the check over
-- u32 entries (Q-6), with the wide report. Assumes nothing.
use Rattle.std.specs.Prelude.{ℕ, zero, suc, ◌+◌, ◌*◌, Bool, true, cond, ◌&&◌, List, ltb, leb, eqb, length}
use Rattle.image.specs.Image.{is_wide, largest_of}
use Rattle.link_rules.specs.LinkIdx.{no_train}
use Rattle.link_rules.specs.Network.{all_below}
use Rattle.link_rules.specs.Refusals.{or_else, refused_unless}
use Rattle.link_rules.specs.declared.refusal.Refusal.{Refusal}
use Rattle.update_definition.specs.UpdateImage.{call_fault}
use Rattle.wide_occupancy.specs.WideOccupancy.{large_train_fault}
use Rattle.yard_check.specs.Yard.{yard_size, slot_count, part_begin, part_of, yard_fault}
use Rattle.yard_check.specs.Check.{CheckArgs, slots_fault, report_fault, Row, Visit, slot_visit, slot_image, yard_after, report_after, Answer, Refused, answer_of}
use Rattle.yard_check.specs.Checks.{answered_of}
use Rattle.yard_check.specs.declared.check.Answer as Code

-- ---- the slots

-- the image of slot t
abbrev pub pair_image : (yard second : List ℕ) → ℕ → ℕ → List ℕ
pair_image yard second count t = cond (leb t count) (part_of second t) (part_of yard t)

-- its visit
unfoldable pub pair_visit : (yard second : List ℕ) → ℕ → List ℕ → CheckArgs → ℕ → Visit
pair_visit yard second count occ a t = cond (leb t count) (slot_visit second occ a t) (slot_visit yard occ a t)

abbrev pub pair_row : (yard second : List ℕ) → ℕ → List ℕ → CheckArgs → ℕ → Row
pair_row yard second count occ a t = (pair_visit yard second count occ a t).row

-- ---- refusals 2, 4, 5, 14, 24, 22, 15 and 16, in this order

-- at least 64 bytes
abbrev pub part_lies : List ℕ → ℕ → Bool
part_lies yard t = leb 64 (length (part_of yard t))

-- else 24: a count from 1 to S - 1, and a second yard of S parts that lie as 14 asks
unfoldable pub second_lies : (yard second : List ℕ) → ℕ → Bool
second_lies yard second count =
    leb 1 count && (ltb count (slot_count yard) && (eqb (slot_count second) (slot_count yard) && (eqb (yard_size second) (length second)
    && (eqb (part_begin second 1) (8 + 4 * slot_count yard) && all_below (slot_count yard) (λ i. part_lies second (i + 1))))))

-- the largest train that every image holds: 999,999 only where all are wide
abbrev pub pair_largest : (yard second : List ℕ) → ℕ → ℕ
pair_largest yard second count = largest_of (all_below (slot_count yard) (λ i. is_wide (pair_image yard second count (i + 1))))

-- 22, 15, 16; long is the length of the report
unfoldable pub late_fault : (yard second : List ℕ) → ℕ → List ℕ → CheckArgs → ℕ → Refusal
late_fault yard second count occ a long =
    or_else (large_train_fault (pair_largest yard second count) occ no_train)
    (or_else (slots_fault (slot_count yard) a)
    (report_fault true (slot_count yard) long))

unfoldable pub pair_fault : (yard second : List ℕ) → ℕ → List ℕ → CheckArgs → ℕ → Refusal
pair_fault yard second count occ a long =
    or_else (call_fault occ a.blocking a.moved a.limit)
    (or_else (yard_fault yard)
    (or_else (refused_unless (second_lies yard second count) 24)
    (late_fault yard second count occ a long)))

-- ---- the check

-- the answer, and the two yards and the report that are left
pub record PairChecked : Type 0 where
  pub answer : Answer
  pub yard : List ℕ
  pub second : List ℕ
  pub report : List ℕ

abbrev pub pair_of : (answer : Answer) (yard second report : List ℕ) → PairChecked
pair_of answer yard second report = record { answer = answer; yard = yard; second = second; report = report }

-- of the first yard the slots behind the first count get an image
abbrev pub later_image : (yard : List ℕ) (count : ℕ) (occ : List ℕ) (a : CheckArgs) (t : ℕ) → List ℕ
later_image yard count occ a t = cond (ltb count t) (slot_image yard occ a t) (part_of yard t)

-- a check that is not refused
abbrev pub pair_done : (yard second : List ℕ) → ℕ → List ℕ → CheckArgs → List ℕ → PairChecked
pair_done yard second count occ a report =
    let slots = slot_count yard in
    let rows = pair_row yard second count occ a in
    pair_of (answer_of rows slots a.begin) (yard_after yard (later_image yard count occ a) slots) (yard_after second (slot_image second occ a) count) (report_after true rows report slots)

-- by the number of the refusal f, which leaves the yards and the report
abbrev pub pair_by : ℕ → Refusal → PairChecked → (yard second report : List ℕ) → PairChecked
pair_by zero f done yard second report = done
pair_by (suc n) f done yard second report = pair_of (Refused f) yard second report

unfoldable pub pair_checked : (yard second : List ℕ) → ℕ → List ℕ → CheckArgs → List ℕ → PairChecked
pair_checked yard second count occ a report =
    let f = pair_fault yard second count occ a (length report) in
    let done = pair_done yard second count occ a report in
    pair_by f.number f done yard second report

-- as the code gives it
abbrev pub pair_checked_of : (x : Code.Answer) (yard second report : List ℕ) → PairChecked
pair_checked_of x yard second report = pair_of (answered_of x) yard second report
