-- Taking a check back (change request Q-5): the undo record, the check that fills one, and the undo; refusals 20 and 21. Assumes nothing.
use Rattle.std.specs.Prelude.{ℕ, zero, suc, ◌+◌, ◌*◌, Bool, true, false, ◌&&◌, List, ltb, leb, eqb, length, get_or, take, drop}
use Rattle.link_rules.specs.Octets.{le_at, put_le, put_bytes}
use Rattle.link_rules.specs.Network.{all_below}
use Rattle.link_rules.specs.Refusals.{refused, or_else, refused_unless}
use Rattle.link_rules.specs.declared.refusal.Refusal.{Refusal}
use Rattle.link_rules.specs.Refusals as Taken
use Rattle.image_fault.specs.declared.Widths.{Widths}
use Rattle.image_fault.specs.declared.Widths.TheVariants.{Narrow, Either}
use Rattle.yard_check.specs.Yard.{slot_count, yard_fits}
use Rattle.yard_check.specs.Check.{CheckArgs, Answer, Refused, Checked, check_fault, checked_with}
use Rattle.yard_check.specs.Checks.{answered_of}
use Rattle.yard_check.specs.declared.check.Answer as Code

-- ---- undo record (document 02): u32 bytes filled, S, offsets of both yards; then the old yard and the one written, each of y bytes

-- bytes filled
abbrev pub filled_bytes : ℕ → ℕ
filled_bytes y = 16 + 2 * y

abbrev pub old_offset : ℕ
old_offset = 16

abbrev pub written_offset : ℕ → ℕ
written_offset y = 16 + y

abbrev pub old_yard : ℕ → List ℕ → List ℕ
old_yard y r = take y (drop old_offset r)

abbrev pub written_yard : ℕ → List ℕ → List ℕ
written_yard y r = take y (drop (written_offset y) r)

-- ---- a record is filled; buffer bytes beyond stay

-- the four numbers, for an old yard of y bytes and S slots
unfoldable pub with_numbers : (y slots : ℕ) (r : List ℕ) → List ℕ
with_numbers y slots r = put_le 4 (written_offset y) 12 (put_le 4 old_offset 8 (put_le 4 slots 4 (put_le 4 (filled_bytes y) 0 r)))

-- the numbers and the old yard
unfoldable pub with_old : List ℕ → List ℕ → List ℕ
with_old old r = put_bytes old_offset old (with_numbers (length old) (slot_count old) r)

-- the yard written
unfoldable pub with_written : List ℕ → List ℕ → List ℕ
with_written written r = put_bytes (written_offset (length written)) written r

abbrev pub filled : (old written r : List ℕ) → List ℕ
filled old written r = with_written written (with_old old r)

-- ---- a check that fills a record

-- 20: the buffer, of so many bytes, is shorter than 16 bytes plus twice the yard, or its u32 cannot say how many are filled
unfoldable pub room_fault : ℕ → ℕ → Refusal
room_fault y room = refused_unless (leb (filled_bytes y) room && ltb (filled_bytes y) 4294967296) 20

-- 20, then the check's own; long and room are the lengths of the report and of the record
unfoldable pub recorded_fault : (yard occ : List ℕ) (a : CheckArgs) (long room : ℕ) → Refusal
recorded_fault yard occ a long room = or_else (room_fault (length yard) room) (check_fault yard occ a long)

pub record Recorded : Type 0 where
  pub answer : Answer
  pub yard : List ℕ
  pub report : List ℕ
  pub undo_record : List ℕ

abbrev pub recording : (answer : Answer) (yard report r : List ℕ) → Recorded
recording answer yard report r = record { answer = answer; yard = yard; report = report; undo_record = r }

-- the check of the old yard, and the record filled
abbrev pub recorded_done : List ℕ → List ℕ → Checked → Recorded
recorded_done old r c = recording c.answer c.yard c.report (filled old c.yard r)

-- by the number of the refusal f, which leaves the yard, the report and the record
abbrev pub recorded_by : ℕ → Refusal → Recorded → List ℕ → List ℕ → List ℕ → Recorded
recorded_by zero f done yard report r = done
recorded_by (suc n) f done yard report r = recording (Refused f) yard report r

unfoldable pub recorded_with : (yard occ : List ℕ) (a : CheckArgs) (report r : List ℕ) → Recorded
recorded_with yard occ a report r =
    let f = recorded_fault yard occ a (length report) (length r) in
    let done = recorded_done yard r (checked_with yard occ a report) in
    recorded_by f.number f done yard report r

-- the widths, the yard, the occupancy, the blocking list, the moved train, begin, local, the round limit, the report, the record
abbrev pub recorded_in : (w : Widths) (yard occ blocking : List ℕ) (moved begin : ℕ) (local : Bool) (limit : ℕ) (report r : List ℕ) → Recorded
recorded_in w yard occ blocking moved begin local limit report r =
    recorded_with yard occ (record { widths = w; blocking = blocking; moved = moved; begin = begin; local = local; limit = limit }) report r

-- over an occupancy of u16 entries, and over one of u32 entries (document 02, Q-6)
abbrev pub recorded : (yard occ blocking : List ℕ) (moved begin : ℕ) (local : Bool) (limit : ℕ) (report r : List ℕ) → Recorded
recorded yard occ blocking moved begin local limit report r = recorded_in Narrow yard occ blocking moved begin local limit report r

abbrev pub recorded_wide : (yard occ blocking : List ℕ) (moved begin : ℕ) (local : Bool) (limit : ℕ) (report r : List ℕ) → Recorded
recorded_wide yard occ blocking moved begin local limit report r = recorded_in Either yard occ blocking moved begin local limit report r

-- what the code gives
abbrev pub recorded_of : (x : Code.Answer) (yard report r : List ℕ) → Recorded
recorded_of x yard report r = recording (answered_of x) yard report r

-- ---- undo

-- the bytes filled lie within the buffer, and are as many as a check of a yard of y bytes fills; the offsets are such a check's
unfoldable pub numbers_fit : ℕ → List ℕ → Bool
numbers_fit y r = leb (filled_bytes y) (length r) && (eqb (le_at 4 r 0) (filled_bytes y) && (eqb (le_at 4 r 8) old_offset && eqb (le_at 4 r 12) (written_offset y)))

-- the old yard passes 14, and S is its
unfoldable pub old_fits : ℕ → List ℕ → Bool
old_fits y r = yard_fits (old_yard y r) && eqb (le_at 4 r 4) (slot_count (old_yard y r))

-- the yard that the record says was written is this one, byte for byte
unfoldable pub was_written : List ℕ → List ℕ → Bool
was_written yard r = all_below (length yard) (λ i. eqb (get_or r (written_offset (length yard) + i) 0) (get_or yard i 0))

-- else 21
unfoldable pub undo_fits : List ℕ → List ℕ → Bool
undo_fits yard r = numbers_fit (length yard) r && (old_fits (length yard) r && was_written yard r)

pub record Undone : Type 0 where
  pub answer : Taken.Answer
  pub yard : List ℕ

abbrev pub undoing : Taken.Answer → List ℕ → Undone
undoing answer yard = record { answer = answer; yard = yard }

-- the old yard; a refused undo leaves the yard
abbrev pub undone_by : Bool → List ℕ → List ℕ → Undone
undone_by true yard r = undoing Taken.Done (old_yard (length yard) r)
undone_by false yard r = undoing (Taken.Refused (refused 21 0)) yard

unfoldable pub undone : List ℕ → List ℕ → Undone
undone yard r = undone_by (undo_fits yard r) yard r
