-- The check over a yard (document 01, Check; check_deadlock, dispatch.rs 45-91): its refusals in order, the visits to the slots, the report, the answer.
-- One definition over the widths of images that a call takes (document 02, Q-6). Assumes nothing.
use Rattle.std.specs.Prelude.{ℕ, zero, suc, ◌+◌, ◌*◌, ◌-◌, ◌^◌, Bool, true, false, cond, not, ◌&&◌, List, ltb, leb, eqb, length}
use Rattle.link_rules.specs.Octets.{le_at, put_le}
use Rattle.image.specs.Image.{path_count_of, is_wide, largest_of}
use Rattle.image_reader.specs.Reader.{free_of}
use Rattle.image_fault.specs.ImageFault.{fault_with}
use Rattle.image_fault.specs.declared.Widths.{Widths}
use Rattle.image_fault.specs.declared.Widths.TheVariants.{Narrow, Either}
use Rattle.link_rules.specs.LinkIdx.{no_train}
use Rattle.link_rules.specs.Refusals.{no_refusal, refused, or_else}
use Rattle.link_rules.specs.declared.refusal.Refusal.{Refusal}
use Rattle.update_definition.specs.Update.{Answer as UpdateAnswer, Status, Success, Blocked, Faulty, Refused as UpdateRefused}
use Rattle.update_definition.specs.UpdateImage.{UpdatedImage, call_fault, updated_image_in}
use Rattle.wide_occupancy.specs.WideOccupancy.{large_train_fault}
use Rattle.yard_check.specs.Bytes.{same_bytes}
use Rattle.yard_check.specs.Yard.{slot_count, part_of, with_part, yard_fault}

-- what a check is given beside the yard, the occupancy and the report
pub record CheckArgs : Type 0 where
  -- the images that the call takes: narrow ones, over u16 entries; either width, over u32 entries
  pub widths : Widths
  pub blocking : List ℕ
  pub moved : ℕ
  pub begin : ℕ
  pub local : Bool
  pub limit : ℕ

-- ---- slots of a kind, and the widths of a yard's images

-- how many of the slots 1 to n pass
unfoldable pub how_many : (ℕ → Bool) → ℕ → ℕ
how_many test zero = 0
how_many test (suc n) = cond (test (suc n)) 1 0 + how_many test n

-- how many images are wide
abbrev pub wide_count : List ℕ → ℕ
wide_count yard = how_many (λ t. is_wide (part_of yard t)) (slot_count yard)

-- the largest train that every image holds: 999,999 only where all images are wide
abbrev pub largest_held : List ℕ → ℕ
largest_held yard = largest_of (eqb (wide_count yard) (slot_count yard))

-- the report's records are wide where any image is
abbrev pub wide_rows : Widths → List ℕ → Bool
wide_rows Narrow yard = false
wide_rows Either yard = not (eqb (wide_count yard) 0)

-- ---- where a report's records and their columns stand (documents 01 and 02, Q-14): u16 code, u16 place, rounds, holder; u32 strays, faults, met
-- in a wide one (Q-6) 0 stands in the holder's place, and the holder as a u32 before met

-- bytes of a record
abbrev pub row_size : (wide : Bool) → ℕ
row_size false = 20
row_size true = 24

-- where the record of slot t stands
abbrev pub row_place : (wide : Bool) → ℕ → ℕ
row_place wide t = row_size wide * (t - 1)

-- where each column stands in the record from k on
abbrev pub code_at : ℕ → ℕ
code_at k = k

abbrev pub place_at : ℕ → ℕ
place_at k = k + 2

abbrev pub rounds_at : ℕ → ℕ
rounds_at k = k + 4

abbrev pub holder_at : ℕ → ℕ
holder_at k = k + 6

abbrev pub strays_at : ℕ → ℕ
strays_at k = k + 8

abbrev pub faults_at : ℕ → ℕ
faults_at k = k + 12

abbrev pub met_at : ℕ → ℕ
met_at k = k + 16

abbrev pub wide_holder_at : ℕ → ℕ
wide_holder_at k = k + 16

abbrev pub wide_met_at : ℕ → ℕ
wide_met_at k = k + 20

-- ---- refusals 2, 4, 5, 14, 22, 15 and 16, in this order, with place 0

-- 22: an entry is above the largest train that every image holds; over u16 entries it is not asked
abbrev pub held_fault : Widths → (yard occ : List ℕ) → Refusal
held_fault Narrow yard occ = no_refusal
held_fault Either yard occ = large_train_fault (largest_held yard) occ no_train

-- 15: moved above S, or begin outside 1 to S + 1
unfoldable pub slots_fault : ℕ → CheckArgs → Refusal
slots_fault slots a = cond (leb a.moved slots && (leb 1 a.begin && leb a.begin (slots + 1))) no_refusal (refused 15 0)

-- 16: the report has not a record for each slot
unfoldable pub report_fault : (wide : Bool) → ℕ → ℕ → Refusal
report_fault wide slots long = cond (eqb long (row_size wide * slots)) no_refusal (refused 16 0)

-- long is the length of the report
unfoldable pub check_fault : (yard occ : List ℕ) (a : CheckArgs) (long : ℕ) → Refusal
check_fault yard occ a long =
    or_else (call_fault occ a.blocking a.moved a.limit)
    (or_else (yard_fault yard)
    (or_else (held_fault a.widths yard occ)
    (or_else (slots_fault (slot_count yard) a)
    (report_fault (wide_rows a.widths yard) (slot_count yard) long))))

-- ---- report (document 01): a record for each slot

pub record Row : Type 0 where
  pub code : ℕ
  pub place : ℕ
  pub rounds : ℕ
  pub holder : ℕ
  pub strays : ℕ
  pub faults : ℕ
  -- met (document 02, Q-14): the train met in the first round of an update that is not refused
  pub met : ℕ

-- columns that don't apply are 0
abbrev pub plain_row : ℕ → Row
plain_row code = record { code = code; place = 0; rounds = 0; holder = 0; strays = 0; faults = 0; met = 0 }

abbrev pub unvisited_row : Row
unvisited_row = plain_row 0

abbrev pub finished_row : Row
finished_row = plain_row 1

abbrev pub moved_row : Row
moved_row = plain_row 2

abbrev pub refused_row : Refusal → ℕ → ℕ → Row
refused_row f rounds strays = record { code = 16 + f.number; place = f.place; rounds = rounds; holder = 0; strays = strays; faults = 0; met = 0 }

-- holder (document 02, Q-3): the train by which a slot is blocked, else 0
abbrev pub status_row : (status : Status) (rounds strays met : ℕ) → Row
status_row Success rounds strays met = record { code = 3; place = 0; rounds = rounds; holder = 0; strays = strays; faults = 0; met = met }
status_row (Blocked holder) rounds strays met = record { code = 4; place = 0; rounds = rounds; holder = holder.0; strays = strays; faults = 0; met = met }
status_row (Faulty n) rounds strays met = record { code = 5; place = 0; rounds = rounds; holder = 0; strays = strays; faults = n; met = met }
status_row (UpdateRefused f) rounds strays met = refused_row f rounds strays

-- of a slot that was updated, from the update's answer
abbrev pub updated_row : UpdateAnswer → Row
updated_row u = status_row u.status u.tally.rounds u.tally.strays u.met.0

abbrev pub is_finished_row : Row → Bool
is_finished_row r = eqb r.code 1

abbrev pub is_blocked_row : Row → Bool
is_blocked_row r = eqb r.code 4

-- faulty or refused
abbrev pub is_erred_row : Row → Bool
is_erred_row r = leb 5 r.code

-- a row in the record from k on, written and read
unfoldable pub put_row : (wide : Bool) → Row → ℕ → List ℕ → List ℕ
put_row false r k bs =
    put_le 4 r.met (met_at k)
    (put_le 4 r.faults (faults_at k)
    (put_le 4 r.strays (strays_at k)
    (put_le 2 r.holder (holder_at k)
    (put_le 2 r.rounds (rounds_at k)
    (put_le 2 r.place (place_at k)
    (put_le 2 r.code (code_at k) bs))))))
put_row true r k bs =
    put_le 4 r.met (wide_met_at k)
    (put_le 4 r.holder (wide_holder_at k)
    (put_le 4 r.faults (faults_at k)
    (put_le 4 r.strays (strays_at k)
    (put_le 2 0 (holder_at k)
    (put_le 2 r.rounds (rounds_at k)
    (put_le 2 r.place (place_at k)
    (put_le 2 r.code (code_at k) bs)))))))

unfoldable pub row_from : (wide : Bool) → List ℕ → ℕ → Row
row_from false bs k =
    record {
      code = le_at 2 bs (code_at k);
      place = le_at 2 bs (place_at k);
      rounds = le_at 2 bs (rounds_at k);
      holder = le_at 2 bs (holder_at k);
      strays = le_at 4 bs (strays_at k);
      faults = le_at 4 bs (faults_at k);
      met = le_at 4 bs (met_at k);
    }
row_from true bs k =
    record {
      code = le_at 2 bs (code_at k);
      place = le_at 2 bs (place_at k);
      rounds = le_at 2 bs (rounds_at k);
      holder = le_at 4 bs (wide_holder_at k);
      strays = le_at 4 bs (strays_at k);
      faults = le_at 4 bs (faults_at k);
      met = le_at 4 bs (wide_met_at k);
    }

-- the report's record of slot t
abbrev pub row_at : (wide : Bool) → List ℕ → ℕ → Row
row_at wide report t = row_from wide report (row_place wide t)

-- ---- the visit to a slot (dispatch.rs 61-81)

-- is_finished (train_disp/mod.rs 75-77): free equals N
unfoldable pub is_finished : List ℕ → Bool
is_finished img = eqb (free_of img) (path_count_of img)

-- what a slot is reported with, and the image that is left in it
pub record Visit : Type 0 where
  pub row : Row
  pub image : List ℕ

abbrev pub visit : Row → List ℕ → Visit
visit r img = record { row = r; image = img }

-- by the number of the refusal f: refused by 6 to 9 or by 22 of a diverge record, else finished, else moved, else updated
abbrev pub visit_by : ℕ → Refusal → Bool → Bool → UpdatedImage → List ℕ → Visit
visit_by (suc n) f is_done is_moved u img = visit (refused_row f 0 0) img
visit_by zero f true is_moved u img = visit finished_row img
visit_by zero f false true u img = visit moved_row img
visit_by zero f false false u img = visit (updated_row u.answer) u.image

-- of slot t with this image
unfoldable pub visited : (occ : List ℕ) (a : CheckArgs) (t : ℕ) (img : List ℕ) → Visit
visited occ a t img =
    let f = fault_with a.widths no_refusal img (length occ) in
    let u = updated_image_in a.widths img occ a.blocking a.moved a.local a.limit in
    visit_by f.number f (is_finished img) (eqb t a.moved) u img

-- slots below begin are not visited
unfoldable pub slot_visit : (yard occ : List ℕ) (a : CheckArgs) (t : ℕ) → Visit
slot_visit yard occ a t =
    let img = part_of yard t in
    let v = visited occ a t img in
    cond (ltb t a.begin) (visit unvisited_row img) v

abbrev pub slot_row : (yard occ : List ℕ) (a : CheckArgs) (t : ℕ) → Row
slot_row yard occ a t = (slot_visit yard occ a t).row

abbrev pub slot_image : (yard occ : List ℕ) (a : CheckArgs) (t : ℕ) → List ℕ
slot_image yard occ a t = (slot_visit yard occ a t).image

-- ---- all slots, from the image and the row of each

-- the yard with the images of slots 1 to n
unfoldable pub yard_after : List ℕ → (ℕ → List ℕ) → ℕ → List ℕ
yard_after yard images zero = yard
yard_after yard images (suc n) = with_part (yard_after yard images n) (suc n) (images (suc n))

-- the report with the rows of slots 1 to n
unfoldable pub report_after : (wide : Bool) → (ℕ → Row) → List ℕ → ℕ → List ℕ
report_after wide rows report zero = report
report_after wide rows report (suc n) = put_row wide (rows (suc n)) (row_place wide (suc n)) (report_after wide rows report n)

-- the first of the k slots from t on that does not pass, or the one behind them
unfoldable pub first_not : (ℕ → Bool) → ℕ → ℕ → ℕ
first_not test zero t = t
first_not test (suc k) t = elim (test t) [ true ↦ first_not test k (t + 1) | false ↦ t ]

-- ---- the answer

-- refused; Erred with the number of faulty or refused slots; else the deadlock flag and the next begin
pub data Answer : Type 0 where
  Refused : Refusal → Answer
  Erred : ℕ → Answer
  Done : Bool → ℕ → Answer

abbrev pub answer_by : ℕ → Bool → ℕ → Answer
answer_by zero deadlock next = Done deadlock next
answer_by (suc n) deadlock next = Erred (suc n)

-- deadlock: a visited slot is blocked. next begin: the first unfinished slot from begin, or S + 1
unfoldable pub answer_of : (ℕ → Row) → ℕ → ℕ → Answer
answer_of rows slots begin =
    let next = first_not (λ t. is_finished_row (rows t)) (slots + 1 - begin) begin in
    answer_by (how_many (λ t. is_erred_row (rows t)) slots) (not (eqb (how_many (λ t. is_blocked_row (rows t)) slots) 0)) next

-- the answer, and the yard and the report that are left
pub record Checked : Type 0 where
  pub answer : Answer
  pub yard : List ℕ
  pub report : List ℕ

abbrev pub check : Answer → List ℕ → List ℕ → Checked
check answer yard report = record { answer = answer; yard = yard; report = report }

-- a check that is not refused, from the image and the row of each slot
abbrev pub check_over : (wide : Bool) → List ℕ → (ℕ → List ℕ) → (ℕ → Row) → ℕ → List ℕ → Checked
check_over wide yard images rows begin report =
    let slots = slot_count yard in
    check (answer_of rows slots begin) (yard_after yard images slots) (report_after wide rows report slots)

-- from the visits
abbrev pub check_done : (yard occ : List ℕ) (a : CheckArgs) (report : List ℕ) → Checked
check_done yard occ a report = check_over (wide_rows a.widths yard) yard (slot_image yard occ a) (slot_row yard occ a) a.begin report

-- by the number of the refusal f, which leaves the yard and the report
abbrev pub checked_by : ℕ → Refusal → Checked → List ℕ → List ℕ → Checked
checked_by zero f done yard report = done
checked_by (suc n) f done yard report = check (Refused f) yard report

unfoldable pub checked_with : (yard occ : List ℕ) (a : CheckArgs) (report : List ℕ) → Checked
checked_with yard occ a report =
    let f = check_fault yard occ a (length report) in
    let done = check_done yard occ a report in
    checked_by f.number f done yard report

-- the widths, the yard, the occupancy, the blocking list, the moved train, begin, local, the round limit, the report
abbrev pub checked_in : (w : Widths) (yard occ blocking : List ℕ) (moved begin : ℕ) (local : Bool) (limit : ℕ) (report : List ℕ) → Checked
checked_in w yard occ blocking moved begin local limit report =
    checked_with yard occ (record { widths = w; blocking = blocking; moved = moved; begin = begin; local = local; limit = limit }) report

-- over an occupancy of u16 entries (document 01), and over one of u32 entries (document 02, Q-6)
abbrev pub checked : (yard occ blocking : List ℕ) (moved begin : ℕ) (local : Bool) (limit : ℕ) (report : List ℕ) → Checked
checked yard occ blocking moved begin local limit report = checked_in Narrow yard occ blocking moved begin local limit report

abbrev pub checked_wide : (yard occ blocking : List ℕ) (moved begin : ℕ) (local : Bool) (limit : ℕ) (report : List ℕ) → Checked
checked_wide yard occ blocking moved begin local limit report = checked_in Either yard occ blocking moved begin local limit report

-- ---- which images a check changed (document 02, Q-10)

-- the set of the slots 1 to n that pass: slot t is the bit 2 ^ t
unfoldable pub slot_set : (ℕ → Bool) → ℕ → ℕ
slot_set test zero = 0
slot_set test (suc n) = cond (test (suc n)) (2 ^ suc n) 0 + slot_set test n

-- an image changed, byte for byte, and room of so many bytes holds its copy
unfoldable pub is_seen : (room : ℕ) (before after : List ℕ) → Bool
is_seen room before after = leb (length before) room && not (same_bytes before after)

-- the slots of a yard whose image is another in the yard that a check left
unfoldable pub changed_slots : (room : ℕ) (yard left : List ℕ) → ℕ
changed_slots room yard left = slot_set (λ t. is_seen room (part_of yard t) (part_of left t)) (slot_count yard)
