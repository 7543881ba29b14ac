-- Calls beside an index (document 02, Q-10): checks with and without an undo record, layouts and undos; refusal 25. Assumes nothing.
use Rattle.std.specs.Prelude.{ℕ, zero, suc, ◌≡◌, Bool, true, false, cond, not, ◌&&◌, List, leb, eqb, length}
use Rattle.link_rules.specs.Refusals.{no_refusal, or_else, refused_unless}
use Rattle.link_rules.specs.declared.refusal.Refusal.{Refusal}
use Rattle.link_rules.specs.Refusals as Step
use Rattle.image_fault.specs.ImageFault.{length_fault}
use Rattle.image_fault.specs.declared.Widths.{Widths}
use Rattle.train_disp.specs.TrainDisp as TrainDisp
use Rattle.train_disp.specs.TrainDisp.{laid, laid_out}
use Rattle.train_disp.specs.declared.Settings.{Settings}
use Rattle.yard_check.specs.Bytes.{same_bytes}
use Rattle.yard_check.specs.Check.{CheckArgs, Answer, Refused, checked_with}
use Rattle.yard_check.specs.Checks.{answered_of}
use Rattle.yard_check.specs.declared.check.Answer as Code
use Rattle.yard_check.specs.declared.check.Answer.TheVariants as Answers
use Rattle.undo.specs.Undo.{room_fault, recorded_with, undone}
use Rattle.link_index.specs.LinkIndex.{length_fits, refreshed}
use Rattle.link_index.specs.Slots.{slot_built}

-- ---- checks

-- 2, then 25: the length m of the index is not that of the occupancy, L; the check's own refusals follow
unfoldable pub lengths_fault : (l m : ℕ) → Refusal
lengths_fault l m = or_else (length_fault l) (refused_unless (eqb m l) 25)

-- the answer, and what is left
pub record Checked : Type 0 where
  pub answer : Answer
  pub yard : List ℕ
  pub report : List ℕ
  pub index : List ℕ

abbrev pub checking : Answer → (yard report index : List ℕ) → Checked
checking answer yard report index = record { answer = answer; yard = yard; report = report; index = index }

-- by the number of the refusal f, which leaves all
abbrev pub checked_by : (number : ℕ) (f : Refusal) (done : Checked) (yard report index : List ℕ) → Checked
checked_by zero f done yard report index = done
checked_by (suc n) f done yard report index = checking (Refused f) yard report index

-- the check, and the bits of the slots that it changed
unfoldable pub checked_beside : (yard occ : List ℕ) → CheckArgs → (report index : List ℕ) → Checked
checked_beside yard occ a report index =
    let f = lengths_fault (length occ) (length index) in
    let c = checked_with yard occ a report in
    checked_by f.number f (checking c.answer c.yard c.report (refreshed yard c.yard index)) yard report index

-- what the code gives
abbrev pub checked_of : Code.Answer → (yard report index : List ℕ) → Checked
checked_of x yard report index = checking (answered_of x) yard report index

-- the widths, the blocking list, the moved train, begin, local, the round limit
abbrev pub given_of : Widths → (blocking : List ℕ) (moved begin : ℕ) (local : Bool) (limit : ℕ) → CheckArgs
given_of w blocking moved begin local limit = record { widths = w; blocking = blocking; moved = moved; begin = begin; local = local; limit = limit }

abbrev pub is_refused : Code.Answer → Bool
is_refused (Answers.Refused f) = true
is_refused (Answers.Erred n) = false
is_refused (Answers.Done deadlock next) = false

-- ---- checks that fill an undo record

-- 20 first; y, room, l and m are the lengths of the yard, the record, the occupancy and the index
unfoldable pub recorded_fault : (y room l m : ℕ) → Refusal
recorded_fault y room l m = or_else (room_fault y room) (lengths_fault l m)

pub record Recorded : Type 0 where
  pub answer : Answer
  pub yard : List ℕ
  pub report : List ℕ
  pub undo_record : List ℕ
  pub index : List ℕ

abbrev pub recording : Answer → (yard report r index : List ℕ) → Recorded
recording answer yard report r index = record { answer = answer; yard = yard; report = report; undo_record = r; index = index }

abbrev pub recorded_by : (number : ℕ) (f : Refusal) (done : Recorded) (yard report r index : List ℕ) → Recorded
recorded_by zero f done yard report r index = done
recorded_by (suc n) f done yard report r index = recording (Refused f) yard report r index

unfoldable pub recorded_beside : (yard occ : List ℕ) → CheckArgs → (report r index : List ℕ) → Recorded
recorded_beside yard occ a report r index =
    let f = recorded_fault (length yard) (length r) (length occ) (length index) in
    let c = recorded_with yard occ a report r in
    recorded_by f.number f (recording c.answer c.yard c.report c.undo_record (refreshed yard c.yard index)) yard report r index

abbrev pub recorded_of : Code.Answer → (yard report r index : List ℕ) → Recorded
recorded_of x yard report r index = recording (answered_of x) yard report r index

-- ---- undo

pub record Undone : Type 0 where
  pub answer : Step.Answer
  pub yard : List ℕ
  pub index : List ℕ

abbrev pub undoing : Step.Answer → (yard index : List ℕ) → Undone
undoing answer yard index = record { answer = answer; yard = yard; index = index }

-- 25: a length outside 2 to 4,000; then 21
abbrev pub undone_by : (number : ℕ) (f : Refusal) (done : Undone) (yard index : List ℕ) → Undone
undone_by zero f done yard index = done
undone_by (suc n) f done yard index = undoing (Step.Refused f) yard index

unfoldable pub undone_beside : (yard r index : List ℕ) → Undone
undone_beside yard r index =
    let f = refused_unless (length_fits (length index)) 25 in
    let u = undone yard r in
    undone_by f.number f (undoing u.answer u.yard (refreshed yard u.yard index)) yard index

-- ---- layout

-- the layout's own 6: sizes, types and spare bytes
abbrev pub own_six : Refusal → Refusal
own_six f = cond (eqb f.number 6) f no_refusal

-- 5: train 0 or above 63; 6; 25: the length m of the index is not L. The layout's other refusals follow
unfoldable pub lay_out_fault : (est : List ℕ) (o : Settings) (size m : ℕ) → Refusal
lay_out_fault est o size m =
    or_else (refused_unless (not (eqb o.train_idx.0 0) && leb o.train_idx.0 63) 5)
    (or_else (own_six (TrainDisp.lay_out_fault est o size)) (refused_unless (eqb m o.links) 25))

pub record Laid : Type 0 where
  pub answer : Step.Answer
  pub image : List ℕ
  pub index : List ℕ

abbrev pub laying : Step.Answer → (img index : List ℕ) → Laid
laying answer img index = record { answer = answer; image = img; index = index }

abbrev pub laid_by : (number : ℕ) (f : Refusal) (done : Laid) (img index : List ℕ) → Laid
laid_by zero f done img index = done
laid_by (suc n) f done img index = laying (Step.Refused f) img index

-- the bits of slot t, where its image was one and is another
abbrev pub slot_kept : (old new : List ℕ) (t : ℕ) (index : List ℕ) → List ℕ
slot_kept old new t index = cond (not (same_bytes old new)) (slot_built new t index) index

-- into the image of the train's slot
unfoldable pub laid_beside : (est : List ℕ) (o : Settings) (img index : List ℕ) → Laid
laid_beside est o img index =
    let f = lay_out_fault est o (length img) (length index) in
    let r = laid_out est o img in
    laid_by f.number f (laying r.answer r.image (slot_kept img r.image o.train_idx.0 index)) img index

-- a layout past these refusals
pub record LaidAs (est : List ℕ) (o : Settings) (img index : List ℕ) (r : Step.Answer) (img' index' : List ℕ) : Type 0 where
  pub image : laid r img' ≡ laid_out est o img
  pub bits : index' ≡ slot_kept img img' o.train_idx.0 index
