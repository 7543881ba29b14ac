-- What the code of a check gives, read as the definitions of Check have it, and its loop over the slots. Assumes nothing.
use Rattle.std.specs.Prelude.{ℕ, zero, suc, ◌+◌, ◌*◌, ◌-◌, ◌^◌, ◌≤◌, ◌<◌, ◌≡◌, Bool, cond, false, ◌&&◌, List, ltb, eqb, length}
use Rattle.link_rules.specs.Refusals.{no_refusal}
use Rattle.link_rules.specs.declared.refusal.Refusal.{Refusal}
use Rattle.image_fault.specs.declared.Widths.{Widths}
use Rattle.update_definition.specs.Update as Update
use Rattle.update_definition.specs.UpdateImage.{call_fault, given_fault}
use Rattle.yard_check.specs.Yard.{yard_size, slot_count, part_begin, part_end, part_of, with_part}
use Rattle.yard_check.specs.Check.{CheckArgs, wide_rows, Row, plain_row, refused_row, is_finished_row, is_blocked_row, is_erred_row, slot_row, slot_image, yard_after, report_after, how_many, first_not, Answer, Refused, Erred, Done, Checked, check, checked_with, slot_set, is_seen, changed_slots}
use Rattle.yard_check.specs.declared.check.Answer as Code
use Rattle.yard_check.specs.declared.check.Answer.TheVariants as Answers
use Rattle.yard_check.specs.declared.check.Args.{Args}
use Rattle.yard_check.specs.declared.check.Given.{Given}
use Rattle.yard_check.specs.declared.check.Row as Columns
use Rattle.yard_check.specs.declared.check.Counts.{Counts}
use Rattle.yard_check.specs.declared.check.Seen.{Seen}
use Rattle.yard_check.specs.declared.check.Span.{Span}
use Rattle.yard_check.specs.declared.check.Watched.{Watched}

-- ---- what is given and answered

abbrev pub args_of : Widths → List ℕ → Args → CheckArgs
args_of w blocking a = record { widths = w; blocking = blocking; moved = a.moved.0; begin = a.begin; local = a.local; limit = a.limit }

abbrev pub asked : Given → CheckArgs
asked g = args_of g.widths g.blocking.now g.args

abbrev pub row_of : Columns.Row → Row
row_of r = record { code = r.code; place = r.place; rounds = r.rounds; holder = r.holder.0; strays = r.strays; faults = r.faults; met = r.met.0 }

abbrev pub answered_of : Code.Answer → Answer
answered_of (Answers.Refused r) = Refused r
answered_of (Answers.Erred n) = Erred n
answered_of (Answers.Done deadlock next) = Done deadlock next

-- with the yard and the report that are left
abbrev pub checked_of : Code.Answer → List ℕ → List ℕ → Checked
checked_of x yard report = check (answered_of x) yard report

-- the check that is defined, and the set of the slots whose image it changed, of those that room of so many bytes holds
pub record WatchedAs (w : Widths) (yard occ blocking : List ℕ) (a : Args) (report : List ℕ) (room : ℕ) (x : Watched) (left report' : List ℕ) : Type 0 where
  pub checked : checked_of x.answer left report' ≡ checked_with yard occ (args_of w blocking a) report
  pub changed : x.changed ≡ changed_slots room yard left

-- ---- the row of a slot

-- that is not updated, by the number of the refusal f: refused by 6 to 9 or 22, else this code
abbrev pub stays_row : ℕ → Refusal → ℕ → Row
stays_row zero f code = plain_row code
stays_row (suc n) f code = refused_row f 0 0

-- what an update counts and its refusal have room in their columns
abbrev pub StatusFits : Update.Status → Type 0
StatusFits Update.Success = Unit {0}
StatusFits (Update.Blocked holder) = Unit {0}
StatusFits (Update.Faulty n) = n < 4294967296
StatusFits (Update.Refused r) = r.number ≤ 22

abbrev pub ColumnsFit : Update.Status → ℕ → Type 0
ColumnsFit s strays = StatusFits s × (strays < 4294967296)

-- ---- the loop over the slots

-- one more slot
abbrev pub tallied_of : Counts → Row → (seen : Bool) → ℕ → Counts
tallied_of y r seen t =
    record {
      erred = cond (is_erred_row r) 1 0 + y.erred;
      blocked = cond (is_blocked_row r) 1 0 + y.blocked;
      next = cond (is_finished_row r && eqb y.next t) (t + 1) y.next;
      changed = cond seen (2 ^ t) 0 + y.changed;
    }

-- of slots 1 to n
abbrev pub tally_after : (ℕ → Row) → (ℕ → Bool) → ℕ → ℕ → Counts
tally_after rows seen begin n =
    record {
      erred = how_many (λ t. is_erred_row (rows t)) n;
      blocked = how_many (λ t. is_blocked_row (rows t)) n;
      next = first_not (λ t. is_finished_row (rows t)) (n + 1 - begin) begin;
      changed = slot_set seen n;
    }

-- the counts of the slots below t, which is one
pub record NextTurn (y : Counts) (t : ℕ) : Type 0 where
  pub erred : y.erred < t
  pub blocked : y.blocked < t
  pub changed : y.changed < 2 ^ t
  pub slot : t ≤ 63

-- the parts lie one behind the other within the yard, each of 64 bytes or more: all that 14 asks but the trains
pub record Lies (yard : List ℕ) : Type 0 where
  pub size : yard_size yard ≡ length yard
  pub some : 1 ≤ slot_count yard
  pub few : slot_count yard ≤ 63
  pub first : part_begin yard 1 ≡ 8 + 4 * slot_count yard
  pub part : (t : ℕ) → 1 ≤ t → t ≤ slot_count yard → part_begin yard t + 64 ≤ part_end yard t

-- t is a slot of such a yard, and the call is not refused, by 22 neither
pub record Visits (yard occ : List ℕ) (a : CheckArgs) (t : ℕ) : Type 0 where
  pub lies : Lies yard
  pub low : 1 ≤ t
  pub high : t ≤ slot_count yard
  pub call : (call_fault occ a.blocking a.moved a.limit).number ≡ 0
  pub given : given_fault a.widths (part_of yard t) occ a.moved ≡ no_refusal

-- the visit to slot t changes its image, and room of so many bytes holds it
abbrev pub slot_seen : (room : ℕ) (yard occ : List ℕ) → CheckArgs → ℕ → Bool
slot_seen room yard occ a t = is_seen room (part_of yard t) (slot_image yard occ a t)

-- the row of the visit to slot t, the yard that it leaves, and whether it changed the image
pub record SlotVisited (yard occ : List ℕ) (a : CheckArgs) (t room : ℕ) (r : Seen) (left : List ℕ) : Type 0 where
  pub row : row_of r.row ≡ slot_row yard occ a t
  pub yard-left : left ≡ with_part yard t (slot_image yard occ a t)
  pub changed : r.changed ≡ slot_seen room yard occ a t

-- the slots of a span can be visited, and y has counts of those before it
pub record Spans (yard occ : List ℕ) (a : CheckArgs) (s : Span) (y : Counts) : Type 0 where
  pub lies : Lies yard
  pub up : s.from < s.until
  pub inside : s.until ≤ slot_count yard
  pub call : (call_fault occ a.blocking a.moved a.limit).number ≡ 0
  pub given : (t : ℕ) → s.from < t → t ≤ s.until → given_fault a.widths (part_of yard t) occ a.moved ≡ no_refusal
  pub turn : NextTurn y (s.from + 1)

-- the image of slot t once the slots behind from were visited
abbrev pub span_image : List ℕ → List ℕ → CheckArgs → (from t : ℕ) → List ℕ
span_image yard occ a from t = cond (ltb from t) (slot_image yard occ a t) (part_of yard t)

-- rows and seen, of all slots, are those of the visits within the span
pub record Agree (yard occ : List ℕ) (a : CheckArgs) (s : Span) (room : ℕ) (rows : ℕ → Row) (seen : ℕ → Bool) : Type 0 where
  pub row : (t : ℕ) → s.from < t → t ≤ s.until → slot_row yard occ a t ≡ rows t
  pub changed : (t : ℕ) → s.from < t → t ≤ s.until → slot_seen room yard occ a t ≡ seen t
  pub below : (t : ℕ) → t < a.begin → is_finished_row (rows t) ≡ false

-- the slots of a span were visited: counts and report go on from those of the slots before it
pub record SpanVisited (yard occ : List ℕ) (a : CheckArgs) (s : Span) (room : ℕ) (y : Counts) (report : List ℕ) (x : Counts) (yard' report' : List ℕ) : Type 0 where
  pub yard-left : yard' ≡ yard_after yard (span_image yard occ a s.from) s.until
  pub tally : (rows : ℕ → Row) (seen : ℕ → Bool) → Agree yard occ a s room rows seen → y ≡ tally_after rows seen a.begin s.from → x ≡ tally_after rows seen a.begin s.until
  pub report-left : (rows : ℕ → Row) (seen : ℕ → Bool) (r : List ℕ) → Agree yard occ a s room rows seen → report ≡ report_after s.wide rows r s.from
      → report' ≡ report_after s.wide rows r s.until

-- every slot was visited
pub record AllVisited (yard occ : List ℕ) (a : CheckArgs) (report : List ℕ) (room : ℕ) (x : Counts) (yard' report' : List ℕ) : Type 0 where
  pub tally : x ≡ tally_after (slot_row yard occ a) (slot_seen room yard occ a) a.begin (slot_count yard)
  pub yard-left : yard' ≡ yard_after yard (slot_image yard occ a) (slot_count yard)
  pub report-left : report' ≡ report_after (wide_rows a.widths yard) (slot_row yard occ a) report (slot_count yard)
