-- Matching (document 01) of yards, and of reports and answers of a check: p renumbers links, q trains, and slots with them. Assumes nothing.
use Rattle.std.specs.Prelude.{◌≡◌, Bool, List, map, ℕ, ◌≤◌, length}
use Rattle.free_path.specs.AnyOrder.{Perm}
use Rattle.image.specs.Image.{largest_train}
use Rattle.image.specs.ImageMatch.{ImagesMatch}
use Rattle.yard_check.specs.Yard.{slot_count, part_of}
use Rattle.yard_check.specs.Check.{CheckArgs, Row, row_at, Answer, Refused, Erred, Done}

-- every image holds trains up to top
abbrev pub TrainsHeld : ℕ → List ℕ → Type 0
TrainsHeld top yard = (t : ℕ) → 1 ≤ t → t ≤ slot_count yard → top ≤ largest_train (part_of yard t)

-- S is the same, and the renumbered slot's image matches; offsets in the yard may differ
pub record YardsMatch (p q : ℕ → ℕ) (yard yard' : List ℕ) : Type 0 where
  pub slots : slot_count yard' ≡ slot_count yard
  pub images : (t : ℕ) → 1 ≤ t → t ≤ slot_count yard → ImagesMatch p q (part_of yard t) (part_of yard' (q t))

-- the same code, place, rounds, strays and faults, and the renumbered holder and train met
abbrev pub r_row : (ℕ → ℕ) → Row → Row
r_row q r = record { code = r.code; place = r.place; rounds = r.rounds; holder = q r.holder; strays = r.strays; faults = r.faults; met = q r.met }

-- the renumbered slot's record; wide says of which size the records are
pub record ReportsMatch (q : ℕ → ℕ) (wide : Bool) (slots : ℕ) (report report' : List ℕ) : Type 0 where
  pub long : length report' ≡ length report
  pub rows : (t : ℕ) → 1 ≤ t → t ≤ slots → row_at wide report' (q t) ≡ r_row q (row_at wide report t)

-- the same refusal in both; Erred in both with the same number; or neither, with the same deadlock flag. The next begin is not compared
abbrev pub AnswersMatch : Answer → Answer → Type 0
AnswersMatch (Refused r) (Refused r') = r' ≡ r
AnswersMatch (Refused r) (Erred n') = ⊥
AnswersMatch (Refused r) (Done d b) = ⊥
AnswersMatch (Erred n) (Refused r) = ⊥
AnswersMatch (Erred n) (Erred n') = n' ≡ n
AnswersMatch (Erred n) (Done d b) = ⊥
AnswersMatch (Done d b) (Refused r) = ⊥
AnswersMatch (Done d b) (Erred n) = ⊥
AnswersMatch (Done d b) (Done d' b') = d' ≡ d

-- R holds of a check that was not refused
abbrev pub NotRefused : Type 0 → Answer → Type 0
NotRefused R (Refused r) = Unit {0}
NotRefused R (Erred n) = R
NotRefused R (Done d b) = R

-- what a check is given: the moved train is renumbered, and so are the blocking links, in any order with repeats kept; the other numbers are the same
pub record ArgsMatch (p q : ℕ → ℕ) (a a' : CheckArgs) : Type 0 where
  pub widths : a'.widths ≡ a.widths
  pub blocking : Perm ℕ (map p a.blocking) a'.blocking
  pub moved : a'.moved ≡ q a.moved
  pub begin : a'.begin ≡ a.begin
  pub local : a'.local ≡ a.local
  pub limit : a'.limit ≡ a.limit
