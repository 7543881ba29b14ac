-- The check of a bundle's yard in the bundle: what it answers, and the bundle and the report that it leaves. Assumes nothing.
use Rattle.std.specs.Prelude.{ℕ, ◌*◌, ◌≤◌, ◌≡◌, true, false, List, ◌++◌, eqb, length, take, drop}
use Rattle.link_rules.specs.Octets.{le_at}
use Rattle.link_rules.specs.Refusals.{refused}
use Rattle.yard_check.specs.Check.{row_size, Answer, Refused, Checked, checked}
use Rattle.yard_check.specs.Checks.{answered_of}
use Rattle.yard_check.specs.declared.check.Answer as Code
use Rattle.sheet_text.specs.Sheet.{bundle_fits, occupancy_count, blocking_count, bundle_occupancy, bundle_blocking, bundle_yard, yard_offset, report_slots}
use Rattle.bundle_check.specs.declared.Numbers.{Numbers}

pub record BundleChecked : Type 0 where
  pub answer : Answer
  pub bundle : List ℕ
  pub report : List ℕ

-- how long the report of a bundle's yard is; 0 for a yard that 14 refuses
abbrev pub report_length : List ℕ → ℕ
report_length b = row_size false * report_slots (bundle_yard b)

abbrev pub numbers_of : List ℕ → Numbers
numbers_of b = record { moved = record { 0 = le_at 2 b 24 }; begin = le_at 2 b 26; local = eqb (le_at 2 b 30) 1; limit = le_at 2 b 28 }

-- the check of the yard that stands in the bytes from a place on
abbrev pub checked_from : (at : ℕ) (bytes occ blocking : List ℕ) (n : Numbers) (report : List ℕ) → Checked
checked_from at bytes occ blocking n report = checked (drop at bytes) occ blocking n.moved.0 n.begin n.local n.limit report

-- what it leaves behind the bytes before that place
abbrev pub leaves : List ℕ → Checked → BundleChecked
leaves front c = record { answer = c.answer; bundle = front ++ c.yard; report = c.report }

-- the check of a bundle's yard: header, occupancy and blocking links stay
abbrev pub checked_in_bundle : List ℕ → List ℕ → BundleChecked
checked_in_bundle b report = leaves (take (yard_offset b) b) (checked_from (yard_offset b) b (bundle_occupancy b) (bundle_blocking b) (numbers_of b) report)

-- 17 first, then the check's own refusals; a refused call changes neither
unfoldable pub bundle_checked : List ℕ → List ℕ → BundleChecked
bundle_checked b report =
    let done = checked_in_bundle b report in
    elim (bundle_fits b) [ true ↦ done | false ↦ record { answer = Refused (refused 17 0); bundle = b; report = report } ]

-- room for the occupancy and the blocking links, and a yard that begins within the bundle
pub record Lends (b occ blocking : List ℕ) : Type 0 where
  pub occupancy : length occ ≡ occupancy_count b
  pub blocking-links : length blocking ≡ blocking_count b
  pub yard-within : yard_offset b ≤ length b

-- what the code gives
abbrev pub bundle_of : Code.Answer → List ℕ → List ℕ → BundleChecked
bundle_of x bundle report = record { answer = answered_of x; bundle = bundle; report = report }
