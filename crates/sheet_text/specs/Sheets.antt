-- The room that the code of the sheet lends for the parts of a bundle. Assumes nothing.
use Rattle.std.specs.Prelude.{ℕ, ◌+◌, ◌*◌, ◌≡◌, false, List, length, replicate}
use Rattle.yard_check.specs.Check.{row_size}
use Rattle.sheet_text.specs.Sheet.{occupancy_count, blocking_count, yard_offset, bundle_yard, report_slots}

-- each part has its length, and the report is blank
pub record Lent (b occ blocking yard report : List ℕ) : Type 0 where
  pub occupancy : length occ ≡ occupancy_count b
  pub blocking-links : length blocking ≡ blocking_count b
  pub yard-end : yard_offset b + length yard ≡ length b
  pub blank : report ≡ replicate (row_size false * report_slots (bundle_yard b)) 0
