-- The yard within a bundle: where it lies, what is left behind the bytes before it, and room for the other parts. Assumes nothing.
use mathlib.Core.Path.{◌≡◌, refl, ap, ◌∙◌}
use mathlib.Core.Bool.{true, false}
use mathlib.Core.List.{List, [], ◌++◌, append-nil}
use Prim.Native.Nat.{ℕ, ◌*◌, ◌-◌, ◌≤◌, ◌<◌}
use native.Mathlib.Omega.{arith}
use lib.ListN.{length, take, drop, replicate, length-drop, drop_of_length-le}
use lib.Seq.{take_all}
use borrow.Rule.Slice.PartMut.{mid_of, post_of, put_mid}
use Rattle.link_rules.specs.Octets.{le_at}
use Rattle.link_rules.specs.Refusals.{refused}
use Rattle.yard_check.specs.Check.{row_size, Checked, Refused}
use Rattle.yard_check.specs.Checks.{checked_of}
use Rattle.yard_check.specs.declared.check.Answer as Code
use Rattle.yard_check.specs.Yard.{yard_fits}
use Rattle.sheet_text.specs.Sheet.{bundle_fits, occupancy_count, blocking_count, yard_offset, bundle_occupancy, bundle_blocking, bundle_yard, report_slots, checked_bundle}
use Rattle.sheet_text.proofs.BundleLaws.{Parts}
use Rattle.bundle_check.specs.declared.Numbers.{Numbers}
use Rattle.bundle_check.specs.BundleCheck.{report_length, numbers_of, checked_from, leaves, checked_in_bundle, bundle_checked, bundle_of}

-- ---- the report

report_empty : report_slots [] ≡ 0
unfolding report_slots yard_fits le_at
report_empty = refl

-- the yard of a bundle whose yard begins past its end is empty
pub report-none : (b : List ℕ) → length b < yard_offset b → report_length b ≡ 0
report-none b h = let e : bundle_yard b ≡ [] = drop_of_length-le b {i = yard_offset b} (omega arith) in ap (λ (y : List ℕ). row_size false * report_slots y) e ∙ ap (λ (n : ℕ). row_size false * n) report_empty

pub report-from : (b : List ℕ) (at : ℕ) → at ≡ yard_offset b → report_slots (take (length b - at) (drop at b)) ≡ report_slots (bundle_yard b)
report-from b at e = ap report_slots (take_all (length b - at) (drop at b) (omega (arith, length-drop at b)) ∙ ap (λ (n : ℕ). drop n b) e)

-- ---- what is left

-- a part up to the end comes back behind the bytes before it
pub left_behind : (at : ℕ) (bs ys report : List ℕ) (x : Code.Answer) (c : List ℕ → Checked) → checked_of x ys report ≡ c (mid_of at (length bs - at) bs)
    → bundle_of x (put_mid at (length bs - at) bs ys) report ≡ leaves (take at bs) (c (drop at bs))
left_behind at bs ys report x c h =
    let whole : mid_of at (length bs - at) bs ≡ drop at bs = take_all (length bs - at) (drop at bs) (omega (arith, length-drop at bs)) in
    let end : post_of at (length bs - at) bs ≡ [] = drop_of_length-le (drop at bs) {i = length bs - at} (omega (arith, length-drop at bs)) in
    ap (λ (z : List ℕ). bundle_of x (take at bs ++ z) report) (ap (λ (z : List ℕ). ys ++ z) end ∙ append-nil ys) ∙ ap (leaves (take at bs)) (h ∙ ap c whole)

module _ (b report : List ℕ) (at : ℕ) (occ blocking : List ℕ) (n : Numbers) where
  pub in-bundle : at ≡ yard_offset b → occ ≡ bundle_occupancy b → blocking ≡ bundle_blocking b → n ≡ numbers_of b
      → leaves (take at b) (checked_from at b occ blocking n report) ≡ checked_in_bundle b report
  in-bundle e o l m = rw (e, o, l, m)

-- ---- room

pub room-occupancy : (n r : ℕ) {b : List ℕ} → Parts b → n ≡ occupancy_count b → 32752 ≡ r → n ≤ r
room-occupancy n r p e h = omega (arith, p.blocking-begins, p.yard-begins, p.yard-within, p.short)

pub room-blocking : (n r : ℕ) {b : List ℕ} → Parts b → n ≡ blocking_count b → 16376 ≡ r → n ≤ r
room-blocking n r p e h = omega (arith, p.blocking-begins, p.yard-begins, p.yard-within, p.short)

-- ---- 17 first

pub fitting : (b report : List ℕ) → bundle_fits b ≡ true → bundle_checked b report ≡ checked_in_bundle b report
unfolding bundle_checked
fitting b report h = rw (h, bundle_checked)

pub misfit : (b report : List ℕ) → bundle_fits b ≡ false → bundle_checked b report ≡ record { answer = Refused (refused 17 0); bundle = b; report = report }
unfolding bundle_checked
misfit b report h = rw (h, bundle_checked)

-- the check is the one whose sheet is printed: sheet lends a report of zeros
pub as_the_sheet : (b : List ℕ) → bundle_fits b ≡ true → bundle_checked b (replicate (report_length b) 0) ≡ leaves (take (yard_offset b) b) (checked_bundle b)
unfolding checked_bundle
as_the_sheet b h = fitting b (replicate (report_length b) 0) h
