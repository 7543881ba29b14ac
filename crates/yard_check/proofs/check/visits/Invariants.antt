use mathlib.Core.Path.{◌≡◌}
use mathlib.Core.Bool.{Bool}
use mathlib.Core.List.{List}
use Prim.Native.Nat.{ℕ, ◌+◌, ◌≤◌, ◌<◌}
use lib.ListN.{length}
use Rattle.yard_check.specs.Check.{Row, yard_after, report_after}
use Rattle.yard_check.specs.Checks.{asked, tally_after, NextTurn, span_image, Agree}
use Rattle.yard_check.proofs.check.visits.Given as goal

abbrev pub invariant-loop-n : goal.invariant-loop-n
invariant-loop-n l = let A = asked l.g in
    (l.s.from ≤ l.n) × (l.n ≤ l.s.until) × (l.yard ≡ yard_after l.initial.yard (span_image l.initial.yard l.g.occ.now A l.s.from) l.n) × (length l.room ≡ length l.initial.room) × (length l.report ≡ length l.initial.report) × (l.n < l.s.until → NextTurn l.x (l.n + 1))
    × ((rows : ℕ → Row) (seen : ℕ → Bool) → Agree l.initial.yard l.g.occ.now A l.s (length l.initial.room) rows seen
    → (l.initial.x ≡ tally_after rows seen A.begin l.s.from → l.x ≡ tally_after rows seen A.begin l.n) × ((r : List ℕ) → l.initial.report ≡ report_after l.s.wide rows r l.s.from → l.report ≡ report_after l.s.wide rows r l.n))
