use Rattle.std.proofs.Common.{rules, tests}
use Rattle.sheet_text.specs.Sheet.{report_slots}
use Rattle.sheet_text.proofs.bundle.report_slots.Goals as goal

pub returns-then-yard_fits : goal.returns-then-yard_fits
unfolding report_slots
returns-then-yard_fits c = search (rules, tests)

pub returns-else-yard_fits : goal.returns-else-yard_fits
unfolding report_slots
returns-else-yard_fits c = search (rules, tests)
