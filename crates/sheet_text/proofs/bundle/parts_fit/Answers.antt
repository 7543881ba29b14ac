use Rattle.std.proofs.Common.{rules, tests}
use Rattle.sheet_text.specs.Sheet.{parts_fit}
use Rattle.sheet_text.proofs.bundle.parts_fit.Goals as goal

pub returns-then-yard-blocking : goal.returns-then-yard-blocking
unfolding parts_fit
returns-then-yard-blocking c = search (rules, tests)

pub returns-else-yard-blocking : goal.returns-else-yard-blocking
unfolding parts_fit
returns-else-yard-blocking c = search (rules, tests)
