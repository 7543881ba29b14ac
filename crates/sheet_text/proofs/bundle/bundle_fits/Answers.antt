use Rattle.std.proofs.Common.{rules, tests}
use Rattle.sheet_text.specs.Sheet.{bundle_fits}
use Rattle.sheet_text.proofs.bundle.bundle_fits.Goals as goal

pub returns-then-u16_at-le1 : goal.returns-then-u16_at-le1
unfolding bundle_fits
returns-then-u16_at-le1 c = search (rules, tests)

pub returns-else-u16_at-le1 : goal.returns-else-u16_at-le1
unfolding bundle_fits
returns-else-u16_at-le1 c = search (rules, tests)
