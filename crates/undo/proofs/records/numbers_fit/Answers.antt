use Rattle.std.proofs.Common.{rules, tests}
use Rattle.undo.specs.Undo.{numbers_fit}
use Rattle.undo.proofs.records.numbers_fit.Goals as goal

pub returns-then-u32_at-eq16 : goal.returns-then-u32_at-eq16
unfolding numbers_fit
returns-then-u32_at-eq16 c = search (rules, tests)

pub returns-else-u32_at-eq16 : goal.returns-else-u32_at-eq16
unfolding numbers_fit
returns-else-u32_at-eq16 c = search (rules, tests)
