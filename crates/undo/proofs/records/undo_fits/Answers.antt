use Rattle.std.proofs.Common.{rules, tests}
use Rattle.undo.specs.Undo.{undo_fits}
use lib.ListN.{length}
use Rattle.undo.proofs.TestLaws.{numbers-room}
use Rattle.undo.proofs.records.undo_fits.Goals as goal

pub returns-then-old_fits : goal.returns-then-old_fits
unfolding undo_fits
returns-then-old_fits c = search (rules, tests)

pub returns-else-old_fits : goal.returns-else-old_fits
unfolding undo_fits
returns-else-old_fits c = search (rules, tests)

pub old_fits-requires : goal.old_fits-requires
old_fits-requires c = let a = c.args in numbers-room (length a.yard.now) a.undo_record.now (search (rules, tests))

pub was_written-requires : goal.was_written-requires
was_written-requires c = let a = c.args in numbers-room (length a.yard.now) a.undo_record.now (search (rules, tests))
