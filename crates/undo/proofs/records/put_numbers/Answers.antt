use Rattle.undo.specs.Undo.{with_numbers}
use Rattle.undo.proofs.records.put_numbers.Goals as goal

pub returns : goal.returns
unfolding with_numbers
returns c = cc
