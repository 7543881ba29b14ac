use mathlib.Core.Path.{◌≡◌}
use lib.ListN.{length}
use Rattle.text.specs.Text.{text_of, Put}
use Rattle.text.specs.Columns.{blanks}
use Rattle.text.proofs.put_blanks.Given as goal

abbrev pub invariant-loop : goal.invariant-loop
invariant-loop l = (length l.text ≡ length l.initial.text) × Put (blanks l.counter) (text_of l.count l.initial.text) (text_of l.n l.text)
