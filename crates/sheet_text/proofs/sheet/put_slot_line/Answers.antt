use mathlib.Core.Path.{ap, sym}
use Rattle.yard_check.specs.Check.{row_from}
use Rattle.sheet_text.specs.Sheet.{code_word, slot_line}
use Rattle.text.proofs.TextLaws.{then, put_is}
use Rattle.sheet_text.proofs.sheet.put_slot_line.Goals as goal

pub returns : goal.returns
unfolding row_from slot_line
returns c = then c.put_decimal-a.ensures
    (then c.put_byte-b.ensures
    (then (put_is (ap code_word (sym c.u16_at.ensures)) c.put_code_word-c.ensures) c.put_columns.ensures))
