use mathlib.Core.Path.{ap, sym, ◌∙◌}
use Rattle.yard_check.specs.Check.{row_from}
use Rattle.text.specs.Ascii.{column}
use Rattle.text.proofs.TextLaws.{then, put_is}
use Rattle.sheet_text.proofs.sheet.put_columns.Goals as goal

pub shape_of-text : goal.shape_of-text
shape_of-text c = c.text-7-1.given
    ∙ c.text-6-1.given
    ∙ c.text-5-1.given
    ∙ c.text-4-1.given
    ∙ c.text-3-1.given
    ∙ c.text-2-1.given
    ∙ c.text-1.given

pub returns : goal.returns
unfolding row_from
returns c = then (put_is (ap column (sym c.u16_at.ensures)) c.put_column-a.ensures)
    (then (put_is (ap column (sym c.u16_at-2.ensures)) c.put_column-b.ensures)
    (then (put_is (ap column (sym c.u32_at.ensures)) c.put_column-c.ensures)
    (then (put_is (ap column (sym c.u32_at-2.ensures)) c.put_column-d.ensures)
    (then c.put_column-e.ensures
    (then (put_is (ap column (sym c.u32_at-3.ensures)) c.put_column-f.ensures) c.put_byte.ensures)))))
