use mathlib.Core.Path.{ap}
use Rattle.text.specs.Columns.{lead_in}
use Rattle.text.proofs.TextLaws.{put_is}
use Rattle.text.proofs.ColumnLaws.{lead_none, lead_minus}
use Rattle.text.proofs.put_lead.Goals as goal

pub returns-then-w-eq0 : goal.returns-then-w-eq0
returns-then-w-eq0 c = let w = c.args.w in
    put_is (ap (lead_in w) c.if-minus.true) (lead_none w c.if-w-eq0.true)

pub returns-then-minus : goal.returns-then-minus
returns-then-minus c = let w = c.args.w in
    put_is (ap (lead_in w) c.if-minus.true) (lead_minus w c.if-w-eq0.false c.put_blanks-n.ensures c.put_byte.ensures)

pub returns : goal.returns
returns c = put_is (ap (lead_in c.args.w) c.if-minus.false) c.put_blanks.ensures
