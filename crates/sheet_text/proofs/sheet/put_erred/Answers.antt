use Rattle.disp_structs.specs.Listed.{listed}
use Rattle.text.specs.Ascii.{ascii}
use Rattle.text.proofs.TextLaws.{then}
use Rattle.sheet_text.proofs.sheet.put_erred.Goals as goal

pub returns : goal.returns
unfolding ascii listed
returns c = then c.put_bytes-a.ensures
    (then c.put_column-b.ensures
    (then c.put_bytes-c.ensures
    (then c.put_column-d.ensures c.put_byte.ensures)))
