use Rattle.disp_structs.specs.Listed.{listed}
use Rattle.text.specs.Ascii.{ascii}
use Rattle.text.proofs.TextLaws.{then}
use Rattle.sheet_text.proofs.sheet.put_refused_word.Goals as goal

pub returns : goal.returns
unfolding ascii listed
returns c = then c.put_bytes-n.ensures c.put_decimal.ensures
