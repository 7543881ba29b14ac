use Rattle.text.proofs.TextLaws.{then}
use Rattle.text.proofs.put_column.Goals as goal

pub returns : goal.returns
returns c = then c.put_byte-n.ensures c.put_decimal.ensures
