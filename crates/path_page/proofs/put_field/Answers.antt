use Rattle.text.proofs.TextLaws.{then}
use Rattle.path_page.proofs.put_field.Goals as goal

pub returns : goal.returns
returns c = then c.put_signed-a.ensures c.put_byte.ensures
