use Rattle.text.proofs.TextLaws.{then, put_is}
use Rattle.path_page.proofs.PageLaws.{fields}
use Rattle.path_page.proofs.put_line.Goals as goal

pub returns : goal.returns
returns c = let a = c.args in
    put_is (fields a.i a.x a.offset)
    (then c.put_field-a.ensures
    (then c.put_field-b.ensures
    (then c.put_kind-c.ensures
    (then c.put_field-d.ensures
    (then c.put_signed-e.ensures c.put_byte.ensures)))))
