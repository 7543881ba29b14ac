use Rattle.image.specs.Image.{node_at}
use Rattle.text.proofs.TextLaws.{put_is}
use Rattle.path_page.proofs.PageLaws.{line_by}
use Rattle.path_page.proofs.put_node_line.Goals as goal

pub returns : goal.returns
returns c = let a = c.args in
    let x = node_at a.image.now a.i in
    let o = c.node_of-x in
    put_is (line_by a.ties a.i x o.result c.whole_metres-offset.result o.ensures c.whole_metres-offset.ensures) c.put_line.ensures
