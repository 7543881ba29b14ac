use Rattle.text.proofs.TextLaws.{put_in, put-none}
use Rattle.text.proofs.put_byte.Goals as goal

pub returns-then-count-text : goal.returns-then-count-text
returns-then-count-text c = let a = c.args in put_in a.count a.text.now a.byte c.if-count-text.true

pub returns : goal.returns
returns c = let a = c.args in put-none a.count a.text.now a.byte c.if-count-text.false
