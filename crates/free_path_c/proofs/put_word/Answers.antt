use mathlib.Core.Path.{sym}
use lib.Seq.{set_out}
use Rattle.free_path_c.proofs.put_word.Goals as goal

pub returns-else-at-answer : goal.returns-else-at-answer
returns-else-at-answer c = let a = c.args in sym (set_out a.answer.now a.at a.x c.if-at-answer.false)
