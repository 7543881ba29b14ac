use mathlib.Core.Path.{◌∙◌}
use Rattle.yard_check.proofs.SeenLaws.{same_pairs}
use Rattle.yard_check.proofs.bytes.same_bytes.Goals as goal

pub returns : goal.returns
returns c = let a = c.args in c.eq.ensures ∙ same_pairs a.a.now a.b.now
