use mathlib.Core.Path.{ap, ◌∙◌}
use Rattle.free_path.specs.Columns.{tr}
use Rattle.search.proofs.RewindLaws.{held_first}
use Rattle.search.proofs.rewind.holder_of.Goals as goal

pub returns : goal.returns
returns c = let a = c.args in
    ap tr c.u32_of.ensures ∙ held_first a.pool.now a.len a.v c.if-v.false c.if-len-i.false
