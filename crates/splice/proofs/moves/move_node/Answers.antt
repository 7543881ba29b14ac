use mathlib.Core.Path.{◌∙◌}
use native.Mathlib.Omega.{arith}
use lib.ListN.{replicate}
use Rattle.splice.proofs.MoveLaws.{copy_by}
use Rattle.splice.proofs.moves.move_node.Goals as goal

pub returns : goal.returns
returns c = let a = c.args in
    let o = c.copy_node in
    c.copy_node-2.ensures ∙ copy_by a.s.now (replicate 32 0) o.new.to a.a a.b 32 (omega arith) o.ensures
