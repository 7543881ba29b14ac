use mathlib.Core.List.{append-nil}
use native.Mathlib.Omega.{arith}
use native.Mathlib.Nat.{add-zero}
use lib.ListN.{take}
use Rattle.free_path.specs.Columns.{trains}
use Rattle.disp_structs.specs.Listed.{listed}
use Rattle.search.proofs.BlockLaws.{push_turn}
use borrow.Author.Rules.{rules}
use Rattle.search.proofs.look.push_trains.Goals as goal

pub loop-j-init : goal.loop-j-init
unfolding listed
loop-j-init c = (search rules, search rules, rw (add-zero, append-nil))

pub loop-j-preserved : goal.loop-j-preserved
loop-j-preserved c = let a = c.args in
    let l = c.loop-j in
    (omega arith, search rules, push_turn l.pool a.col.now (take a.len (trains a.pool.now)) a.len a.a l.j (omega arith) l.invariant.2 c.u32_of.result c.u32_of.ensures)
