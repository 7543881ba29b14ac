use native.Mathlib.Omega.{arith}
use mathlib.Core.Path.{sym}
use Rattle.search.proofs.ReadLaws.{view_out, view_in}
use Rattle.search.proofs.views.view_at.Goals as goal

pub returns-then-n-i : goal.returns-then-n-i
returns-then-n-i c = let a = c.args in
    sym (view_out a.n a.begins.now a.ends.now a.e c.if-n-i.true)

pub returns : goal.returns
returns c = let a = c.args in
    rw (view_in a.n a.begins.now a.ends.now a.e (omega arith), ← c.u32_of.ensures, ← c.u32_of-2.ensures)
