use native.Mathlib.Omega.{arith}
use Rattle.search.proofs.ReadLaws.{put_out, put_in}
use Rattle.search.proofs.views.put_view.Goals as goal

pub returns-then-n-i : goal.returns-then-n-i
returns-then-n-i c = let a = c.args in
    put_out a.n a.begins.now a.ends.now a.e c.if-n-i.true a.v

pub returns : goal.returns
returns c = let a = c.args in
    put_in a.n a.begins.now a.ends.now a.e (omega arith) (omega arith) (omega arith) a.v
