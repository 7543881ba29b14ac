use Prim.Native.Nat.{◌/◌, ◌%◌}
use Rattle.std.proofs.Common.{arith}
use borrow.Author.Tests.{le-leb, eq-eqb}
use Rattle.train_disp.specs.TrainDisp.{sizes_fit}
use Rattle.train_disp.proofs.LayOutLaws.{narrow_size}
use Rattle.train_disp.proofs.sizes_fit.Goals as goal

pub returns-then-links-le4000 : goal.returns-then-links-le4000
unfolding sizes_fit
returns-then-links-le4000 c = let a = c.args in
    rw (eq-eqb (a.n % 32) 0 (omega arith), le-leb 1 (a.n / 32) (omega arith), le-leb (a.n / 32) 512 (omega arith), le-leb 2 a.settings.diverge_room (omega arith), le-leb a.settings.diverge_room 1024 (omega arith), le-leb 2 a.settings.links (omega arith), le-leb a.settings.links 4000 (omega arith), narrow_size (a.n / 32) a.settings.diverge_room)
