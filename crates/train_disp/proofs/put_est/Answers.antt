use Rattle.std.proofs.Common.{refl, arith}
use Rattle.std.proofs.lemmas.Slice.{put_mid-paste}
use lib.ListN.{length}
use Rattle.train_disp.specs.TrainDisp.{with_est}
use Rattle.train_disp.proofs.put_est.Goals as goal

pub returns : goal.returns
unfolding with_est
returns c = let a = c.args in put_mid-paste 64 _ a.img.now _ a.est.now (length a.est.now) c.copy_from_slice.ensures.after (omega arith) refl
