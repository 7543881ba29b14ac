use mathlib.Core.Path.{sym, ◌∙◌}
use native.Mathlib.Omega.{arith}
use Rattle.image.proofs.RecordLaws.{whole-est, whole_est_past}
use Rattle.image.proofs.codec.whole_est.Goals as goal

pub returns-then-img-at : goal.returns-then-img-at
returns-then-img-at c = c.zero_est.ensures ∙ sym (whole_est_past c.args.img.now c.args.i (omega (arith, c.if-img-at.true, c.est_place-at.ensures)))

pub returns-else-img-at : goal.returns-else-img-at
returns-else-img-at c = rw (whole-est c.args.img.now c.args.i (omega (arith, c.if-img-at.false, c.est_place-at.ensures))) (cc)
