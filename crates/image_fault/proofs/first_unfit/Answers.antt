use Rattle.std.proofs.Common.{sym, ◌∙◌, arith}
use Rattle.image_fault.proofs.ScanLaws.{first_fit, raised_unfit, raised_end}
use Rattle.image_fault.proofs.first_unfit.Goals as goal

pub returns-then-not-fits : goal.returns-then-not-fits
returns-then-not-fits g c test h =
    let v = c.loop-i in
    raised_unfit c.args.number test c.args.n v.i (v.invariant test h) (λ z. absurd (omega arith)) (omega arith) (sym (h v.i (omega arith) c.fits.result c.fits.ensures) ∙ c.if-not-fits.true)

pub loop-i-preserved : goal.loop-i-preserved
loop-i-preserved g c test h =
    let v = c.loop-i in
    sym (first_fit c.args.number test c.args.n v.i (omega arith) (sym (h v.i (omega arith) c.fits.result c.fits.ensures) ∙ c.if-not-fits.false)) ∙ v.invariant test h

pub returns : goal.returns
returns g c test h = let v = c.loop-i in raised_end c.args.number test c.args.n v.i (v.invariant test h) (omega arith)
