use native.Mathlib.Omega.{arith}
use Rattle.game.proofs.SetLaws.{powers_are, power_some, power_fits}
use Rattle.game.proofs.sets.power.Goals as goal

pub returns : goal.returns
returns c = let i = c.args.i in
    let e = powers_are i (omega arith) in
    (e, rw e (power_some i), rw e (power_fits i (omega arith)))
