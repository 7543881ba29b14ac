use Rattle.image_fault.proofs.ReachLaws.{float_fits-is}
use mathlib.Core.Path.{sym}
use Rattle.image_fault.proofs.float_fits.Goals as goal

pub returns : goal.returns
returns c = sym (float_fits-is c.args.b)
