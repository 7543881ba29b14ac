use mathlib.Core.Path.{refl}
use Rattle.yard_check.proofs.check.all_watched.Goals as goal

pub returns : goal.returns
returns c = (c.answered.ensures, refl)
