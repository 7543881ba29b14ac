use mathlib.Core.Path.{sym}
use lib.ListN.{get_or-eq_default}
use Rattle.carry.proofs.octet_at.Goals as goal

pub returns-then-bs-at : goal.returns-then-bs-at
returns-then-bs-at c = sym (get_or-eq_default c.args.bs.now 0 c.if-bs-at.true)
