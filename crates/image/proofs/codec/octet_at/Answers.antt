use native.Mathlib.Omega.{arith}
use Rattle.link_rules.specs.Octets.{le_at}
use Rattle.link_rules.proofs.OctetLaws.{le_past}
use mathlib.Core.Path.{sym}
use Rattle.image.proofs.codec.octet_at.Goals as goal

pub returns-else-at-s : goal.returns-else-at-s
returns-else-at-s c = sym (le_past 1 _ _ c.if-at-s.false)

pub returns-then-at-s : goal.returns-then-at-s
unfolding le_at
returns-then-at-s c = omega arith
