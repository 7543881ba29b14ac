use Rattle.std.proofs.Common.{◌+◌, sym, arith}
use Rattle.link_rules.specs.Octets.{le_at}
use Rattle.link_rules.proofs.OctetLaws.{le_past}
use Rattle.link_rules.proofs.octets.u16_at.Goals as goal

pub returns-then-s-at : goal.returns-then-s-at
returns-then-s-at c = let a = c.args in sym (le_past 2 a.s.now a.at c.if-s-at.true)

pub returns-then-s-at-lt2 : goal.returns-then-s-at-lt2
unfolding le_at
returns-then-s-at-lt2 c = let a = c.args in omega (arith, le_past 1 a.s.now (a.at + 1) (omega arith))

pub returns : goal.returns
unfolding le_at
returns c = omega arith
