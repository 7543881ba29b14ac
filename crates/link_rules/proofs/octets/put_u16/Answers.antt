use Rattle.std.proofs.Common.{◌+◌, ◌/◌, ◌%◌, set, sym, arith, length-set}
use Rattle.link_rules.specs.Octets.{put_le}
use Rattle.link_rules.proofs.OctetLaws.{put_past}
use Rattle.link_rules.proofs.octets.put_u16.Goals as goal

pub returns-then-s-at : goal.returns-then-s-at
returns-then-s-at c = let a = c.args in sym (put_past 2 a.x a.at a.s.now c.if-s-at.true)

pub returns-then-s-at-lt2 : goal.returns-then-s-at-lt2
unfolding put_le
returns-then-s-at-lt2 c = let a = c.args in
    sym (put_past 1 (a.x / 256) (a.at + 1) (set a.s.now a.at (a.x % 256)) (simp length-set (omega arith)))
