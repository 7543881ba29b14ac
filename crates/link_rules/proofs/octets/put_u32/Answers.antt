use Rattle.std.proofs.Common.{◌+◌, ◌/◌, ◌^◌, sym, arith}
use Rattle.link_rules.specs.Octets.{put_le}
use Rattle.link_rules.proofs.OctetLaws.{put_past, put-add, put_mod, length-put}
use Rattle.link_rules.proofs.octets.put_u32.Goals as goal

pub returns-then-s-at : goal.returns-then-s-at
returns-then-s-at c = let a = c.args in sym (put_past 4 a.x a.at a.s.now c.if-s-at.true)

pub returns-then-s-at-lt2 : goal.returns-then-s-at-lt2
returns-then-s-at-lt2 c = let a = c.args in
    cc (put-add 2 2 a.x a.at a.s.now, put_mod 2 a.x a.at a.s.now, put_past 2 (a.x / 256 ^ 2) (a.at + 2) (put_le 2 a.x a.at a.s.now) (rw length-put (omega arith)))

pub returns : goal.returns
returns c = let a = c.args in
    cc (put-add 2 2 a.x a.at a.s.now, put_mod 2 a.x a.at a.s.now)
