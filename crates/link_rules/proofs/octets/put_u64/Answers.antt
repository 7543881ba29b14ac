use Rattle.std.proofs.Common.{◌+◌, ◌/◌, ◌^◌, sym, arith}
use Rattle.link_rules.specs.Octets.{put_le}
use Rattle.link_rules.proofs.OctetLaws.{put_past, put-add, put_mod, length-put}
use Rattle.link_rules.proofs.octets.put_u64.Goals as goal

pub returns-then-s-at : goal.returns-then-s-at
returns-then-s-at c = let a = c.args in sym (put_past 8 a.x a.at a.s.now c.if-s-at.true)

pub returns-then-s-at-lt4 : goal.returns-then-s-at-lt4
returns-then-s-at-lt4 c = let a = c.args in
    cc (put-add 4 4 a.x a.at a.s.now, put_mod 4 a.x a.at a.s.now, put_past 4 (a.x / 256 ^ 4) (a.at + 4) (put_le 4 a.x a.at a.s.now) (rw length-put (omega arith)))

pub returns : goal.returns
returns c = let a = c.args in
    cc (put-add 4 4 a.x a.at a.s.now, put_mod 4 a.x a.at a.s.now)
