use Rattle.std.proofs.Common.{◌+◌, length, sym, arith}
use borrow.Rule.Slice.PartMut.{Post-is}
use Rattle.link_rules.specs.Octets.{put_bytes}
use Rattle.link_rules.proofs.OctetLaws.{put-none, put_some}
use Rattle.link_rules.proofs.octets.put_bytes.Goals as goal

pub returns-then-to-k : goal.returns-then-to-k
returns-then-to-k c = let a = c.args in sym (put-none a.k a.from.now a.to.now (omega (arith, c.if-to-k.true)))

pub returns-then-to-k-2 : goal.returns-then-to-k-2
returns-then-to-k-2 c = let a = c.args in sym (put-none a.k a.from.now a.to.now (omega (arith, c.if-to-k.false, c.if-to-k-2.true)))

pub returns : goal.returns
unfolding put_bytes
returns c = let a = c.args in
    rw (c.copy_from_slice.ensures.after, Post-is a.k (a.k + length a.from.now) a.to.now (omega arith), put_some a.k a.from.now a.to.now (omega (arith, c.if-to-k.false, c.if-to-k-2.false)))
