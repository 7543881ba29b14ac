use native.Mathlib.Omega.{arith}
use Rattle.round_start.proofs.DivideLaws.{parted_none, parted_past, parted_high, parted_low, parted_here}
use Rattle.round_start.proofs.diverge.parted.Goals as goal
use Rattle.round_start.proofs.diverge.parted.Goals.{then-k-eq0-via-then-k-eq0, then-k-eq0-via-else-k-eq0+then-m-k}

pub returns-then-k-eq0 : goal.returns-then-k-eq0
returns-then-k-eq0 c = let a = c.args in
    elim c.then-k-eq0.branch [
      | then-k-eq0-via-then-k-eq0 w ↦ (λ ts. parted_none a.m ts a.dn.now a.split a.k w.if-k-eq0.true, tt)
      | then-k-eq0-via-else-k-eq0+then-m-k w ↦ (λ ts. parted_past a.m ts a.dn.now a.split a.k w.if-k-eq0.false w.if-m-k.true, tt)
    ]

pub returns-then-split-u32_of : goal.returns-then-split-u32_of
returns-then-split-u32_of c = let a = c.args in
    let x = c.u32_of in
    (λ ts. parted_high a.m ts a.dn.now a.split a.k c.if-k-eq0.false c.if-m-k.false x.result x.ensures c.if-split-u32_of.true, tt)

pub returns-then-u32_of-split : goal.returns-then-u32_of-split
returns-then-u32_of-split c = let a = c.args in
    let x = c.u32_of in
    let y = c.u32_of-2 in
    (λ ts. parted_low a.m ts a.dn.now a.split a.k c.if-k-eq0.false c.if-m-k.false x.result x.ensures c.if-split-u32_of.false y.result y.ensures c.if-u32_of-split.true, tt)

pub returns : goal.returns
returns c = let a = c.args in
    let x = c.u32_of in
    let y = c.u32_of-2 in
    let z = c.if-k-eq0.false in
    (λ ts. parted_here a.m ts a.dn.now a.split a.k z c.if-m-k.false x.result x.ensures c.if-split-u32_of.false y.result y.ensures c.if-u32_of-split.false, (omega (arith, z), omega arith))
