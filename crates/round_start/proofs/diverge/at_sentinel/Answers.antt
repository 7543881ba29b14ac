use Rattle.round_start.proofs.DivideLaws.{sentinel-none, sentinel_past, sentinel-other, sentinel-here}
use Rattle.round_start.proofs.diverge.at_sentinel.Goals as goal
use Rattle.round_start.proofs.diverge.at_sentinel.Goals.{then-k-eq0-via-then-k-eq0, then-k-eq0-via-else-k-eq0+then-m-k, then-k-eq0-via-else-k-eq0+else-m-k+then-u32_of-split}

pub returns-then-k-eq0 : goal.returns-then-k-eq0
returns-then-k-eq0 c = let a = c.args in
    λ ts. elim c.then-k-eq0.branch [
      | then-k-eq0-via-then-k-eq0 w ↦ sentinel-none a.m ts a.dn.now a.split a.k w.if-k-eq0.true
      | then-k-eq0-via-else-k-eq0+then-m-k w ↦ sentinel_past a.m ts a.dn.now a.split a.k w.if-m-k.true
      | then-k-eq0-via-else-k-eq0+else-m-k+then-u32_of-split w ↦
          sentinel-other a.m ts a.dn.now a.split a.k w.if-k-eq0.false w.if-m-k.false w.u32_of.result w.u32_of.ensures w.if-u32_of-split.true
    ]

pub returns : goal.returns
returns c = let a = c.args in
    let x = c.u32_of in
    λ ts. sentinel-here a.m ts a.dn.now a.split a.k c.if-k-eq0.false c.if-m-k.false x.result x.ensures c.if-u32_of-split.false
