use native.Mathlib.Omega.{arith}
use Rattle.search.proofs.DepositLaws as L
use Rattle.search.proofs.moves.push_divs.Goals as goal
use Rattle.search.proofs.moves.push_divs.Goals.{then-e-b-via-then-e-b, then-e-b-via-else-e-b+then-len-e}

pub returns-then-e-b : goal.returns-then-e-b
returns-then-e-b c =
    let a = c.args in
    let s = c.requires in
    elim c.then-e-b.branch [
      | then-e-b-via-then-e-b w ↦ (L.deposit-order a.pool.now a.len a.v a.room a.count a.node a.nt.now a.nn.now s.0 s.1 w.if-e-b.true, tt)  -- src/moves.rt:280:15
      | then-e-b-via-else-e-b+then-len-e w ↦ (L.deposit_out a.pool.now a.len a.v a.room a.count a.node a.nt.now a.nn.now s.0 s.1 w.if-e-b.false w.if-len-e.true, tt)  -- src/moves.rt:283:5
    ]

pub returns-then-room-count : goal.returns-then-room-count
returns-then-room-count c = let a = c.args in
    let s = c.requires in
    (L.deposit_full a.pool.now a.len a.v a.room a.count a.node a.nt.now a.nn.now s.0 s.1 c.if-e-b.false c.if-len-e.false c.if-room-count.true, tt)

pub returns : goal.returns
returns c = let a = c.args in
    let s = c.requires in
    (L.deposit-room a.pool.now a.len a.v a.room a.count a.node a.nt.now a.nn.now s.0 s.1 c.if-e-b.false c.if-len-e.false c.if-room-count.false _ c.store_divs.ensures, omega arith)
