use native.Mathlib.Omega.{arith}
use Rattle.round.proofs.FitLaws.{round_accepted, est-long}
use Rattle.round.proofs.searching.search.Goals as goal

pub search_in-requires-clause-ests : goal.search_in-requires-clause-ests
search_in-requires-clause-ests c = let a = c.args in
    let g = c.requires in
    omega (arith, (round_accepted a.occ.now a.img.now a.on.now a.dt.now a.dn.now a.h g.0 a.r g.3.numbers).ests.few, est-long a.occ.now a.img.now a.on.now a.dt.now a.dn.now a.h g.0 a.r g.3.numbers, g.3.numbers.est)

pub search_in-requires-then-r-gt64-2-clause-ests : goal.search_in-requires-then-r-gt64-2-clause-ests
search_in-requires-then-r-gt64-2-clause-ests c = let a = c.args in
    let g = c.requires in
    omega (arith, (round_accepted a.occ.now a.img.now a.on.now a.dt.now a.dn.now a.h g.0 a.r g.3.numbers).ests.few, est-long a.occ.now a.img.now a.on.now a.dt.now a.dn.now a.h g.0 a.r g.3.numbers, g.3.numbers.est)
