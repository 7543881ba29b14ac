use Rattle.search.specs.Read.{arrays}
use Rattle.search.proofs.LoopLaws.{Turning}
use Rattle.search.proofs.run.run.Given as goal

abbrev pub invariant-loop-turns : goal.invariant-loop-turns
invariant-loop-turns l = Turning l.img l.occ l.dt l.dn l.r l.fn.start l.fn.fresh (arrays l.fn.pool l.fn.begins l.fn.ends) l.fn.nt l.fn.nn l.turns l.p l.curr l.new l.fresh (arrays l.pool l.begins l.ends) l.nt l.nn
