use native.Mathlib.Omega.{arith}
use lib.ListN.{length-take}
use Rattle.game.specs.Sets.{game_of}
use Rattle.game.proofs.VerdictLaws.{start_judged}
use Rattle.game.proofs.can_force.Goals as goal

pub slice_bounds-last_verdicts-end : goal.slice_bounds-last_verdicts-end
slice_bounds-last_verdicts-end c = simp length-take (omega arith)

pub slice_bounds-last_verdicts-end-2 : goal.slice_bounds-last_verdicts-end-2
slice_bounds-last_verdicts-end-2 c = simp length-take (omega arith)

pub last_verdicts-last-requires : goal.last_verdicts-last-requires
last_verdicts-last-requires c = record { accepted = c.requires; img_len = simp length-take (omega arith) }

pub returns : goal.returns
returns c = let a = c.args in
    let last = c.last_verdicts-last in
    start_judged (game_of a.image.now a.occ.now a.o a.links.now) a.turns last.result c.judge-t.result c.requires.fitting last.ensures c.judge-t.ensures
