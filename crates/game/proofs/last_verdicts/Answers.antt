use mathlib.Core.Path.{refl}
use native.Mathlib.Omega.{arith}
use lib.ListN.{length-set, replicate}
use borrow.Author.Rules.{rules}
use Rattle.game.specs.Sets.{game_of, wins_with}
use Rattle.game.proofs.TableLaws.{verdicts_none, verdicts_more}
use Rattle.game.proofs.last_verdicts.Goals as goal

pub loop-c-init : goal.loop-c-init
loop-c-init c = let a = c.args in
    (search rules, refl, c.requires.img_len.0, c.requires.img_len.1, verdicts_none (wins_with (game_of a.image.now a.occ.now a.o a.links.now)) (replicate 256 0))

pub wins_with-win-requires : goal.wins_with-win-requires
wins_with-win-requires c = let l = c.loop-c in
    record { accepted = c.requires.accepted; img_len = (l.invariant.2, l.invariant.3) }

pub loop-c-preserved : goal.loop-c-preserved
loop-c-preserved c = let w = c.wins_with-win in
    let l = c.loop-c in
    let a = c.args in (
      search rules,
      simp length-set l.invariant.1,
      search rules,
      search rules,
      rw c.mark.ensures (verdicts_more l.c (wins_with (game_of a.image.now a.occ.now a.o a.links.now)) l.out w.result (omega arith) w.ensures l.invariant.4),
    )

pub returns : goal.returns
returns c = let l = c.loop-c in
    λ i h. l.invariant.4 i (omega arith)
