use mathlib.Core.Path.{refl}
use native.Mathlib.Omega.{arith}
use lib.ListN.{length-set, replicate}
use borrow.Author.Rules.{rules}
use Rattle.game.specs.Sets.{won, all_openings}
use Rattle.game.proofs.TableLaws.{verdicts_none, verdicts_more}
use Rattle.game.proofs.tables.before_answer.Goals as goal

pub loop-c-init : goal.loop-c-init
loop-c-init c = (search rules, refl, verdicts_none (all_openings c.args.k (won c.args.t)) (replicate 256 0))

pub loop-c-preserved : goal.loop-c-preserved
loop-c-preserved c = let h = c.all_openings-win in
    let l = c.loop-c in
    let a = c.args in (
      search rules,
      simp length-set l.invariant.1,
      rw c.mark.ensures (verdicts_more l.c (all_openings a.k (won a.t)) l.out h.result (omega arith) h.ensures l.invariant.2),
    )

pub returns : goal.returns
returns c = let l = c.loop-c in
    λ i h. l.invariant.2 i (omega arith)
