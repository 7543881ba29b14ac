use mathlib.Core.Path.{refl, ◌∙◌}
use native.Mathlib.Omega.{arith}
use Rattle.game.proofs.FaultLaws.{listed_hit, listed_miss, listed-end}
use Rattle.game.proofs.faults.is_listed.Goals as goal

pub loop-i-init : goal.loop-i-init
loop-i-init c = refl

pub returns-then-links-i : goal.returns-then-links-i
returns-then-links-i c = let l = c.loop-i in
    let a = c.args in
    listed_hit a.links.now l.i a.x (omega arith) c.if-links-i.true ∙ l.invariant

pub loop-i-preserved : goal.loop-i-preserved
loop-i-preserved c = let l = c.loop-i in
    let a = c.args in
    listed_miss a.links.now l.i a.x (omega arith) c.if-links-i.false ∙ l.invariant

pub returns : goal.returns
returns c = let l = c.loop-i in
    let a = c.args in
    listed-end a.links.now l.i a.x (omega arith) ∙ l.invariant
