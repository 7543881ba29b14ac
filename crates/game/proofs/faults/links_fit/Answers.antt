use mathlib.Core.Path.{refl, sym, subst, ◌∙◌}
use Prim.Native.Nat.{ℕ, ◌≤◌, ◌<◌}
use native.Mathlib.Omega.{arith}
use lib.ListN.{get_or}
use borrow.Author.Rules.{rules}
use Rattle.game.proofs.FaultLaws.{fit_none, fit_above, fit_twice, fit_turn, fit_end}
use Rattle.game.proofs.faults.links_fit.Goals as goal

pub loop-i-init : goal.loop-i-init
loop-i-init c = (search rules, refl)

pub returns-then-x-eq0 : goal.returns-then-x-eq0
returns-then-x-eq0 c = let l = c.loop-i in
    let a = c.args in
    fit_none a.links.now l.i a.l (omega arith) c.if-x-eq0.true ∙ l.invariant.1

pub returns-then-l-index_of : goal.returns-then-l-index_of
returns-then-l-index_of c = let l = c.loop-i in
    let a = c.args in
    let x = get_or a.links.now l.i 0 in
    let s : 0 < x = omega (arith, c.if-x-eq0.false) in
    fit_above a.links.now l.i a.l (omega arith) s (subst (λ (z : ℕ). a.l ≤ z) c.index_of.ensures c.if-l-index_of.true) ∙ l.invariant.1

pub returns-then-is_listed : goal.returns-then-is_listed
returns-then-is_listed c = let l = c.loop-i in
    let a = c.args in
    let x = get_or a.links.now l.i 0 in
    let s : 0 < x = omega (arith, c.if-x-eq0.false) in
    let b : x < a.l = omega (arith, c.if-l-index_of.false, c.index_of.ensures) in
    fit_twice a.links.now l.i a.l (omega arith) s b (sym c.is_listed.ensures ∙ c.if-is_listed.true) ∙ l.invariant.1

pub loop-i-preserved : goal.loop-i-preserved
loop-i-preserved c = let l = c.loop-i in
    let a = c.args in
    let x = get_or a.links.now l.i 0 in
    let s : 0 < x = omega (arith, c.if-x-eq0.false) in
    let b : x < a.l = omega (arith, c.if-l-index_of.false, c.index_of.ensures) in
    (search rules, fit_turn a.links.now l.i a.l (omega arith) s b (sym c.is_listed.ensures ∙ c.if-is_listed.false) ∙ l.invariant.1)

pub returns : goal.returns
returns c = let l = c.loop-i in
    let a = c.args in
    fit_end a.links.now l.i a.l (omega arith) ∙ l.invariant.1
