use mathlib.Core.Path.{sym, ap, ◌∙◌}
use mathlib.Core.Bool.{true}
use Prim.Native.Nat.{◌/◌}
use native.Mathlib.Omega.{arith}
use native.Mathlib.Nat.{sub-zero}
use lib.ListN.{length}
use Rattle.train_disp.specs.TrainDisp.{all_within}
use Rattle.train_disp.proofs.LayOutLaws.{walk_end, scan_out, scan_last, scan_on}
use Rattle.train_disp.proofs.offsets_fit.Goals as goal

pub loop-i-init : goal.loop-i-init
loop-i-init c = rw sub-zero

pub returns-then-not-in_reach : goal.returns-then-not-in_reach
returns-then-not-in_reach c = let g = c.loop-i in
    let a = c.args in
    sym (scan_out a.est.now (length a.est.now / 32) g._i g.at g.o (omega arith) (sym c.in_reach.ensures ∙ c.if-not-in_reach.true)) ∙ g.invariant

pub returns-then-x-eq0 : goal.returns-then-x-eq0
returns-then-x-eq0 c = let g = c.loop-i in
    let a = c.args in
    let r = c.est_in-x in
    sym (scan_last a.est.now (length a.est.now / 32) g._i g.at g.o (omega arith) (sym c.in_reach.ensures ∙ c.if-not-in_reach.false) r.result r.ensures c.if-x-eq0.true) ∙ g.invariant

pub loop-i-preserved : goal.loop-i-preserved
loop-i-preserved c = let g = c.loop-i in
    let a = c.args in
    let r = c.est_in-x in
    rw c.offset_behind-o.ensures (sym (scan_on a.est.now (length a.est.now / 32) g._i g.at g.o (omega arith) (sym c.in_reach.ensures ∙ c.if-not-in_reach.false) r.result r.ensures c.if-x-eq0.false) ∙ g.invariant)

pub returns : goal.returns
unfolding all_within
returns c = let g = c.loop-i in
    let a = c.args in
    sym (ap all_within (walk_end true a.est.now (length a.est.now / 32) g._i g.at g.o (omega arith))) ∙ g.invariant
