use Rattle.std.proofs.Common.{refl, ap, ◌∙◌, ◌<◌, arith}
use Rattle.search.specs.Runs.{slot_of}
use Rattle.search.proofs.LoopLaws as L
use Rattle.search.proofs.LoopLaws.{blank}
use Rattle.search.proofs.run.run.Goals as goal
use Rattle.search.proofs.run.run.Goals.{then-a-k, else-a-k}

pub loop-turns-init : goal.loop-turns-init
loop-turns-init c = L.turning_first c.requires _ c.saturating_sub.ensures _ c.whole_node-curr.ensures _ refl

pub turn-requires : goal.turn-requires
turn-requires c = let v = c.loop-turns.invariant in L.fits c.requires v

pub returns-in-Err : goal.returns-in-Err
returns-in-Err c =
    let v = c.loop-turns.invariant in
    let e = c.refused.ensures in
    (L.turn_refused c.requires v c.loop-turns-test.true _ _ _ c.in-Err.halt c.in-Err.ensures c.refused.result e.0 e.1 e.3 e.4, v.kept, rw e.2 v.pooled)

pub after-requires : goal.after-requires
after-requires c = let v = c.loop-turns.invariant in L.few c.requires v

pub returns-in_default : goal.returns-in_default
returns-in_default c =
    let v = c.loop-turns.invariant in
    rw c.ended.ensures (L.turn_ended c.requires v c.loop-turns-test.true _ _ _ c.in-Ok.t c.in-Ok.ensures c.in_default.ensures, v.kept, c.in-Ok.ensures.1.pool)

pub overflow_add-k : goal.overflow_add-k
overflow_add-k c =
    let v = c.loop-turns.invariant in
    let few : c.loop-turns.p.new_count < 512 = L.few c.requires v in
    omega arith

pub overflow_cast-k : goal.overflow_cast-k
overflow_cast-k c =
    let v = c.loop-turns.invariant in
    let few : c.loop-turns.p.new_count < 512 = L.few c.requires v in
    omega arith

pub current-curr-requires : goal.current-curr-requires
current-curr-requires c =
    let v = c.loop-turns.invariant in
    let u = c.turn.auto in
    L.next_few c.requires v c.loop-turns-test.true _ _ _ c.in-Ok.t c.in-Ok.ensures c.in-Some.a c.in-Some.ensures u.pool u.begins u.ends u.nt u.nn c.if-a-k.false

pub loop-turns-preserved : goal.loop-turns-preserved
loop-turns-preserved c =
    let v = c.loop-turns.invariant in
    let u = c.turn.auto in
    elim c.if-a-k.branch [
      | then-a-k w ↦ rw (w.curr-is, w.new-is, w.fresh-is) (L.turning_pushed c.requires v c.loop-turns-test.true _ _ _ c.in-Ok.t c.in-Ok.ensures c.in-Some.a c.in-Some.ensures u.pool u.begins u.ends u.nt u.nn w.if-a-k.true _ w.put_node.ensures _ w.slot_of-at.ensures)
      | else-a-k w ↦ rw (w.curr-is, w.new-is, w.fresh-is) (L.turning_same c.requires v c.loop-turns-test.true _ _ _ c.in-Ok.t c.in-Ok.ensures c.in-Some.a c.in-Some.ensures u.pool u.begins u.ends u.nt u.nn w.if-a-k.false _ (w.slot_of-top.ensures ∙ ap slot_of w.saturating_sub-else-a-k.ensures) _ w.current-curr.ensures)
    ]

pub returns : goal.returns
returns c =
    let v = c.loop-turns.invariant in
    let e = c.refused-2.ensures in
    (L.out_of_turns c.requires v (omega (arith, c.loop-turns-test.false, c.loop-turns.auto.turns-end)) c.refused-2.result e.0 e.1 (e.4 ∙ omega (arith, c.loop-turns-test.false, c.loop-turns.auto.turns-end)) _ _ _ _, v.kept, rw e.2 v.pooled)
