use mathlib.Core.Path.{refl}
use native.Mathlib.Omega.{arith}
use lib.ListN.{length-set}
use borrow.Author.Rules.{rules}
use Rattle.sitting.specs.Replay.{world_of}
use Rattle.sitting.proofs.StepLaws.{world-turn, numbers-turn, none_made, all_made}
use Rattle.sitting.proofs.make_steps.Goals as goal

-- src/lib.rt:286:36
pub loop-i-init : goal.loop-i-init
loop-i-init c = let a = c.args in
    let n = none_made a.recording.now a.j.report (world_of a.table.now a.occupancy.now a.yard.now) a.list.now in
    (omega arith, refl, refl, refl, n.0, n.1)

-- src/lib.rt:288:9
pub make_step-requires : goal.make_step-requires
make_step-requires c = c.requires.0

-- src/lib.rt:273:1
pub loop-i-preserved : goal.loop-i-preserved
loop-i-preserved c = let a = c.args in
    let l = c.loop-i in
    let w₀ = world_of a.table.now a.occupancy.now a.yard.now in
    let m = c.make_step.ensures in
    let e = c.step_at-s.ensures in (
      omega (arith, l.invariant.0, l.invariant.1, c.loop-i-test.true),
      omega (arith, length-set l.list l.i c.make_step.result, l.invariant.1),
      search rules,
      search rules,
      world-turn a.recording.now a.j.report w₀ a.table.now l.occupancy l.yard l.i l.invariant.4 _ _ _ _ e m,
      numbers-turn a.recording.now a.j.report w₀ a.table.now l.occupancy l.yard l.i l.invariant.4 _ _ _ _ e m l.list (omega (arith, c.loop-i-test.true)) l.invariant.5,
    )

pub returns : goal.returns
returns c = let a = c.args in
    let l = c.loop-i in
    all_made a.recording.now a.j.report a.table.now a.occupancy.now a.yard.now a.list.now l.occupancy l.yard l.list l.i (omega (arith, l.invariant.0, l.invariant.1, c.loop-i-test.false)) l.invariant.1 l.invariant.4 l.invariant.5
