use mathlib.Core.Path.{sym, ap, ◌∙◌}
use Prim.Native.Nat.{ℕ, ◌+◌, max}
use lib.ListN.{drop}
use Rattle.wide_occupancy.specs.WideOccupancy.{largest}
use Rattle.wide_occupancy.proofs.TrainLaws.{largest-turn, largest-end}
use Rattle.wide_occupancy.proofs.trains.largest.Goals as goal

pub loop-x-preserved : goal.loop-x-preserved
loop-x-preserved c = let a = c.args in
    ap (λ (m : ℕ). max m (largest (drop (c.loop-x.x-index + 1) a.occupancy.now))) c.max-top.ensures
    ∙ sym (largest-turn a.occupancy.now c.loop-x.x-index c.loop-x.top c.loop-x-test.true) ∙ c.loop-x.invariant

pub returns : goal.returns
returns c = sym (largest-end c.args.occupancy.now c.loop-x.x-index c.loop-x.top c.loop-x-test.false) ∙ c.loop-x.invariant
