use mathlib.Core.Path.{◌≡◌}
use Prim.Native.Nat.{max}
use lib.ListN.{drop}
use Rattle.wide_occupancy.specs.WideOccupancy.{largest}
use Rattle.wide_occupancy.proofs.trains.largest.Given as goal

abbrev pub invariant-loop-x : goal.invariant-loop-x
invariant-loop-x l = max l.top (largest (drop l.x-index l.occupancy)) ≡ largest l.occupancy
