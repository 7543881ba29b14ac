use mathlib.Core.Path.{◌≡◌}
use mathlib.Core.List.{map}
use Prim.Native.Nat.{◌≤◌}
use lib.ListN.{length, take}
use Rattle.sitting.specs.Replay.{step_number, last_world, world_of}
use Rattle.sitting.specs.Steps.{first_outcomes}
use Rattle.sitting.proofs.make_steps.Given as goal

abbrev pub invariant-loop-i : goal.invariant-loop-i
invariant-loop-i l = (l.i ≤ length l.initial.list) × (length l.list ≡ length l.initial.list) × (length l.yard ≡ length l.initial.yard) × (length l.occupancy ≡ length l.initial.occupancy)
    × (world_of l.table l.occupancy l.yard ≡ last_world (world_of l.table l.initial.occupancy l.initial.yard) (first_outcomes l.recording l.j.report (world_of l.table l.initial.occupancy l.initial.yard) l.i))
    × (take l.i l.list ≡ map step_number (first_outcomes l.recording l.j.report (world_of l.table l.initial.occupancy l.initial.yard) l.i))
