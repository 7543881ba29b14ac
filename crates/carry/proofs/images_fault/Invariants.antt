use mathlib.Core.Path.{◌≡◌}
use Prim.Native.Nat.{◌-◌}
use Rattle.yard_check.specs.Yard.{slot_count}
use Rattle.carry.specs.Carry.{images_fault}
use Rattle.carry.proofs.images_fault.Given as goal

abbrev pub invariant-loop-t : goal.invariant-loop-t
invariant-loop-t l = images_fault l.yard l.l (l.slots - l.t) l.t ≡ images_fault l.yard l.l (slot_count l.yard - l.count) l.count
