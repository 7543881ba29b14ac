use mathlib.Core.Path.{◌≡◌}
use mathlib.Core.Bool.{true}
use Prim.Native.Nat.{◌≤◌}
use Rattle.link_rules.specs.Network.{all_below}
use Rattle.carry.specs.Carry.{carried_fits}
use Rattle.carry.proofs.all_carried.Given as goal

abbrev pub invariant-loop-i : goal.invariant-loop-i
invariant-loop-i l = (l.i ≤ l.count) × (all_below l.i (carried_fits l.yard l.wide) ≡ true)
