use mathlib.Core.Path.{◌≡◌}
use mathlib.Core.Bool.{true}
use Prim.Native.Nat.{◌≤◌}
use Rattle.link_rules.specs.Network.{all_below}
use Rattle.carry.specs.Carry.{offset_fits}
use Rattle.carry.proofs.offsets_fit.Given as goal

abbrev pub invariant-loop-i : goal.invariant-loop-i
invariant-loop-i l = (l.i ≤ l.slots) × (all_below l.i (offset_fits l.yard l.wide) ≡ true)
