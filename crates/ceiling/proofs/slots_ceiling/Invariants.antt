use mathlib.Core.Path.{◌≡◌}
use Prim.Native.Nat.{◌*◌, ◌≤◌}
use Rattle.ceiling.specs.Ceiling.{slots_ceiling}
use Rattle.ceiling.proofs.slots_ceiling.Given as goal

abbrev pub invariant-loop-t : goal.invariant-loop-t
invariant-loop-t l = (l.t ≤ l.slots) × (l.sum ≡ slots_ceiling l.yard l.limit l.t) × (l.sum ≤ 100728832 * l.t)
