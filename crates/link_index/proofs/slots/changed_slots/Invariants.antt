use mathlib.Core.Path.{◌≡◌}
use Prim.Native.Nat.{◌≤◌}
use Rattle.link_index.specs.Bits.{number_of}
use Rattle.link_index.specs.LinkIndex.{changed}
use Rattle.link_index.proofs.slots.changed_slots.Given as goal

abbrev pub invariant-loop-t : goal.invariant-loop-t
invariant-loop-t l = (l.t ≤ 64) × (l.set ≡ number_of (changed l.old l.new) l.t)
