use mathlib.Core.Path.{◌≡◌}
use Prim.Native.Nat.{◌≤◌}
use Rattle.image.specs.Image.{is_wide}
use Rattle.yard_check.specs.Yard.{part_of}
use Rattle.yard_check.specs.Check.{how_many}
use Rattle.yard_check.proofs.check.wide_count.Given as goal

abbrev pub invariant-loop-i : goal.invariant-loop-i
invariant-loop-i l = (l.i ≤ l.n) × (l.k ≡ how_many (λ t. is_wide (part_of l.yard t)) l.i)
