use Prim.Native.Nat.{◌+◌, ◌*◌}
use mathlib.Core.Path.{◌≡◌}
use lib.ListN.{take}
use Rattle.link_rules.specs.Octets.{le_at}
use Rattle.disp_structs.specs.Listed.{listed}
use Rattle.sheet_text.proofs.bundle.read_occupancy.Given as goal

abbrev pub invariant-loop-i : goal.invariant-loop-i
invariant-loop-i l = take l.i l.occ ≡ listed l.i (λ j. le_at 2 l.bundle (32 + 2 * j))
