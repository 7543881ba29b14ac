use mathlib.Core.Path.{◌≡◌}
use Prim.Native.Nat.{◌≤◌}
use lib.ListN.{length, drop}
use Rattle.game.specs.Game.{links_fit}
use Rattle.game.proofs.faults.links_fit.Given as goal

abbrev pub invariant-loop-i : goal.invariant-loop-i
invariant-loop-i l = (l.i ≤ length l.links) × (links_fit l.l (drop l.i l.links) ≡ links_fit l.l l.links)
