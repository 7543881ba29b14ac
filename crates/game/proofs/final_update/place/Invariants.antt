use mathlib.Core.Path.{◌≡◌}
use mathlib.Core.List.{◌++◌}
use Prim.Native.Nat.{◌≤◌}
use lib.ListN.{length, take, drop}
use Rattle.game.specs.Game.{held_by}
use Rattle.game.specs.Sets.{links_in}
use Rattle.game.proofs.final_update.place.Given as goal

-- The loop's invariant: what is still to come gives the whole.
abbrev pub invariant-loop-i : goal.invariant-loop-i
invariant-loop-i l = (l.i ≤ length l.links)
    × (l.n ≤ l.i)
    × (length l.blocking ≡ 8)
    × (length l.occ ≡ length l.initial.occ)
    × (held_by l.moved (links_in (drop l.i l.links) l.rest) l.occ ≡ held_by l.moved (links_in l.links l.c) l.initial.occ)
    × (take l.n l.blocking ++ links_in (drop l.i l.links) l.rest ≡ links_in l.links l.c)
