use Prim.Native.Nat.{◌-◌}
use Rattle.update_free_path.specs.Updates.{SameSizes, Top, Going}
use Rattle.update_free_path.proofs.rounds.rounds.Given as goal

abbrev pub invariant-loop-g : goal.invariant-loop-g
invariant-loop-g l = SameSizes l.initial.col l.initial.on l.initial.dt l.initial.dn l.col l.on l.dt l.dn × Top l.occ l.img l.col l.on l.dt l.dn l.w × Going l.occ l.known l.g l.limit l.initial.img l.initial.dt l.initial.dn l.initial.w l.img l.dt l.dn l.w

abbrev pub decreases-loop-g : goal.decreases-loop-g
decreases-loop-g l = l.limit - l.w.tally.rounds
