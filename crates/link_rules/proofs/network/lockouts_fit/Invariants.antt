use Rattle.std.proofs.Common.{◌≡◌}
use Rattle.link_rules.specs.Network.{all_below, lockout_fits}
use Rattle.link_rules.proofs.network.lockouts_fit.Given as goal

abbrev pub invariant-loop-j : goal.invariant-loop-j
invariant-loop-j l = l.fits ≡ all_below l.j (lockout_fits l.table)
