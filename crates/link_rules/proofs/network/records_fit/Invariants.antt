use Rattle.std.proofs.Common.{◌≡◌}
use Rattle.link_rules.specs.Network.{all_below, record_fits}
use Rattle.link_rules.proofs.network.records_fit.Given as goal

abbrev pub invariant-loop-l : goal.invariant-loop-l
invariant-loop-l l = l.fits ≡ all_below l.l (record_fits l.table)
