use Rattle.std.proofs.Common.{refl}
use Rattle.link_rules.specs.Network.{table_fits}
use Rattle.link_rules.proofs.network.table_fits.Goals.{then-header_fits, else-header_fits}
use Rattle.link_rules.proofs.network.table_fits.Goals as goal

pub returns-then-records_fit : goal.returns-then-records_fit
unfolding table_fits
returns-then-records_fit c =
    elim c.if-header_fits.branch [
      | then-header_fits w ↦ rw (← c.header_fits.ensures, w.if-header_fits.true, ← w.records_fit.ensures, ← w.value-is, c.if-records_fit.true) c.lockouts_fit.ensures
      | else-header_fits w ↦ (cc)
    ]

pub returns-else-records_fit : goal.returns-else-records_fit
unfolding table_fits
returns-else-records_fit c =
    elim c.if-header_fits.branch [
      | then-header_fits w ↦ rw (← c.header_fits.ensures, w.if-header_fits.true, ← w.records_fit.ensures, ← w.value-is, c.if-records_fit.false) refl
      | else-header_fits w ↦ rw (w.value-is, ← c.header_fits.ensures, w.if-header_fits.false) refl
    ]
