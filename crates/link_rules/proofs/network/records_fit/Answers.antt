use Rattle.std.proofs.Common.{◌&&◌, refl, sym, ◌∙◌, ap₂, arith}
use Rattle.link_rules.specs.Network.{all_below, record_fits}
use Rattle.link_rules.proofs.TableLaws.{all_turn, header-length}
use Rattle.link_rules.proofs.network.records_fit.Goals as goal

pub loop-l-init : goal.loop-l-init
unfolding all_below
loop-l-init c = refl

pub record_fits-fits-requires : goal.record_fits-fits-requires
record_fits-fits-requires c = (c.link_count-links.ensures, c.u32_at-lockouts.ensures, omega (arith, header-length _ c.requires, c.loop-l-test.true, c.link_count-links.ensures))

pub loop-l-preserved : goal.loop-l-preserved
loop-l-preserved c = ap₂ ◌&&◌ c.loop-l.invariant c.record_fits-fits.ensures ∙ sym (all_turn (record_fits c.args.table.now) c.loop-l.l)
