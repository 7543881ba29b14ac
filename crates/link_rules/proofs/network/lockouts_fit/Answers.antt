use Rattle.std.proofs.Common.{◌&&◌, refl, sym, ◌∙◌, ap₂, arith}
use Rattle.link_rules.specs.Network.{all_below, lockout_fits}
use Rattle.link_rules.proofs.TableLaws.{all_turn, header-length}
use Rattle.link_rules.proofs.network.lockouts_fit.Goals as goal

pub loop-j-init : goal.loop-j-init
unfolding all_below
loop-j-init c = refl

pub lockout_fits-fits-requires : goal.lockout_fits-fits-requires
lockout_fits-fits-requires c = (c.link_count-links.ensures, omega (arith, header-length _ c.requires, c.loop-j-test.true, c.link_count-links.ensures, c.u32_at-n.ensures))

pub loop-j-preserved : goal.loop-j-preserved
loop-j-preserved c = ap₂ ◌&&◌ c.loop-j.invariant c.lockout_fits-fits.ensures ∙ sym (all_turn (lockout_fits c.args.table.now) c.loop-j.j)
