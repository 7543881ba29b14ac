use Rattle.link_rules.specs.Network.{header_fits}
use Rattle.link_rules.proofs.RangeLaws.{and_third}
use Rattle.link_rules.proofs.network.header_fits.Goals as goal

pub returns : goal.returns
unfolding header_fits
returns c = simp (and_third, c.u32_at-size.ensures, c.link_count-links.ensures, c.u32_at-lockouts.ensures, c.u32_at-offset.ensures)
