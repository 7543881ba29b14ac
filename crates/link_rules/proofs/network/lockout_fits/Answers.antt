use Rattle.std.proofs.Common.{◌+◌, ◌*◌, ltb, ap, ◌∙◌, ap₂}
use Rattle.link_rules.specs.Octets.{le_at}
use Rattle.link_rules.specs.Network.{lockout_fits}
use Rattle.link_rules.proofs.network.lockout_fits.Goals as goal

pub returns : goal.returns
unfolding lockout_fits
returns c = let a = c.args in
    ap₂ ltb (c.u32_in.ensures ∙ ap (λ n. le_at 4 a.table.now (16 + 12 * n + 4 * a.j)) c.requires.0) c.requires.0
