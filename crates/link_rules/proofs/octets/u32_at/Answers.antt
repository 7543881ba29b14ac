use Rattle.std.proofs.Common.{◌≡◌, ◌∙◌, arith}
use Rattle.link_rules.specs.Octets.{le_at}
use Rattle.link_rules.proofs.OctetLaws.{le_of}
use Rattle.link_rules.proofs.octets.u32_at.Goals as goal

pub returns : goal.returns
unfolding le_at
returns c =
    let e : c.from_le_bytes.result ≡ le_at 4 c.octets_at.result 0 = omega (arith, c.from_le_bytes.ensures) in
    e ∙ le_of 4 c.octets_at.result c.args.s.now c.args.at c.octets_at.ensures
