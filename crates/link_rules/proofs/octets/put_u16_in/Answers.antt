use Rattle.link_rules.specs.Octets.{put_le}
use Rattle.link_rules.proofs.octets.put_u16_in.Goals as goal

pub returns : goal.returns
unfolding put_le
returns c = rw c.to_le_bytes.ensures
