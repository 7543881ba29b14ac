use Rattle.link_rules.specs.Octets.{le_at}
use Rattle.image.specs.Image.{type_of, est_from}
use Rattle.image.proofs.codec.zero_est.Goals as goal

pub returns : goal.returns
unfolding est_from le_at type_of
returns c = cc
