use Rattle.image.specs.Image.{est_count, node_place}
use Rattle.candidate.specs.Candidate.{node_bytes}
use Rattle.candidate.proofs.CandidateLaws.{node_span}
use Rattle.candidate.proofs.node_bytes.Goals as goal

pub returns : goal.returns
unfolding node_bytes
returns c = let a = c.args in
    rw (c.at_most-e.ensures, c.at_most-a.ensures, c.node_place-at.ensures, c.est_count.ensures) (node_span a.image.now (node_place (est_count a.image.now) a.node))
