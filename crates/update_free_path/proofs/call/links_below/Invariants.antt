use Rattle.std.proofs.Common.{◌≡◌, ◌&&◌, drop}
use Rattle.update_definition.specs.UpdateImage.{links_below}
use Rattle.update_free_path.proofs.call.links_below.Given as goal

abbrev pub invariant-loop-x : goal.invariant-loop-x
invariant-loop-x l = (l.below && links_below l.l (drop l.x-index l.blocking)) ≡ links_below l.l l.blocking
