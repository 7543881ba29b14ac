use mathlib.Core.Path.{◌≡◌}
use Rattle.image.specs.Image.{path_of}
use Rattle.free_path.specs.Base.{walk_from}
use Rattle.update_definition.specs.Moves.{not_fake}
use Rattle.search.proofs.fakes.walk_fakes.Given as goal

abbrev pub invariant-loop-k : goal.invariant-loop-k
invariant-loop-k l = walk_from not_fake (path_of l.img l.n) l.k ≡ walk_from not_fake (path_of l.img l.n) l.from
