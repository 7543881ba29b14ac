use mathlib.Core.Path.{◌≡◌}
use Prim.Native.Nat.{◌≤◌}
use Rattle.image.specs.Image.{path_of}
use Rattle.free_path.specs.Base.{walk_back}
use Rattle.update_definition.specs.Moves.{not_fake}
use Rattle.search.proofs.rewind.walk_back.Given as goal

abbrev pub invariant-loop-k : goal.invariant-loop-k
invariant-loop-k l = (l.k ≤ l.n) × (walk_back not_fake (path_of l.img l.n) l.k ≡ walk_back not_fake (path_of l.img l.n) l.from)
