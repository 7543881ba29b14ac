use Rattle.search.specs.Read.{Marked}
use Rattle.image.specs.Image.{path_of}
use Rattle.update_free_path.proofs.path.mark_path.Given as goal

abbrev pub invariant-loop-i : goal.invariant-loop-i
invariant-loop-i l = Marked l.on (path_of l.img l.i)
