use Rattle.disp_structs.specs.Values.{arriving}
use Rattle.image.specs.Image.{node_at}
use Rattle.update_free_path.proofs.PathLaws.{Filled}
use Rattle.update_free_path.proofs.path.link_path.Given as goal

abbrev pub invariant-loop-i : goal.invariant-loop-i
invariant-loop-i l = Filled l.i (λ j. (arriving (node_at l.img j)).0) l.col
