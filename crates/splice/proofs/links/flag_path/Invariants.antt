use mathlib.Core.List.{[]}
use Rattle.image.specs.Image.{node_at}
use Rattle.free_path.specs.LinkOptType.{links_on_path}
use Rattle.disp_structs.specs.Listed.{listed}
use Rattle.splice.specs.Flags.{Holds}
use Rattle.splice.proofs.links.flag_path.Given as goal

abbrev pub invariant-loop-i : goal.invariant-loop-i
invariant-loop-i l = (Holds l.initial.flags [] → Holds l.flags (links_on_path (listed l.i (node_at l.img))))
