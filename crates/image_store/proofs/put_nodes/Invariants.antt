use mathlib.Core.Path.{◌≡◌}
use Rattle.disp_structs.specs.Listed.{listed}
use Rattle.image.specs.Image.{est_count, node_place, node_at, put_node}
use Rattle.image.specs.Codec.{put_each}
use Rattle.image_store.proofs.put_nodes.Given as goal

abbrev pub invariant-loop-i : goal.invariant-loop-i
invariant-loop-i l = l.image ≡ put_each put_node 32 (listed l.i (node_at l.img)) (node_place (est_count l.initial.image) 0) l.initial.image
