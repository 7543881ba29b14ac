use mathlib.Core.Path.{◌≡◌}
use Prim.Native.Nat.{◌+◌, ◌-◌}
use lib.ListN.{length}
use Rattle.disp_structs.specs.Values.{zero_metres}
use Rattle.image.specs.Image.{est_count, node_place}
use Rattle.train_disp.specs.TrainDisp.{walk_next, put_nodes}
use Rattle.train_disp.proofs.put_path.Given as goal

abbrev pub invariant-loop-i : goal.invariant-loop-i
invariant-loop-i l = (est_count l.img ≡ l.e) × (length l.img ≡ length l.initial.img)
    × (put_nodes (walk_next l.sums l.est (l.e - l.i) l.at l.o) (node_place l.e l.i) l.img ≡ put_nodes (walk_next l.sums l.est l.e 0 zero_metres) (node_place l.e 0) l.initial.img)
    × (l.i + length (walk_next l.sums l.est (l.e - l.i) l.at l.o) ≡ length (walk_next l.sums l.est l.e 0 zero_metres))
