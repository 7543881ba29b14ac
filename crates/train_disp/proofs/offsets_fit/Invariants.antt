use mathlib.Core.Path.{◌≡◌}
use mathlib.Core.Bool.{true}
use Prim.Native.Nat.{◌-◌, ◌/◌}
use lib.ListN.{length}
use Rattle.disp_structs.specs.Values.{zero_metres}
use Rattle.train_disp.specs.TrainDisp.{walk_next, all_within}
use Rattle.train_disp.proofs.offsets_fit.Given as goal

abbrev pub invariant-loop-i : goal.invariant-loop-i
invariant-loop-i l = all_within (walk_next true l.est (length l.est / 32 - l._i) l.at l.o) ≡ all_within (walk_next true l.est (length l.est / 32) 0 zero_metres)
