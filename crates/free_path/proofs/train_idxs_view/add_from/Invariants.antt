use Rattle.std.proofs.Common.{◌≡◌, ◌-◌, ◌≤◌, length, take}
use Rattle.free_path.specs.TrainIdxsView.{add_from}
use Rattle.free_path.specs.Columns.{trains}
use Rattle.free_path.proofs.train_idxs_view.add_from.Given as goal

abbrev pub invariant-loop-i : goal.invariant-loop-i
invariant-loop-i l = (length l.pool ≡ 2048) × (l.len ≤ l.n) × (l.n ≤ 2048) × (add_from l.base (l.end - l.i) l.i (take l.n (trains l.pool)) ≡ add_from l.base (l.end - l.begin) l.begin (take l.len (trains l.initial.pool)))
