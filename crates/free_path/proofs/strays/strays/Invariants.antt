use Rattle.std.proofs.Common.{◌≡◌, ◌+◌, ◌≤◌, drop}
use Rattle.free_path.specs.Base.{count}
use Rattle.free_path.specs.Validate.{stray_link}
use Rattle.free_path.specs.Columns.{link_at, flagged}
use Rattle.disp_structs.specs.Listed.{listed}
use Rattle.free_path.proofs.strays.strays.Given as goal

abbrev pub invariant-loop-i : goal.invariant-loop-i
invariant-loop-i l = (l.k + l.free ≤ l.i) × (l.k + count (stray_link l.occ (flagged l.known)) (drop l.i (listed l.n (link_at l.col))) ≡ count (stray_link l.occ (flagged l.known)) (drop l.free (listed l.n (link_at l.col))))
