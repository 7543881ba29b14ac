use Rattle.std.proofs.Common.{◌≡◌, drop}
use Rattle.free_path.specs.Columns.{link_at, flag_links}
use Rattle.disp_structs.specs.Listed.{listed}
use Rattle.free_path.proofs.columns.flag_links.Given as goal

abbrev pub invariant-loop-i : goal.invariant-loop-i
invariant-loop-i l = flag_links (drop l.i (listed l.n (link_at l.col))) l.flags ≡ flag_links (listed l.n (link_at l.col)) l.initial.flags
