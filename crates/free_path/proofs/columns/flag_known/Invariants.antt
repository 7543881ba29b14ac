use Rattle.std.proofs.Common.{◌≡◌, drop}
use Rattle.free_path.specs.Columns.{links, flagged, flag_links, kept}
use Rattle.free_path.proofs.columns.flag_known.Given as goal

abbrev pub invariant-loop-x : goal.invariant-loop-x
invariant-loop-x l = flag_links (kept (flagged l.on) (drop l.x-index (links l.blocking))) l.flags ≡ flag_links (kept (flagged l.on) (links l.blocking)) l.initial.flags
