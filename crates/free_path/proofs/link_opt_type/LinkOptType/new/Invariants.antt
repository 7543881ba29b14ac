use Rattle.std.proofs.Common.{◌≡◌, drop}
use Rattle.free_path.specs.LinkOptType.{class_walk}
use Rattle.free_path.specs.declared.link_opt_type.LinkOptType.TheVariants.{None}
use Rattle.free_path.specs.Columns.{links, flagged}
use Rattle.free_path.proofs.link_opt_type.LinkOptType.new.Given as goal

abbrev pub invariant-loop-x : goal.invariant-loop-x
invariant-loop-x l = class_walk (drop l.x-index (links l.blocking)) (flagged l.on) l.class ≡ class_walk (links l.blocking) (flagged l.on) None
