use mathlib.Core.Path.{◌≡◌, sym, subst}
use mathlib.Core.List.{List}
use Prim.Native.Nat.{ℕ}
use lib.ListN.{length}
use Rattle.image_fault.specs.declared.Widths.TheVariants.{Narrow}
use Rattle.yard_check.specs.Check.{check_fault}
use Rattle.yard_check.specs.Checks.{args_of, AllVisited}
use Rattle.yard_check.proofs.check.visits_widened.Goals as goal

pub visits_all-requires : goal.visits_all-requires
visits_all-requires c = let a = c.args in
    subst (λ (xs : List ℕ). (check_fault a.yard.now xs (args_of Narrow a.blocking.now a.a) (length a.report.now)).number ≡ 0) (sym (c.widen.ensures c.requires.1)) c.requires.0

pub returns : goal.returns
returns c = let a = c.args in
    let w = c.visits_all in
    subst (λ (xs : List ℕ). AllVisited a.yard.now xs (args_of Narrow a.blocking.now a.a) a.report.now (length a.room.now) w.result w.new.yard w.new.report) (c.widen.ensures c.requires.1) w.ensures
