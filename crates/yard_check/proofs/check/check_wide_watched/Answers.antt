use mathlib.Core.Path.{sym, ◌∙◌}
use lib.ListN.{length}
use Rattle.link_rules.proofs.RefusalLaws.{none_raised}
use Rattle.image_fault.specs.declared.Widths.TheVariants.{Either}
use Rattle.yard_check.proofs.TurnLaws.{watched_refused, watched_done}
use Rattle.yard_check.proofs.check.check_wide_watched.Goals as goal

pub returns-in-Err : goal.returns-in-Err
returns-in-Err c = let a = c.args in
    let x = c.refused in
    watched_refused Either a.yard.now a.occ.now a.blocking.now a.a a.report.now (length a.room.now) c.in-Err.f (sym c.check_wide_fault.ensures ∙ c.in-Err.is) x.result x.ensures.0 x.ensures.1

pub visits_all-requires : goal.visits_all-requires
visits_all-requires c = none_raised _ (sym c.check_wide_fault.ensures ∙ c.in_default.is)

pub returns : goal.returns
returns c = let a = c.args in
    let w = c.visits_all in
    let x = c.all_watched in
    watched_done Either a.yard.now a.occ.now a.blocking.now a.a a.report.now (length a.room.now) (none_raised _ (sym c.check_wide_fault.ensures ∙ c.in_default.is)) w.result w.new.yard w.new.report w.ensures x.result x.ensures.0 x.ensures.1
