use mathlib.Core.Path.{refl, sym, ◌∙◌}
use native.Mathlib.Omega.{arith}
use lib.ListN.{length}
use Rattle.link_rules.proofs.RefusalLaws.{none_raised}
use Rattle.image_fault.specs.declared.Widths.TheVariants.{Narrow}
use Rattle.yard_check.specs.Checks.{args_of}
use Rattle.yard_check.proofs.TurnLaws.{few-links, watched_refused, watched_done}
use Rattle.yard_check.proofs.check.check_watched.Goals as goal

pub returns-in-Err : goal.returns-in-Err
returns-in-Err c = let a = c.args in
    let x = c.refused in
    watched_refused Narrow a.yard.now a.occ.now a.blocking.now a.a a.report.now (length a.room.now) c.in-Err.f (sym (c.check_fault.ensures a.occ.now refl) ∙ c.in-Err.is) x.result x.ensures.0 x.ensures.1

pub visits_within-requires : goal.visits_within-requires
visits_within-requires c = let a = c.args in
    let clean = none_raised _ (sym (c.check_fault.ensures a.occ.now refl) ∙ c.in_default.is) in
    (clean, few-links a.yard.now a.occ.now (args_of Narrow a.blocking.now a.a) (length a.report.now) clean, omega arith)

pub returns-then-occ-gt512 : goal.returns-then-occ-gt512
returns-then-occ-gt512 c = let a = c.args in
    let w = c.visits_within in
    let x = c.all_watched in
    watched_done Narrow a.yard.now a.occ.now a.blocking.now a.a a.report.now (length a.room.now) (none_raised _ (sym (c.check_fault.ensures a.occ.now refl) ∙ c.in_default.is)) w.result w.new.yard w.new.report w.ensures x.result x.ensures.0 x.ensures.1

pub visits_within-requires-2 : goal.visits_within-requires-2
visits_within-requires-2 c = let a = c.args in
    (none_raised _ (sym (c.check_fault.ensures a.occ.now refl) ∙ c.in_default.is), omega (arith, c.if-occ-gt512.false), omega arith)

pub returns : goal.returns
returns c = let a = c.args in
    let w = c.visits_within-2 in
    let x = c.all_watched-2 in
    watched_done Narrow a.yard.now a.occ.now a.blocking.now a.a a.report.now (length a.room.now) (none_raised _ (sym (c.check_fault.ensures a.occ.now refl) ∙ c.in_default.is)) w.result w.new.yard w.new.report w.ensures x.result x.ensures.0 x.ensures.1
