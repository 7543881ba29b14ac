use mathlib.Core.Path.{◌≡◌, refl, sym, ◌∙◌}
use Rattle.image_fault.specs.declared.Widths.TheVariants.{Narrow}
use Rattle.yard_check.specs.Check.{CheckArgs, checked_with}
use Rattle.yard_check.specs.Checks.{checked_of}
use Rattle.std.proofs.Common.{rules, tests}
use lib.ListN.{length}
use Rattle.link_rules.proofs.RefusalLaws.{none_raised}
use Rattle.undo.proofs.UndoLaws.{recorded_is, recorded-refused, recorded-room, copied_around}
use Rattle.undo.proofs.check_recorded.Goals as goal

pub returns-in-Err : goal.returns-in-Err
returns-in-Err c = let a = c.args in
    let A : CheckArgs = record { widths = Narrow; blocking = a.blocking.now; moved = a.moved.0; begin = a.begin; local = a.local; limit = a.limit } in
    recorded-refused a.yard.now a.occ.now A a.report.now a.undo_record.now c.in-Err.f (sym (recorded_is a.yard.now a.occ.now A (length a.report.now) (length a.undo_record.now) c.recorded_fault.result (c.recorded_fault.ensures _ (c.check_fault-own.ensures a.occ.now refl))) ∙ c.in-Err.is)

pub recorded-requires-clause-room : goal.recorded-requires-clause-room
recorded-requires-clause-room c = let a = c.args in
    let A : CheckArgs = record { widths = Narrow; blocking = a.blocking.now; moved = a.moved.0; begin = a.begin; local = a.local; limit = a.limit } in
    recorded-room a.yard.now a.occ.now A a.report.now a.undo_record.now (none_raised _ (sym (recorded_is a.yard.now a.occ.now A (length a.report.now) (length a.undo_record.now) c.recorded_fault.result (c.recorded_fault.ensures _ (c.check_fault-own.ensures a.occ.now refl))) ∙ c.in_default.is))

pub returns : goal.returns
returns c = let a = c.args in
    let A : CheckArgs = record { widths = Narrow; blocking = a.blocking.now; moved = a.moved.0; begin = a.begin; local = a.local; limit = a.limit } in
    let e = none_raised _ (sym (recorded_is a.yard.now a.occ.now A (length a.report.now) (length a.undo_record.now) c.recorded_fault.result (c.recorded_fault.ensures _ (c.check_fault-own.ensures a.occ.now refl))) ∙ c.in_default.is) in
    let w = c.recorded in
    let k : checked_of w.result w.new.yard w.new.report ≡ checked_with a.yard.now a.occ.now A a.report.now = search (rules, tests) in
    copied_around a.yard.now a.occ.now A a.report.now a.undo_record.now e w.result _ _ _ _ refl k w.ensures.copies
