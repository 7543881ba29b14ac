use mathlib.Core.Path.{refl}
use native.Mathlib.Omega.{arith}
use lib.ListN.{length}
use Rattle.yard_check.specs.Checks.{args_of}
use Rattle.yard_check.specs.declared.check.Span.{Span}
use Rattle.yard_check.specs.declared.check.Counts.{Counts}
use Rattle.yard_check.proofs.TurnLaws.{slots-few, all_spans, all_visited}
use Rattle.yard_check.proofs.check.visits_all.Goals as goal

pub overflow_cast-s : goal.overflow_cast-s
overflow_cast-s c = let a = c.args in
    omega (arith, c.slot_count.ensures, slots-few a.yard.now a.g.now.occ.now (args_of a.g.now.widths a.g.now.blocking.now a.g.now.args) a.report.now c.requires)

pub visits-requires : goal.visits-requires
visits-requires c = let a = c.args in
    let s : Span = record { from = 0; until = c.slot_count.result; wide = c.wide_rows.result } in
    let y : Counts = record { erred = 0; blocked = 0; next = a.g.now.args.begin; changed = 0 } in
    all_spans a.yard.now a.g.now.occ.now (args_of a.g.now.widths a.g.now.blocking.now a.g.now.args) a.report.now c.requires (length a.room.now) s y refl c.slot_count.ensures c.wide_rows.ensures refl

pub returns : goal.returns
returns c = let a = c.args in
    let s : Span = record { from = 0; until = c.slot_count.result; wide = c.wide_rows.result } in
    let y : Counts = record { erred = 0; blocked = 0; next = a.g.now.args.begin; changed = 0 } in
    let w = c.visits in
    all_visited a.yard.now a.g.now.occ.now (args_of a.g.now.widths a.g.now.blocking.now a.g.now.args) a.report.now c.requires (length a.room.now) s y refl c.slot_count.ensures c.wide_rows.ensures refl w.result w.new.yard w.new.report w.ensures
