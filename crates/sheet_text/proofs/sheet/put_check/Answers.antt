use Rattle.yard_check.specs.Yard.{slot_count}
use Prim.Native.Nat.{◌≤◌}
use native.Mathlib.Omega.{arith}
use Rattle.sheet_text.proofs.SheetLaws.{refused_lines, erred_lines, done_lines, of_erred, of_done}
use Rattle.sheet_text.proofs.sheet.put_check.Goals as goal

pub overflow_cast-slots : goal.overflow_cast-slots
overflow_cast-slots c = let h : slot_count c.args.yard.now ≤ 63 = of_erred c.in-Erred.is c.requires in omega (arith, c.slot_count-slots.ensures)

pub put_slot_lines-requires : goal.put_slot_lines-requires
put_slot_lines-requires c = let h : slot_count c.args.yard.now ≤ 63 = of_erred c.in-Erred.is c.requires in omega (arith, c.slot_count-slots.ensures)

pub overflow_cast-slots-in-Done : goal.overflow_cast-slots-in-Done
overflow_cast-slots-in-Done c = let h : slot_count c.args.yard.now ≤ 63 = of_done c.in-Done.is c.requires in omega (arith, c.slot_count-slots.ensures)

pub put_slot_lines-requires-in-Done : goal.put_slot_lines-requires-in-Done
put_slot_lines-requires-in-Done c = let h : slot_count c.args.yard.now ≤ 63 = of_done c.in-Done.is c.requires in omega (arith, c.slot_count-slots.ensures)

pub returns-in-Refused : goal.returns-in-Refused
returns-in-Refused c = let a = c.args in refused_lines a.yard.now a.report.now a.links c.in-Refused.is c.put_refused.ensures

pub returns-in-Erred : goal.returns-in-Erred
returns-in-Erred c = let a = c.args in
    erred_lines a.yard.now a.report.now a.links c.in-Erred.is c.slot_count-slots.ensures c.put_erred-n.ensures c.put_slot_lines.ensures

pub returns-in-Done : goal.returns-in-Done
returns-in-Done c = let a = c.args in
    done_lines a.yard.now a.report.now a.links c.in-Done.is c.slot_count-slots.ensures c.put_done-n.ensures c.put_slot_lines-in-Done.ensures
