use mathlib.Core.Path.{sym, ap, ◌∙◌}
use mathlib.Core.List.{List}
use Prim.Native.Nat.{ℕ}
use native.Mathlib.Omega.{arith}
use lib.ListN.{length}
use Rattle.link_rules.specs.declared.refusal.Refusal.{Refusal}
use Rattle.image_fault.specs.declared.Widths.TheVariants.{Either}
use Rattle.link_index.specs.LinkIndex.{refreshed}
use Rattle.undo.proofs.UndoLaws.{room_clean}
use Rattle.link_index.specs.Indexed.{given_of, recorded_fault}
use Rattle.link_rules.proofs.RefusalLaws.{none_raised, some_raised}
use Rattle.link_index.proofs.CallLaws.{lengths_few, recorded-few, recorded-refused, recorded_stays, recorded_old, recorded_as}
use Rattle.link_index.proofs.checks.check_recorded_wide_indexed.Goals as goal

pub returns-in-Err : goal.returns-in-Err
returns-in-Err c = let a = c.args in
    let A = given_of Either a.blocking.now a.moved.0 a.begin a.local a.limit in
    let h = some_raised (recorded_fault (length a.yard.now) (length a.undo_record.now) (length a.occ.now) (length a.index.now)) c.in-Err.f (sym c.recorded_fault.ensures ∙ c.in-Err.is) in
    recorded-refused a.yard.now a.occ.now A a.report.now a.undo_record.now a.index.now c.in-Err.f (sym h.0) (λ z. h.1 (ap (λ (x : Refusal). x.number) h.0 ∙ z))

pub returns-then-is_refused : goal.returns-then-is_refused
returns-then-is_refused c = let a = c.args in
    let A = given_of Either a.blocking.now a.moved.0 a.begin a.local a.limit in
    let w = c.check_recorded_wide-x in
    recorded_stays a.yard.now a.occ.now A a.report.now a.undo_record.now a.index.now (none_raised (recorded_fault (length c.args.yard.now) (length c.args.undo_record.now) (length c.args.occ.now) (length c.args.index.now)) (sym c.recorded_fault.ensures ∙ c.in-Ok.is)) w.result w.new.yard w.new.report w.new.undo_record w.ensures (λ i. omega (arith, c.slice_known-4-1.given i)) (sym c.is_refused.ensures ∙ c.if-is_refused.true)

pub refresh_from-requires : goal.refresh_from-requires
refresh_from-requires c = let a = c.args in
    let A = given_of Either a.blocking.now a.moved.0 a.begin a.local a.limit in
    let w = c.check_recorded_wide-x in
    let z = recorded-few (length a.yard.now) (length a.undo_record.now) (length a.occ.now) (length a.index.now) (none_raised (recorded_fault (length c.args.yard.now) (length c.args.undo_record.now) (length c.args.occ.now) (length c.args.index.now)) (sym c.recorded_fault.ensures ∙ c.in-Ok.is)) in
    let l = lengths_few (length a.occ.now) (length a.index.now) z.1 in
    let room = (room_clean (length a.yard.now) (length a.undo_record.now) z.0).0 in
    (omega (arith, room), omega (arith, l.0, l.1))

pub returns-else-is_refused : goal.returns-else-is_refused
returns-else-is_refused c = let a = c.args in
    let A = given_of Either a.blocking.now a.moved.0 a.begin a.local a.limit in
    let w = c.check_recorded_wide-x in
    let h = (none_raised (recorded_fault (length c.args.yard.now) (length c.args.undo_record.now) (length c.args.occ.now) (length c.args.index.now)) (sym c.recorded_fault.ensures ∙ c.in-Ok.is)) in
    let old = recorded_old a.yard.now a.occ.now A a.report.now a.undo_record.now a.index.now h w.result w.new.yard w.new.report w.new.undo_record w.ensures (sym c.is_refused.ensures ∙ c.if-is_refused.false) in
    recorded_as a.yard.now a.occ.now A a.report.now a.undo_record.now a.index.now h w.result w.new.yard w.new.report w.new.undo_record w.ensures _ (c.refresh_from.ensures ∙ ap (λ (y : List ℕ). refreshed y w.new.yard a.index.now) old)
