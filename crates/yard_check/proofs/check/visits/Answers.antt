use mathlib.Core.Path.{◌≡◌, refl, sym, ap, subst, ◌∙◌}
use mathlib.Core.List.{List}
use Prim.Native.Nat.{ℕ, ◌+◌, ◌*◌, ◌≤◌}
use native.Mathlib.Omega.{arith}
use lib.ListN.{length}
use Rattle.yard_check.specs.Check.{row_size, put_row, yard_after, report_after}
use Rattle.yard_check.specs.Checks.{args_of, row_of, tallied_of, tally_after, NextTurn, Visits, SlotVisited, span_image}
use Rattle.yard_check.specs.declared.check.Counts.{Counts}
use Rattle.yard_check.proofs.ReportLaws.{rows_few}
use Rattle.yard_check.proofs.TurnLaws.{next-slot, few-slots, span_start, turn-length, turn_visits, turn-yard, turn-report, turn-tally}
use borrow.Author.Rules.{rules}
use Rattle.yard_check.proofs.check.visits.Goals as goal

pub loop-n-init : goal.loop-n-init
loop-n-init c = let a = c.args in
    let p = c.requires in (
      omega arith,
      omega (arith, p.up),
      span_start a.yard.now a.g.now.occ.now (args_of a.g.now.widths a.g.now.blocking.now a.g.now.args) a.s a.y 0 p,
      refl,
      refl,
      (λ h. p.turn),
      (λ rows seen g. ((λ e. e), (λ r e. e))),
    )

pub overflow_add-n : goal.overflow_add-n
overflow_add-n c = let a = c.args in
    omega (arith, few-slots a.yard.now a.g.now.occ.now (args_of a.g.now.widths a.g.now.blocking.now a.g.now.args) a.s a.y 0 c.requires, c.loop-n-test.true)

pub slot_visit-r-requires : goal.slot_visit-r-requires
slot_visit-r-requires c = let a = c.args in
    let A = args_of a.g.now.widths a.g.now.blocking.now a.g.now.args in
    let g = c.loop-n in
    subst (λ (x : List ℕ). Visits x a.g.now.occ.now A (g.n + 1)) (sym g.invariant.2) (turn_visits a.yard.now a.g.now.occ.now A a.s a.y 0 c.requires g.n g.invariant.0 c.loop-n-test.true)

pub put_row-requires : goal.put_row-requires
put_row-requires c = let a = c.args in
    let n = c.loop-n.n in
    let h : n ≤ 62 = omega (arith, few-slots a.yard.now a.g.now.occ.now (args_of a.g.now.widths a.g.now.blocking.now a.g.now.args) a.s a.y 0 c.requires, c.loop-n-test.true) in
    omega (arith, c.rows_length.ensures, rows_few a.s.wide n h)

pub overflow_add-n-in-loop-n : goal.overflow_add-n-in-loop-n
overflow_add-n-in-loop-n c = let a = c.args in
    omega (arith, few-slots a.yard.now a.g.now.occ.now (args_of a.g.now.widths a.g.now.blocking.now a.g.now.args) a.s a.y 0 c.requires, c.loop-n-test.true)

pub tallied-x-requires : goal.tallied-x-requires
tallied-x-requires c = c.loop-n.invariant.5 c.loop-n-test.true

pub loop-n-preserved : goal.loop-n-preserved
loop-n-preserved c = let a = c.args in
    let A = args_of a.g.now.widths a.g.now.blocking.now a.g.now.args in
    let pre = c.requires in
    let g = c.loop-n in
    let n = g.n in
    let i = g.invariant in
    let w = c.slot_visit-r in
    let r = w.result in
    let left = w.new.yard in
    let R = length a.room.now in
    let h = c.loop-n-test.true in
    let W = a.s.wide in
    let s = subst (λ (k : ℕ). SlotVisited (yard_after a.yard.now (span_image a.yard.now a.g.now.occ.now A a.s.from) n) a.g.now.occ.now A (n + 1) k r left) i.3 (subst (λ (x : List ℕ). SlotVisited x a.g.now.occ.now A (n + 1) (length g.room) r left) i.2 w.ensures) in
    let few = few-slots a.yard.now a.g.now.occ.now A a.s a.y 0 pre in (
      omega (arith, i.0),
      omega (arith, h),
      turn-yard a.yard.now a.g.now.occ.now A a.s a.y R pre n i.0 h r left s,
      search rules,
      search rules,
      (λ k. subst (λ (x : Counts). NextTurn x (n + 1 + 1)) (sym c.tallied-x.ensures) (next-slot g.x (row_of r.row) r.changed n (i.5 h) (omega (arith, few, k)))),
      (λ rows seen q. (
        (λ e. c.tallied-x.ensures ∙ (ap (λ (x : Counts). tallied_of x (row_of r.row) r.changed (n + 1)) ((i.6 rows seen q).0 e) ∙ turn-tally a.yard.now a.g.now.occ.now A a.s a.y R pre n i.0 h r left s rows seen q)),
        (λ b e. c.put_row.ensures
            ∙ (ap (λ (k : ℕ). put_row W (row_of r.row) k g.report) c.rows_length.ensures
            ∙ (ap (λ (x : List ℕ). put_row W (row_of r.row) (row_size W * n) x) ((i.6 rows seen q).1 b e) ∙ turn-report a.yard.now a.g.now.occ.now A a.s a.y R pre n i.0 h r left s rows seen q b))),
      )),
    )

pub shape_of-yard : goal.shape_of-yard
shape_of-yard c = let a = c.args in
    let i = c.loop-n.invariant in
    ap (λ (x : List ℕ). length x) i.2 ∙ turn-length a.yard.now a.g.now.occ.now (args_of a.g.now.widths a.g.now.blocking.now a.g.now.args) a.s a.y 0 c.requires c.loop-n.n (omega (arith, i.1, c.requires.inside))

pub shape_of-report : goal.shape_of-report
shape_of-report c = c.loop-n.invariant.4

pub shape_of-room : goal.shape_of-room
shape_of-room c = c.loop-n.invariant.3

pub returns : goal.returns
returns c = let a = c.args in
    let A = args_of a.g.now.widths a.g.now.blocking.now a.g.now.args in
    let g = c.loop-n in
    let i = g.invariant in
    let e : g.n ≡ a.s.until = omega (arith, i.1, c.loop-n-test.false) in
    record {
      yard-left = i.2 ∙ ap (yard_after a.yard.now (span_image a.yard.now a.g.now.occ.now A a.s.from)) e;
      tally = λ rows seen q h. (i.6 rows seen q).0 h ∙ ap (tally_after rows seen A.begin) e;
      report-left = λ rows seen r q h. (i.6 rows seen q).1 r h ∙ ap (report_after a.s.wide rows r) e;
    }
