use mathlib.Core.Path.{sym, ap, ◌∙◌}
use native.Mathlib.Omega.{arith}
use lib.ListN.{length}
use borrow.Author.Tests.{eq-eqb, ne_eqb, lt-ltb, le-ltb}
use Rattle.yard_check.specs.Yard.{slot_count}
use Rattle.carry.specs.Carry.{wide_end, second_fits}
use Rattle.carry.proofs.second_fits.Goals as goal

pub returns-then-slots-count : goal.returns-then-slots-count
unfolding second_fits
returns-then-slots-count c = let a = c.args in
    rw (le-ltb a.count (slot_count a.yard.now) (omega (arith, c.slot_count-slots.ensures, c.if-slots-count.true)))

pub wide_end-requires : goal.wide_end-requires
wide_end-requires c = let p = c.requires in (p.0, p.1, omega (arith, c.slot_count-slots.ensures))

pub returns-then-wide-wide_end : goal.returns-then-wide-wide_end
unfolding second_fits
returns-then-wide-wide_end c = let a = c.args in
    let Y = a.yard.now in
    let e = c.wide_end.ensures.0 ∙ ap (wide_end Y) c.slot_count-slots.ensures in
    rw (lt-ltb a.count (slot_count Y) (omega (arith, c.slot_count-slots.ensures, c.if-slots-count.false)), ne_eqb (length a.wide.now) (wide_end Y (slot_count Y)) (λ q. c.if-wide-wide_end.true (q ∙ sym e)))

pub returns-then-count-eq0 : goal.returns-then-count-eq0
unfolding second_fits
returns-then-count-eq0 c = let a = c.args in
    let Y = a.yard.now in
    let e = c.wide_end.ensures.0 ∙ ap (wide_end Y) c.slot_count-slots.ensures in
    rw (lt-ltb a.count (slot_count Y) (omega (arith, c.slot_count-slots.ensures, c.if-slots-count.false)), eq-eqb (length a.wide.now) (wide_end Y (slot_count Y)) (c.if-wide-wide_end.false ∙ e), eq-eqb a.count 0 c.if-count-eq0.true)

pub begun_fits-requires : goal.begun_fits-requires
begun_fits-requires c = let a = c.args in
    let p = c.requires in
    let e = c.wide_end.ensures.0 ∙ ap (wide_end a.yard.now) c.slot_count-slots.ensures in
    (p.0, p.1, omega (arith, c.slot_count-slots.ensures, c.if-slots-count.false), c.if-wide-wide_end.false ∙ e)

pub returns : goal.returns
unfolding second_fits
returns c = let a = c.args in
    let Y = a.yard.now in
    let e = c.wide_end.ensures.0 ∙ ap (wide_end Y) c.slot_count-slots.ensures in
    rw (lt-ltb a.count (slot_count Y) (omega (arith, c.slot_count-slots.ensures, c.if-slots-count.false)), eq-eqb (length a.wide.now) (wide_end Y (slot_count Y)) (c.if-wide-wide_end.false ∙ e), ne_eqb a.count 0 c.if-count-eq0.false)
    c.begun_fits.ensures
