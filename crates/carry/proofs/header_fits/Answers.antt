use mathlib.Core.Path.{sym, ap, ◌∙◌}
use native.Mathlib.Omega.{arith}
use borrow.Author.Tests.{eq-eqb, ne_eqb}
use Rattle.link_rules.specs.Octets.{le_at}
use Rattle.yard_check.specs.Yard.{slot_count}
use Rattle.carry.specs.Carry.{wide_end, second_header_fits}
use Rattle.carry.proofs.header_fits.Goals as goal

pub wide_end-size-requires : goal.wide_end-size-requires
wide_end-size-requires c = let p = c.requires in (p.0, p.1, omega (arith, c.slot_count-slots.ensures))

pub returns-then-u32_at-size : goal.returns-then-u32_at-size
unfolding second_header_fits
returns-then-u32_at-size c = let a = c.args in
    let Y = a.yard.now in
    let e = c.wide_end-size.ensures.0 ∙ ap (wide_end Y) c.slot_count-slots.ensures in
    rw (ne_eqb (le_at 4 a.wide.now 0) (wide_end Y (slot_count Y)) (λ q. c.if-u32_at-size.true (c.u32_at.ensures ∙ (q ∙ sym e))))

pub returns-then-slot_count-slots : goal.returns-then-slot_count-slots
unfolding second_header_fits
returns-then-slot_count-slots c = let a = c.args in
    let Y = a.yard.now in
    let W = a.wide.now in
    let e = c.wide_end-size.ensures.0 ∙ ap (wide_end Y) c.slot_count-slots.ensures in
    rw (eq-eqb (le_at 4 W 0) (wide_end Y (slot_count Y)) (sym c.u32_at.ensures ∙ (c.if-u32_at-size.false ∙ e)), ne_eqb (slot_count W) (slot_count Y) (λ q. c.if-slot_count-slots.true (c.slot_count.ensures ∙ (q ∙ sym c.slot_count-slots.ensures))))

pub returns : goal.returns
unfolding second_header_fits
returns c = let a = c.args in
    let Y = a.yard.now in
    let W = a.wide.now in
    let e = c.wide_end-size.ensures.0 ∙ ap (wide_end Y) c.slot_count-slots.ensures in
    rw (eq-eqb (le_at 4 W 0) (wide_end Y (slot_count Y)) (sym c.u32_at.ensures ∙ (c.if-u32_at-size.false ∙ e)), eq-eqb (slot_count W) (slot_count Y) (sym c.slot_count.ensures ∙ (c.if-slot_count-slots.false ∙ c.slot_count-slots.ensures)))
    c.offsets_fit.ensures
