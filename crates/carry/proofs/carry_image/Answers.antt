use mathlib.Core.Path.{ap, ◌∙◌}
use Prim.Native.Nat.{◌+◌}
use native.Mathlib.Omega.{arith}
use native.Mathlib.Numerals.{add-one}
use borrow.Rule.Slice.PartMut.{Post-is}
use Rattle.yard_check.specs.Yard.{slot_count, part_of}
use Rattle.carry.specs.Carry.{wide_end}
use Rattle.carry.proofs.LayoutLaws.{end_mono, into_part}
use Rattle.carry.proofs.carry_image.Goals as goal

pub slice_bounds-widen-count : goal.slice_bounds-widen-count
slice_bounds-widen-count c = let a = c.args in
    omega (arith, c.wide_end-a.ensures.0, c.wide_end-e.ensures.0, end_mono a.yard.now a.n (a.n + 1) (omega arith))

pub slice_bounds-widen-start : goal.slice_bounds-widen-start
slice_bounds-widen-start c =
    let a = c.args in
    omega (arith, c.wide_end-a.ensures.0, c.wide_end-e.ensures.0, end_mono a.yard.now a.n (a.n + 1) (omega arith))

pub slice_bounds-widen-end : goal.slice_bounds-widen-end
slice_bounds-widen-end c =
    let a = c.args in
    let p = c.requires in
    omega (arith, c.wide_end-e.ensures.0, p.3, end_mono a.yard.now (a.n + 1) (slot_count a.yard.now) (omega (arith, p.2)))

pub returns : goal.returns
returns c = let a = c.args in
    let p = c.requires in
    let A = c.wide_end-a.result in
    let E = c.wide_end-e.result in
    rw (c.widen.ensures.1, Post-is A E a.wide.now (omega (arith, c.wide_end-a.ensures.0, c.wide_end-e.ensures.0, end_mono a.yard.now a.n (a.n + 1) (omega arith))))
    (into_part a.yard.now a.wide.now a.n A E c.part.result.now c.wide_end-a.ensures.0 (c.wide_end-e.ensures.0 ∙ ap (wide_end a.yard.now) (add-one a.n))
    (c.part.ensures ∙ ap (part_of a.yard.now) (add-one a.n)) p.4 p.2 p.3)
