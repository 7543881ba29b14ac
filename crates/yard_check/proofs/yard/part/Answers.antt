use native.Mathlib.Omega.{arith}
use Rattle.yard_check.proofs.PartLaws.{from_until, until_inside, part_span}
use Rattle.yard_check.proofs.yard.part.Goals as goal

pub slice_bounds-result-count : goal.slice_bounds-result-count
slice_bounds-result-count c = let a = c.args in
    omega (arith, c.part_until-e.ensures, c.part_from-a.ensures, from_until a.yard.now a.t.0)

pub returns : goal.returns
returns c = let a = c.args in
    rw (c.part_until-e.ensures, c.part_from-a.ensures) (part_span a.yard.now a.t.0)

pub slice_bounds-result-start : goal.slice_bounds-result-start
slice_bounds-result-start c =
    let a = c.args in
    omega (arith, c.part_until-e.ensures, c.part_from-a.ensures, from_until a.yard.now a.t.0)

pub slice_bounds-result-end : goal.slice_bounds-result-end
slice_bounds-result-end c =
    let a = c.args in
    omega (arith, c.part_until-e.ensures, until_inside a.yard.now a.t.0)
