use mathlib.Core.Path.{sym, ap, subst, ◌∙◌}
use mathlib.Core.List.{List}
use Prim.Native.Nat.{ℕ}
use native.Mathlib.Omega.{arith}
use lib.ListN.{length}
use Rattle.update_definition.specs.UpdateImage.{given_fault}
use Rattle.yard_check.specs.Check.{visited, is_seen}
use Rattle.yard_check.specs.Checks.{args_of, SlotVisited}
use Rattle.yard_check.proofs.TurnLaws.{slot_kept, slot-left, lent-up, lent-inside, lent-part, part_returned}
use Rattle.yard_check.proofs.check.slot_visit.Goals as goal

pub returns-then-t-g : goal.returns-then-t-g
returns-then-t-g c = let a = c.args in
    slot_kept a.yard.now a.g.now.occ.now (args_of a.g.now.widths a.g.now.blocking.now a.g.now.args) a.t c.requires c.if-t-g.true (length a.room.now) c.plain_row.result c.plain_row.ensures

pub slice_bounds-seen_visit-count : goal.slice_bounds-seen_visit-count
slice_bounds-seen_visit-count c = let a = c.args in
    omega (arith, lent-up a.yard.now a.g.now.occ.now (args_of a.g.now.widths a.g.now.blocking.now a.g.now.args) a.t c.requires c.part_from-from.result c.part_until-until.result c.part_from-from.ensures c.part_until-until.ensures)

pub seen_visit-requires : goal.seen_visit-requires
seen_visit-requires c = let a = c.args in
    let k = c.requires in
    let p = c.part_from-from in
    let q = c.part_until-until in
    (k.call, ap (λ (x : List ℕ). given_fault a.g.now.widths x a.g.now.occ.now a.g.now.args.moved.0) (lent-part a.yard.now a.g.now.occ.now (args_of a.g.now.widths a.g.now.blocking.now a.g.now.args) a.t k p.result q.result p.ensures q.ensures) ∙ k.given)

pub returns : goal.returns
returns c = let a = c.args in
    let A = args_of a.g.now.widths a.g.now.blocking.now a.g.now.args in
    let k = c.requires in
    let p = c.part_from-from in
    let q = c.part_until-until in
    let w = c.seen_visit in
    let R = length a.room.now in
    let lent = lent-part a.yard.now a.g.now.occ.now A a.t k p.result q.result p.ensures q.ensures in
    subst (λ (left : List ℕ). SlotVisited a.yard.now a.g.now.occ.now A a.t R w.result left)
    (sym (part_returned a.yard.now a.g.now.occ.now A a.t k p.result q.result p.ensures q.ensures w.new.img))
    (slot-left a.yard.now a.g.now.occ.now A a.t k c.if-t-g.false R w.result w.new.img (w.ensures.0 ∙ ap (visited a.g.now.occ.now A a.t) lent) (w.ensures.1 ∙ ap (λ (x : List ℕ). is_seen R x w.new.img) lent))

pub slice_bounds-seen_visit-start : goal.slice_bounds-seen_visit-start
slice_bounds-seen_visit-start c =
    let a = c.args in
    omega (arith, lent-up a.yard.now a.g.now.occ.now (args_of a.g.now.widths a.g.now.blocking.now a.g.now.args) a.t c.requires c.part_from-from.result c.part_until-until.result c.part_from-from.ensures c.part_until-until.ensures)

pub slice_bounds-seen_visit-end : goal.slice_bounds-seen_visit-end
slice_bounds-seen_visit-end c =
    let a = c.args in
    omega (arith, lent-inside a.yard.now a.g.now.occ.now (args_of a.g.now.widths a.g.now.blocking.now a.g.now.args) a.t c.requires c.part_from-from.result c.part_until-until.result c.part_from-from.ensures c.part_until-until.ensures)
