use Rattle.std.proofs.Common.{◌≡◌, refl, sym, ap, ap₂, ◌∙◌, rules, tests}
use mathlib.Core.List.{List}
use Prim.Native.Nat.{ℕ}
use native.Mathlib.Omega.{arith}
use lib.ListN.{length}
use Rattle.link_rules.proofs.RefusalLaws.{none_raised, some_raised}
use Rattle.link_rules.specs.Refusals as Stepped
use Rattle.carry.specs.Carry.{with_widened, carrying, carry_fault}
use Rattle.carry.proofs.LayoutLaws.{yard-few, passed, second-room, next-accepted, carried-refused, carried-done}
use Rattle.carry.proofs.carry.Goals as goal

pub returns-in_err-carry_fault : goal.returns-in_err-carry_fault
returns-in_err-carry_fault c = let a = c.args in
    let e : c.from_residual.result ≡ Stepped.Refused c.in_err-carry_fault.field-0.0 = search (rules, tests) in
    let f = carry_fault a.yard.now (length a.occupancy.now) a.count a.wide_yard.now (length a.wide_occupancy.now) in
    let h = some_raised f c.in_err-carry_fault.field-0.0 (sym c.carry_fault.ensures ∙ c.in_err-carry_fault.was) in
    ap (λ r. carrying r a.wide_yard.now a.wide_occupancy.now) (e ∙ ap Stepped.Refused (sym h.0))
    ∙ carried-refused a.yard.now a.occupancy.now a.count a.wide_yard.now a.wide_occupancy.now f refl h.1

pub begin_by-requires : goal.begin_by-requires
begin_by-requires c = let a = c.args in
    let q = none_raised (carry_fault a.yard.now (length a.occupancy.now) a.count a.wide_yard.now (length a.wide_occupancy.now)) (sym c.carry_fault.ensures ∙ c.in_ok-carry_fault.was) in
    let z = passed a.yard.now (length a.occupancy.now) a.count a.wide_yard.now (length a.wide_occupancy.now) q in
    let f = yard-few a.yard.now (λ i. omega (arith, c.shared_slice_known-1.given i)) z.fits in
    let r = second-room a.yard.now a.count a.wide_yard.now z.second in
    (f.0, f.1, r.1)

pub carry_occupancy-requires : goal.carry_occupancy-requires
carry_occupancy-requires c = let a = c.args in
    let q = none_raised (carry_fault a.yard.now (length a.occupancy.now) a.count a.wide_yard.now (length a.wide_occupancy.now)) (sym c.carry_fault.ensures ∙ c.in_ok-carry_fault.was) in
    let z = passed a.yard.now (length a.occupancy.now) a.count a.wide_yard.now (length a.wide_occupancy.now) q in
    z.lengths.2

pub carry_image-requires : goal.carry_image-requires
carry_image-requires c = let a = c.args in
    let q = none_raised (carry_fault a.yard.now (length a.occupancy.now) a.count a.wide_yard.now (length a.wide_occupancy.now)) (sym c.carry_fault.ensures ∙ c.in_ok-carry_fault.was) in
    let z = passed a.yard.now (length a.occupancy.now) a.count a.wide_yard.now (length a.wide_occupancy.now) q in
    let f = yard-few a.yard.now (λ i. omega (arith, c.shared_slice_known-1.given i)) z.fits in
    let r = second-room a.yard.now a.count a.wide_yard.now z.second in
    (f.0, f.1, r.0, c.begin_by.auto.wide ∙ r.1, next-accepted a.yard.now (length a.occupancy.now) a.count a.wide_yard.now (length a.wide_occupancy.now) z r.0)

pub returns : goal.returns
returns c = let a = c.args in
    let q = none_raised (carry_fault a.yard.now (length a.occupancy.now) a.count a.wide_yard.now (length a.wide_occupancy.now)) (sym c.carry_fault.ensures ∙ c.in_ok-carry_fault.was) in
    ap₂ (λ (x y : List ℕ). carrying Stepped.Done x y) (c.carry_image.ensures ∙ ap (with_widened a.yard.now a.count) c.begin_by.ensures) c.carry_occupancy.ensures
    ∙ carried-done a.yard.now a.occupancy.now a.count a.wide_yard.now a.wide_occupancy.now q
