use Rattle.image_fault.proofs.CycleArrays.{cycle_is, cycle_below}
use mathlib.Core.Path.{◌≡◌, refl, sym, ap, ◌∙◌}
use native.Mathlib.Omega.{arith}
use Rattle.image_fault.specs.ImageFault.{cycle_refused}
use Rattle.link_rules.specs.Refusals.{no_refusal, refused, raised}
use Rattle.link_rules.proofs.RefusalLaws.{raised_none, raised_some}
use Rattle.image_fault.proofs.lowest_on_cycle.Goals as goal

pub returns-in-None : goal.returns-in-None
returns-in-None c = let v = c.loop-i in
    let q : v.i ≡ c.args.e = omega arith in
    sym (raised_none no_refusal refl)
    ∙ ap raised (ap cycle_refused (sym c.in-None.is ∙ c.cycle_at.ensures) ∙ cycle_is c.args.img.now v.next v.alt c.args.e c.requires.0 c.requires.1 (rw q at v.invariant.2) (rw q at v.invariant.3))

pub returns-in-Some : goal.returns-in-Some
returns-in-Some c = let v = c.loop-i in
    let q : v.i ≡ c.args.e = omega arith in
    sym (raised_some (refused 8 c.in-Some.a) (λ z. absurd (omega arith)))
    ∙ ap raised (ap cycle_refused (sym c.in-Some.is ∙ c.cycle_at.ensures) ∙ cycle_is c.args.img.now v.next v.alt c.args.e c.requires.0 c.requires.1 (rw q at v.invariant.2) (rw q at v.invariant.3))

pub overflow_cast-result : goal.overflow_cast-result
overflow_cast-result c =
    let v = c.loop-i in
    let k = cycle_below v.next v.alt c.args.e c.in-Some.a c.requires.1 (sym c.cycle_at.ensures ∙ c.in-Some.is) in
    omega arith
