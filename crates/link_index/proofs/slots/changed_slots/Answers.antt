use mathlib.Core.Path.{◌≡◌, refl, ap, ◌∙◌}
use mathlib.Core.Bool.{true, cond}
use Prim.Native.Nat.{ℕ}
use native.Mathlib.Omega.{arith}
use Rattle.link_index.specs.Bits.{number_of, with_bit}
use Rattle.link_index.specs.LinkIndex.{changed}
use Rattle.link_index.proofs.BitLaws.{number-next}
use Rattle.link_index.proofs.slots.changed_slots.Goals as goal

pub loop-t-init : goal.loop-t-init
unfolding number_of
loop-t-init c = (omega arith, refl)

pub with_changed-set-requires : goal.with_changed-set-requires
with_changed-set-requires c = c.loop-t-test.true

pub loop-t-preserved : goal.loop-t-preserved
loop-t-preserved c = let g = c.loop-t in
    let a = c.args in
    let f = changed a.old.now a.new.now in
    (omega (arith, c.loop-t-test.true), c.with_changed-set.ensures ∙ (ap (λ (x : ℕ). cond (f g.t) (with_bit x g.t true) x) g.invariant.1 ∙ number-next f g.t))

pub returns : goal.returns
returns c = let g = c.loop-t in
    let a = c.args in
    let e : g.t ≡ 64 = omega (arith, g.invariant.0, c.loop-t-test.false) in
    g.invariant.1 ∙ ap (number_of (changed a.old.now a.new.now)) e
