use mathlib.Core.Path.{◌≡◌, refl, ap, ◌∙◌}
use Prim.Native.Nat.{ℕ, ◌+◌, ◌<◌}
use mathlib.Core.Bool.{false}
use mathlib.Core.List.{List}
use native.Mathlib.Omega.{arith}
use lib.ListN.{length, get_or, set}
use Rattle.link_index.specs.Bits.{with_bit}
use Rattle.link_index.proofs.SlotLaws.{cleared_to, cleared_start, cleared_length, cleared_turn, cleared_end}
use Rattle.link_index.proofs.slots.clear_slot.Goals as goal

pub loop-l-init : goal.loop-l-init
loop-l-init c = let a = c.args in (omega arith, refl, cleared_start a.t a.index.now)

pub loop-l-preserved : goal.loop-l-preserved
loop-l-preserved c = let g = c.loop-l in
    let a = c.args in
    let xs = a.index.now in
    let h : g.l < length xs = omega (arith, c.loop-l-test.true, g.invariant.1) in
    let e : set g.index g.l c.without_bit.result ≡ cleared_to (g.l + 1) a.t xs =
    ap (λ (x : ℕ). set g.index g.l x) c.without_bit.ensures
    ∙ (ap (λ (ys : List ℕ). set ys g.l (with_bit (get_or ys g.l 0) a.t false)) g.invariant.2 ∙ cleared_turn a.t xs g.l h) in
    (omega arith, ap (λ (ys : List ℕ). length ys) e ∙ cleared_length a.t xs (g.l + 1), e)

pub shape_of-index : goal.shape_of-index
shape_of-index c = c.loop-l.invariant.1

pub returns : goal.returns
returns c = let g = c.loop-l in
    let a = c.args in
    g.invariant.2 ∙ cleared_end a.t a.index.now g.l (omega (arith, c.loop-l-test.false, g.invariant.1))
