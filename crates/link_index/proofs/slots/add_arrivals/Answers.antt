use mathlib.Core.Path.{◌≡◌, refl, ap, ap₂, ◌∙◌}
use Prim.Native.Nat.{ℕ, ◌+◌}
use mathlib.Core.List.{List}
use native.Mathlib.Omega.{arith}
use lib.ListN.{length}
use Rattle.image_fault.specs.ImageFault.{arrived}
use Rattle.disp_structs.specs.declared.LinkEvent.{LinkEvent}
use Rattle.link_index.specs.Slots.{arrival_added, arrivals_added}
use Rattle.link_index.proofs.SlotLaws.{added_length, arrivals_start, arrivals_turn}
use Rattle.link_index.proofs.slots.add_arrivals.Goals as goal

pub loop-i-init : goal.loop-i-init
loop-i-init c = let a = c.args in (omega arith, refl, arrivals_start a.image.now a.t a.index.now)

pub loop-i-preserved : goal.loop-i-preserved
loop-i-preserved c = let g = c.loop-i in
    let a = c.args in
    let xs = a.index.now in
    let e = c.add_arrival.ensures
    ∙ (ap₂ (λ (v : LinkEvent) (ys : List ℕ). arrival_added v a.t ys) c.node_link_event.ensures g.invariant.2 ∙ arrivals_turn a.image.now g.i a.t xs) in
    (omega (arith, c.loop-i-test.true), ap (λ (ys : List ℕ). length ys) e ∙ added_length a.t xs (λ l. arrived a.image.now (record { 0 = l }) (g.i + 1)), e)

pub shape_of-index : goal.shape_of-index
shape_of-index c = c.loop-i.invariant.1

pub returns : goal.returns
returns c = let g = c.loop-i in
    let a = c.args in
    let e : g.i ≡ c.path_count-n.result = omega (arith, g.invariant.0, c.loop-i-test.false) in
    g.invariant.2 ∙ ap (λ (n : ℕ). arrivals_added a.image.now n a.t a.index.now) (e ∙ c.path_count-n.ensures)
