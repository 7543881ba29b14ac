use mathlib.Core.Path.{ap, ap₂, ◌∙◌}
use mathlib.Core.List.{List}
use Prim.Native.Nat.{ℕ, ◌+◌, ◌*◌}
use native.Mathlib.Omega.{arith}
use lib.ListN.{length}
use Rattle.image.specs.Image.{diverge_room}
use Rattle.carry.specs.Carry.{wide_length}
use Rattle.carry.proofs.LayoutLaws.{part-within}
use Rattle.carry.proofs.wide_length.Goals as goal

pub returns : goal.returns
unfolding wide_length
returns c = let a = c.args in
    let p = c.part-image.ensures in
    let long = ap (λ (x : List ℕ). length x) p in
    let room = c.diverge_room.ensures ∙ ap diverge_room p in
    (ap₂ (λ (x y : ℕ). x + 4 * y) long room, omega (arith, long, part-within a.yard.now a.t, c.diverge_room.type_inv, c.requires))
