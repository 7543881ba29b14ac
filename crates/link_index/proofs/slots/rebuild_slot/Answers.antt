use mathlib.Core.Path.{sym, ap, ◌∙◌}
use mathlib.Core.Bool.{Bool}
use mathlib.Core.List.{List}
use Prim.Native.Nat.{ℕ}
use Rattle.link_index.specs.Slots.{slot_built, slot_rebuilt}
use Rattle.link_index.proofs.slots.rebuild_slot.Goals as goal

pub returns-then-has_bit : goal.returns-then-has_bit
returns-then-has_bit c = let a = c.args in
    c.build_slot.ensures ∙ (ap (λ (img : List ℕ). slot_built img a.t a.index.now) c.image_in.ensures
    ∙ sym (ap (λ (b : Bool). slot_rebuilt b a.yard.now a.t a.index.now) (sym c.has_bit.ensures ∙ c.if-has_bit.true)))

pub returns : goal.returns
returns c = let a = c.args in sym (ap (λ (b : Bool). slot_rebuilt b a.yard.now a.t a.index.now) (sym c.has_bit.ensures ∙ c.if-has_bit.false))
