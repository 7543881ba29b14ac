use mathlib.Core.Path.{sym, ap, ◌∙◌}
use Prim.Native.Nat.{ℕ}
use mathlib.Core.List.{List}
use native.Mathlib.Omega.{arith}
use Rattle.image.specs.Image.{path_count_of}
use Rattle.link_index.specs.Slots.{arrivals_added}
use Rattle.link_index.proofs.SlotLaws.{built-accepted, built-refused}
use Rattle.link_index.proofs.slots.build_slot.Goals as goal

pub overflow_cast-links : goal.overflow_cast-links
overflow_cast-links c = omega (arith, c.requires.1)

pub returns-then-is_accepted : goal.returns-then-is_accepted
returns-then-is_accepted c = let a = c.args in
    let img = a.image.now in
    c.add_arrivals.ensures
    ∙ (ap (λ (ys : List ℕ). arrivals_added img (path_count_of img) a.t ys) c.clear_slot.ensures
    ∙ built-accepted a.t a.index.now img (sym c.is_accepted.ensures ∙ c.if-is_accepted.true))

pub returns : goal.returns
returns c = let a = c.args in
    c.clear_slot.ensures ∙ built-refused a.t a.index.now a.image.now (sym c.is_accepted.ensures ∙ c.if-is_accepted.false)
