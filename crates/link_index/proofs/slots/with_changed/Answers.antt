use mathlib.Core.Path.{sym, ap, ap₂, ◌∙◌}
use mathlib.Core.Bool.{Bool, true, cond, not}
use Rattle.yard_check.specs.Bytes.{same_bytes}
use Rattle.link_index.specs.Bits.{with_bit}
use Rattle.link_index.specs.LinkIndex.{changed}
use Rattle.link_index.proofs.slots.with_changed.Goals as goal

pub returns-then-same_bytes : goal.returns-then-same_bytes
unfolding changed
returns-then-same_bytes c = let a = c.args in
    let e = sym (ap₂ same_bytes c.image_in.ensures c.image_in-2.ensures) ∙ (sym c.same_bytes.ensures ∙ c.if-same_bytes.true) in
    sym (ap (λ (b : Bool). cond (not b) (with_bit a.set a.t true) a.set) e)

pub returns : goal.returns
unfolding changed
returns c = let a = c.args in
    let e = sym (ap₂ same_bytes c.image_in.ensures c.image_in-2.ensures) ∙ (sym c.same_bytes.ensures ∙ c.if-same_bytes.false) in
    c.with_bit.ensures ∙ sym (ap (λ (b : Bool). cond (not b) (with_bit a.set a.t true) a.set) e)
