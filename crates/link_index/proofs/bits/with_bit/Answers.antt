use mathlib.Core.Path.{sym, ap, ◌∙◌}
use Prim.Native.Nat.{ℕ, ◌+◌}
use mathlib.Core.Bool.{true}
use native.Mathlib.Omega.{arith}
use Rattle.yard_check.proofs.SeenLaws.{shifted}
use Rattle.link_index.proofs.BitLaws.{with_on, with_off, with_room}
use Rattle.link_index.proofs.bits.with_bit.Goals as goal

pub returns-then-has_bit : goal.returns-then-has_bit
returns-then-has_bit c = let a = c.args in
    sym (with_on a.entry a.t true (sym c.has_bit.ensures ∙ c.if-has_bit.true))

pub overflow_add-result : goal.overflow_add-result
overflow_add-result c = let a = c.args in
    omega (arith, shifted a.t c.requires, with_room a.entry 64 a.t (omega arith) c.requires (sym c.has_bit.ensures ∙ c.if-has_bit.false))

pub returns : goal.returns
returns c = let a = c.args in
    ap (λ (x : ℕ). a.entry + x) (shifted a.t c.requires) ∙ sym (with_off a.entry a.t true (sym c.has_bit.ensures ∙ c.if-has_bit.false))
