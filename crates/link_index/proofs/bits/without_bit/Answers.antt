use mathlib.Core.Path.{sym, ap, ◌∙◌}
use Prim.Native.Nat.{ℕ, ◌-◌}
use mathlib.Core.Bool.{false}
use native.Mathlib.Omega.{arith}
use Rattle.yard_check.proofs.SeenLaws.{shifted}
use Rattle.link_index.proofs.BitLaws.{with_on, with_off, power_in}
use Rattle.link_index.proofs.bits.without_bit.Goals as goal

pub overflow_sub-result : goal.overflow_sub-result
overflow_sub-result c = let a = c.args in
    omega (arith, shifted a.t c.requires, power_in a.entry a.t (sym c.has_bit.ensures ∙ c.if-has_bit.true))

pub returns-then-has_bit : goal.returns-then-has_bit
returns-then-has_bit c = let a = c.args in
    ap (λ (x : ℕ). a.entry - x) (shifted a.t c.requires) ∙ sym (with_on a.entry a.t false (sym c.has_bit.ensures ∙ c.if-has_bit.true))

pub returns : goal.returns
returns c = let a = c.args in
    sym (with_off a.entry a.t false (sym c.has_bit.ensures ∙ c.if-has_bit.false))
