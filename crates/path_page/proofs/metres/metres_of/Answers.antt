use mathlib.Core.Path.{◌≡◌, sym, ap, ◌∙◌}
use Prim.Native.Nat.{ℕ, ◌/◌, ◌%◌, ◌*◌, ◌-◌, ◌^◌, ◌+◌, ◌≤◌, ◌<◌}
use native.Mathlib.Nat.{one-mul, mod-lt}
use native.Mathlib.Omega.{arith}
use lib.Pow.{pow_pos, pow_mono, shl_exact}
use lib.Dec.{lit<}
use Rattle.path_page.specs.Metres.{nearest_to}
use Rattle.path_page.proofs.MetresLaws.{exponent_most, metres_small, metres_shifted}
use Rattle.path_page.proofs.metres.metres_of.Goals as goal

-- An exponent of at most 1,062 shifts by 13 places or more, and one of at least 1,022 by at most 53.

-- a shift by at most 53 places loses nothing

shifted_one : (k : ℕ) → k ≤ 53 → 1 * 2 ^ k % 2 ^ 64 ≡ 2 ^ k
shifted_one k h = shl_exact 1 k 64 (lit< tt) (omega arith) ∙ one-mul (2 ^ k)

one-fits : (k x : ℕ) → k ≤ 53 → x ≡ 2 ^ k → (0 < x) × (x < 2 ^ 62)
one-fits k x h e =
    let lo : 0 < 2 ^ k = pow_pos k in
    let hi : 2 ^ k ≤ 2 ^ 53 = pow_mono h in
    (omega arith, omega arith)

pub returns-then-exponent-lt1022 : goal.returns-then-exponent-lt1022
returns-then-exponent-lt1022 c = let a = c.args in sym (metres_small a.bits c.requires a.ties c.if-exponent-lt1022.true)

pub overflow_sub-exponent : goal.overflow_sub-exponent
overflow_sub-exponent c = let a = c.args in omega (arith, exponent_most a.bits c.requires)

pub nearest_to-requires : goal.nearest_to-requires
nearest_to-requires c = let a = c.args in
    let k = 1075 - a.bits % 0x8000_0000_0000_0000 / 0x10_0000_0000_0000 in
    let l : k ≤ 53 = omega (arith, c.if-exponent-lt1022.false) in
    let f = one-fits k (1 * 2 ^ k % 2 ^ 64) l (shifted_one k l) in
    (omega (arith, mod-lt a.bits (pow_pos 52)), f.0, f.1)

pub returns : goal.returns
returns c = let a = c.args in
    let k = 1075 - a.bits % 0x8000_0000_0000_0000 / 0x10_0000_0000_0000 in
    let l : k ≤ 53 = omega (arith, c.if-exponent-lt1022.false) in
    c.nearest_to.ensures
    ∙ ap (λ (x : ℕ). nearest_to a.ties (0x10_0000_0000_0000 + a.bits % 0x10_0000_0000_0000) x) (shifted_one k l)
    ∙ sym (metres_shifted a.bits c.requires a.ties c.if-exponent-lt1022.false)
