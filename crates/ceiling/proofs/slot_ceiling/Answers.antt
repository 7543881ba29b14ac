use Rattle.std.proofs.Common.{◌*◌, ◌≤◌, ℕ, List, sym, ap, ◌∙◌, arith}
use native.Mathlib.Nat.{mul-le-mul_right}
use Rattle.link_rules.proofs.RefusalLaws.{none_raised_with, some_raised_with}
use Rattle.ceiling.specs.Ceiling.{ceiling_of}
use Rattle.ceiling.proofs.CeilingLaws.{ceiling_few, none-added}
use Rattle.ceiling.proofs.slot_ceiling.Goals as goal

pub overflow_mul-result : goal.overflow_mul-result
overflow_mul-result c = let a = c.args in
    let img = c.part.result.now in
    let h = none_raised_with (ceiling_of img).fault (ceiling_of img).steps c.in-Ok.steps (sym c.ceiling.ensures ∙ c.in-Ok.is) in
    let few : c.in-Ok.steps ≤ 1537 = omega (arith, h.1, ceiling_few img) in
    let most : c.in-Ok.steps * a.limit ≤ 1537 * a.limit = mul-le-mul_right a.limit few in
    omega (arith, most, c.ranges)

pub returns-in-Ok : goal.returns-in-Ok
returns-in-Ok c = let a = c.args in
    let img = c.part.result.now in
    let h = none_raised_with (ceiling_of img).fault (ceiling_of img).steps c.in-Ok.steps (sym c.ceiling.ensures ∙ c.in-Ok.is) in
    ap (λ (n : ℕ). n * a.limit) (sym h.1) ∙ ap (λ (x : List ℕ). (ceiling_of x).steps * a.limit) c.part.ensures

pub returns-in-Err : goal.returns-in-Err
returns-in-Err c = let a = c.args in
    let img = c.part.result.now in
    let h = some_raised_with (ceiling_of img).fault c.in-Err.field-0 (ceiling_of img).steps (sym c.ceiling.ensures ∙ c.in-Err.is) in
    none-added img a.limit h.1 ∙ ap (λ (x : List ℕ). (ceiling_of x).steps * a.limit) c.part.ensures
