use mathlib.Core.Path.{◌≡◌, sym, ap, ◌∙◌}
use mathlib.Core.List.{List}
use Prim.Native.Nat.{ℕ}
use native.Mathlib.Omega.{arith}
use Rattle.image.specs.Image.{is_wide}
use Rattle.yard_check.specs.Yard.{part_of}
use Rattle.yard_check.specs.Check.{how_many}
use Rattle.yard_check.proofs.SlotLaws.{bit, bit_from, bit-few, many_few, many_more, many_start}
use Rattle.yard_check.proofs.check.wide_count.Goals as goal

pub loop-i-init : goal.loop-i-init
loop-i-init c = (omega arith, sym (many_start (λ t. is_wide (part_of c.args.yard.now t))))

pub overflow_add-k : goal.overflow_add-k
overflow_add-k c = let a = c.args in
    let g = c.loop-i in
    omega (arith, c.from-k.ensures, bit_from c.is_wide.result, bit-few c.is_wide.result, g.invariant.1, many_few (λ t. is_wide (part_of a.yard.now t)) g.i, c.loop-i-test.true, c.ranges)

pub loop-i-preserved : goal.loop-i-preserved
loop-i-preserved c = let y = c.args.yard.now in
    let g = c.loop-i in
    let e = c.from-k.ensures ∙ (bit_from c.is_wide.result ∙ ap bit c.is_wide.ensures ∙ ap (λ (x : List ℕ). bit (is_wide x)) c.part.ensures) in
    (omega (arith, c.loop-i-test.true), omega (arith, e, g.invariant.1, many_more (λ t. is_wide (part_of y t)) g.i))

pub returns : goal.returns
returns c = let y = c.args.yard.now in
    let g = c.loop-i in
    let e : g.i ≡ c.args.n = omega (arith, g.invariant.0, c.loop-i-test.false) in
    g.invariant.1 ∙ ap (how_many (λ t. is_wide (part_of y t))) e
