use mathlib.Core.Path.{◌≡◌, refl, sym, ap, ◌∙◌}
use mathlib.Core.List.{List}
use Prim.Native.Nat.{ℕ, suc, ◌+◌, ◌*◌}
use native.Mathlib.Omega.{arith}
use Rattle.link_rules.specs.Octets.{put_le}
use Rattle.yard_check.specs.Yard.{slot_count}
use Rattle.carry.specs.Carry.{wide_end, with_offsets}
use Rattle.carry.proofs.LayoutLaws.{offsets-turn}
use borrow.Author.Rules.{rules}
use Rattle.carry.proofs.put_offsets.Goals as goal

pub loop-i-init : goal.loop-i-init
unfolding with_offsets
loop-i-init c = (search rules, c.slot_count-slots.ensures, refl, refl)

pub put_offset-requires : goal.put_offset-requires
put_offset-requires c = let p = c.requires in (p.0, p.1, omega (arith, c.loop-i.invariant.1, c.loop-i-test.true))

pub loop-i-preserved : goal.loop-i-preserved
loop-i-preserved c = let a = c.args in
    let l = c.loop-i in
    (search rules, l.invariant.1, c.put_offset.ensures ∙ (ap (λ (x : List ℕ). put_le 4 (wide_end a.yard.now l.i) (4 + 4 * suc l.i) x) l.invariant.2 ∙ sym (offsets-turn a.yard.now a.wide.now l.i)), search rules)

pub returns : goal.returns
returns c = let a = c.args in
    let l = c.loop-i in
    let e : l.i ≡ slot_count a.yard.now = omega (arith, l.invariant.0, l.invariant.1, c.loop-i-test.false) in
    l.invariant.2 ∙ ap (λ (n : ℕ). with_offsets a.yard.now n a.wide.now) e
