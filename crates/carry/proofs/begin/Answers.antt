use mathlib.Core.Path.{ap, ap₂, ◌∙◌}
use mathlib.Core.List.{List}
use Prim.Native.Nat.{ℕ}
use native.Mathlib.Omega.{arith}
use lib.ListN.{replicate}
use Rattle.link_rules.specs.Octets.{put_le}
use Rattle.link_rules.proofs.OctetLaws.{put_mod}
use Rattle.yard_check.specs.Yard.{slot_count}
use Rattle.carry.specs.Carry.{wide_end, with_offsets, begun}
use Rattle.carry.proofs.begin.Goals as goal

pub wide_end-size-requires : goal.wide_end-size-requires
wide_end-size-requires c = let p = c.requires in (p.0, p.1, omega (arith, c.slot_count-slots.ensures))

pub returns : goal.returns
unfolding begun
returns c = let a = c.args in
    let Y = a.yard.now in
    let s = c.slot_count-slots.ensures in
    c.put_offsets.ensures
    ∙ ap (with_offsets Y (slot_count Y))
    (c.put_u32-2.ensures
    ∙ ap₂ (λ (n : ℕ) (x : List ℕ). put_le 4 n 4 x) s
    (c.put_u32.ensures
    ∙ (put_mod 4 c.wide_end-size.result 0 _
    ∙ ap₂ (λ (n : ℕ) (x : List ℕ). put_le 4 n 0 x) (c.wide_end-size.ensures.0 ∙ ap (wide_end Y) s) (c.zero_all.ensures ∙ ap (λ (n : ℕ). replicate n 0) c.requires.2))))
