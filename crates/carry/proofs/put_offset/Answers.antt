use mathlib.Core.Path.{◌≡◌, ap, ◌∙◌}
use Prim.Native.Nat.{ℕ, suc, ◌+◌, ◌*◌, ◌%◌}
use native.Mathlib.Omega.{arith}
use Rattle.link_rules.specs.Octets.{put_le}
use Rattle.link_rules.proofs.OctetLaws.{put_mod}
use Rattle.carry.proofs.put_offset.Goals as goal

pub returns : goal.returns
returns c = let a = c.args in
    let W = a.wide.now in
    let w = c.wide_end-end in
    let k : 8 + 4 * a.i ≡ 4 + 4 * suc a.i = omega arith in
    c.put_u32.ensures
    ∙ (ap (λ (n : ℕ). put_le 4 (w.result % 4294967296) n W) k
    ∙ (put_mod 4 w.result (4 + 4 * suc a.i) W ∙ ap (λ (n : ℕ). put_le 4 n (4 + 4 * suc a.i) W) w.ensures.0))
