use mathlib.Core.Path.{◌≡◌, ap, ◌∙◌}
use Prim.Native.Nat.{ℕ, ◌+◌, ◌-◌}
use native.Mathlib.Omega.{arith}
use lib.ListN.{length, take, drop}
use Rattle.link_index.specs.LinkIndex.{refreshed}
use Rattle.link_index.proofs.undoing.refresh_to.Goals as goal

pub returns : goal.returns
returns c = let a = c.args in
    let k : 16 + length a.yard.now - 16 ≡ length a.yard.now = omega arith in
    c.refresh_slots.ensures ∙ ap (λ (n : ℕ). refreshed a.yard.now (take n (drop 16 a.undo_record.now)) a.index.now) k
