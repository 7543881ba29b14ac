use mathlib.Core.Path.{ap, ◌∙◌}
use Prim.Native.Nat.{ℕ}
use Rattle.link_index.specs.Bits.{bit_of}
use Rattle.link_index.specs.Slots.{slots_done}
use Rattle.link_index.proofs.CallLaws.{set-refreshed}
use Rattle.link_index.proofs.slots.refresh_slots.Goals as goal

pub returns : goal.returns
returns c = let a = c.args in
    c.rebuild_slots.ensures ∙ (ap (λ (n : ℕ). slots_done (bit_of n) a.new.now 64 a.index.now) c.changed_slots-set.ensures ∙ set-refreshed a.old.now a.new.now a.index.now)
