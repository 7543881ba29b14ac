use mathlib.Core.Path.{ap, ◌∙◌}
use Prim.Native.Nat.{ℕ}
use lib.ListN.{set}
use Rattle.link_index.proofs.SlotLaws.{added_at, added_out}
use Rattle.link_index.proofs.slots.add_bit.Goals as goal

pub returns-then-index-l : goal.returns-then-index-l
returns-then-index-l c = let a = c.args in
    added_out a.t a.index.now a.l c.if-index-l.true

pub returns : goal.returns
returns c = let a = c.args in
    ap (λ (x : ℕ). set a.index.now a.l x) c.with_bit.ensures ∙ added_at a.t a.index.now a.l c.if-index-l.false
