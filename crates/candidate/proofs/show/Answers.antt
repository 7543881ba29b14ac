use mathlib.Core.Path.{ap, ◌∙◌}
use mathlib.Core.List.{List}
use Prim.Native.Nat.{ℕ}
use Rattle.text.specs.Text.{Text, written}
use Rattle.text.proofs.TextLaws.{from_start}
use Rattle.candidate.proofs.show.Goals as goal

pub returns : goal.returns
returns c = let a = c.args in
    let n = c.node_bytes in
    ap (λ (t : Text). t.buffer) (from_start n.result.now a.buffer.now c.put_bytes.ensures)
    ∙ ap (λ (bs : List ℕ). (written bs a.buffer.now).buffer) n.ensures
