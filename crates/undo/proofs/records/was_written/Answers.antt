use mathlib.Core.Path.{◌≡◌, ap, ◌∙◌}
use Prim.Native.Nat.{ℕ, ◌+◌, ◌-◌}
use native.Mathlib.Omega.{arith}
use lib.ListN.{length, take, drop}
use Rattle.yard_check.specs.Bytes.{same_bytes}
use Rattle.undo.proofs.UndoLaws.{was_same}
use Rattle.undo.proofs.records.was_written.Goals as goal

pub returns : goal.returns
returns c = let a = c.args in
    let y = length a.yard.now in
    let r = a.undo_record.now in
    let k : 16 + y + y - (16 + y) ≡ y = omega arith in
    c.same_bytes.ensures ∙ (ap (λ (n : ℕ). same_bytes (take n (drop (16 + y) r)) a.yard.now) k ∙ was_same a.yard.now r c.requires)
