use mathlib.Core.Path.{ap, ◌∙◌}
use Prim.Native.Nat.{ℕ}
use native.Mathlib.Omega.{arith}
use lib.ListN.{length}
use Rattle.link_rules.specs.Octets.{put_whole}
use Rattle.yard_check.specs.Yard.{slot_count}
use Rattle.link_rules.proofs.OctetLaws.{put_some}
use Rattle.undo.specs.Undo.{with_numbers, with_old}
use Rattle.undo.proofs.RecordLaws.{numbers-length}
use Rattle.undo.proofs.records.put_old.Goals as goal

pub returns : goal.returns
unfolding with_old
returns c = let a = c.args in
    let old = a.old.now in
    let p = c.requires in
    let n = with_numbers (length old) (slot_count old) a.to.now in
    c.put_bytes.ensures
    ∙ (ap (put_whole 16 old) (c.put_numbers.ensures ∙ ap (λ (n : ℕ). with_numbers (length old) n a.to.now) c.slot_count.ensures)
    ∙ put_some 16 old n (omega (arith, p.0, numbers-length (length old) (slot_count old) a.to.now)))
