use Rattle.text.proofs.TextLaws.{put_is}
use Rattle.sheet_text.specs.Sheet.{occupancy_count, blocking_offset, check_lines}
use Rattle.yard_check.specs.Check.{Checked}
use Rattle.disp_structs.specs.Listed.{listed}
use Rattle.link_rules.specs.Octets.{le_at}
use lib.ListN.{drop}
use Prim.Native.Nat.{ℕ, ◌+◌, ◌*◌}
use mathlib.Core.Path.{ap, sym, ◌∙◌}
use Rattle.sheet_text.proofs.SheetLaws.{slots-few, bundle-checked}
use Rattle.sheet_text.proofs.sheet.put_checked.Goals as goal

pub put_check-requires : goal.put_check-requires
put_check-requires c = slots-few _ _ _ _ _ c.check_deadlock-answer.ensures

pub shape_of-occ : goal.shape_of-occ
shape_of-occ c = c.read_occupancy.auto.occ

pub shape_of-blocking : goal.shape_of-blocking
shape_of-blocking c = c.read_blocking.auto.blocking

pub returns : goal.returns
returns c = let a = c.args in
    let b = a.bundle.now in
    let lent = c.requires in
    let whole =
    c.check_deadlock-answer.ensures
    ∙ bundle-checked b c.read_occupancy.new.occ c.read_blocking.new.blocking c.copy_from.new.to a.report.now
    c.u16_at.result c.u16_at-2.result c.u16_at-4.result c.u16_at-3.result
    (c.read_occupancy.ensures ∙ ap (λ (n : ℕ). listed n (λ i. le_at 2 b (32 + 2 * i))) lent.occupancy)
    (c.read_blocking.ensures ∙ ap (λ (n : ℕ). listed n (λ i. le_at 4 b (blocking_offset b + 4 * i))) lent.blocking-links)
    (c.copy_from.ensures ∙ ap (λ (at : ℕ). drop at b) c.u32_at.ensures)
    c.u16_at.ensures c.u16_at-2.ensures c.u16_at-3.ensures c.u16_at-4.ensures lent.blank
    in
    put_is (ap (λ (z : Checked). check_lines z (occupancy_count b)) (sym whole) ∙ ap (check_lines _) (sym c.u32_at-2.ensures)) c.put_check.ensures
