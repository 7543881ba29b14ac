use mathlib.Core.Path.{◌≡◌, ap, ap₂, ◌∙◌}
use mathlib.Core.Bool.{◌&&◌}
use mathlib.Core.List.{List}
use Prim.Native.Nat.{ℕ, ◌+◌, ◌-◌}
use native.Mathlib.Omega.{arith}
use lib.Dec.{eqb}
use lib.ListN.{take, drop}
use Rattle.yard_check.specs.Yard.{slot_count, yard_fits}
use Rattle.undo.specs.Undo.{old_yard, old_fits}
use Rattle.undo.proofs.records.old_fits.Goals as goal

pub returns : goal.returns
unfolding old_fits
returns c = let a = c.args in
    let k : 16 + a.y - 16 ≡ a.y = omega arith in
    let old : take (16 + a.y - 16) (drop 16 a.undo_record.now) ≡ old_yard a.y a.undo_record.now = ap (λ (n : ℕ). take n (drop 16 a.undo_record.now)) k in
    c.fits_with.ensures ∙ ap₂ (λ (xs : List ℕ) (n : ℕ). yard_fits xs && eqb n (slot_count xs)) old c.u32_at-slots.ensures
