use mathlib.Core.Path.{◌≡◌, sym, ap, ◌∙◌}
use Prim.Native.Nat.{ℕ, ◌+◌, ◌-◌}
use native.Mathlib.Omega.{arith}
use lib.ListN.{length, take, drop, length-drop}
use lib.Seq.{length-take-le}
use Rattle.link_rules.proofs.OctetLaws.{put_all}
use Rattle.link_rules.specs.Refusals as TakenBack
use Rattle.link_rules.specs.declared.refusal.Refusal.{Refusal}
use Rattle.undo.specs.Undo.{old_yard, undoing}
use Rattle.undo.proofs.UndoLaws.{undo-fits, undo-done, undo-refused}
use Rattle.undo.proofs.undo.Goals as goal

pub returns : goal.returns
returns c = let a = c.args in
    let yard = a.yard.now in
    let r = a.undo_record.now in
    let k : 16 + length yard - 16 ≡ length yard = omega arith in
    let old : take (16 + length yard - 16) (drop 16 r) ≡ old_yard (length yard) r = ap (λ (n : ℕ). take n (drop 16 r)) k in
    let long : length (take (16 + length yard - 16) (drop 16 r)) ≡ length yard = length-take-le (16 + length yard - 16) (drop 16 r) (omega (arith, length-drop 16 r, (undo-fits yard r (sym c.undo_fits.ensures ∙ c.if-not-undo_fits.false)).room)) ∙ k in
    ap (undoing TakenBack.Done) (c.put_bytes.ensures ∙ (put_all (take (16 + length yard - 16) (drop 16 r)) yard long ∙ old)) ∙ sym (undo-done yard r (sym c.undo_fits.ensures ∙ c.if-not-undo_fits.false))

pub returns-then-not-undo_fits : goal.returns-then-not-undo_fits
returns-then-not-undo_fits c = let a = c.args in ap (λ (x : Refusal). undoing (TakenBack.Refused x) a.yard.now) c.new.ensures ∙ sym (undo-refused a.yard.now a.undo_record.now (sym c.undo_fits.ensures ∙ c.if-not-undo_fits.true))

pub slice_bounds-put_bytes-end : goal.slice_bounds-put_bytes-end
slice_bounds-put_bytes-end c = let a = c.args in omega (arith, (undo-fits a.yard.now a.undo_record.now (sym c.undo_fits.ensures ∙ c.if-not-undo_fits.false)).room)
