-- How far an update of an image counts: rounds, strays and errors stay within the fields of a report. Assumes nothing.
use mathlib.Core.Path.{◌≡◌, refl}
use mathlib.Core.Bool.{Bool}
use mathlib.Core.List.{List}
use Prim.Native.Nat.{ℕ, zero, suc}
use native.Mathlib.Omega.{arith}
use lib.ListN.{length}
use Rattle.link_rules.proofs.OctetLaws.{Bytes}
use Rattle.image.specs.Codec.{decoded}
use Rattle.image_fault.specs.declared.Widths.{Widths}
use Rattle.link_rules.specs.declared.refusal.Refusal.{Refusal}
use Rattle.update_definition.specs.Update.{Updated, update_free_path}
use Rattle.update_laws.proofs.TallyBounds.{Counts, update_counts}
use Rattle.update_definition.specs.UpdateImage.{answer_by, link_idxs, update_fault_in, updated_image_in}
use Rattle.update_laws.proofs.UpdateClean.{update_clean}
use Rattle.update_laws.proofs.BytesAccepted.{bytes-accepted}

answer-counts : (limit k : ℕ) (f : Refusal) (u : Updated) (img : List ℕ) → (k ≡ 0 → Counts limit u.answer) → Counts limit (answer_by k f u img).answer
answer-counts limit zero f u img h = h refl
answer-counts limit (suc k) f u img h = record { rounds = omega arith; strays = omega arith; errors = tt }

pub image-counts : (w : Widths) (img occ blocking : List ℕ) (moved : ℕ) (local : Bool) (limit : ℕ) → Bytes img → Counts limit (updated_image_in w img occ blocking moved local limit).answer
unfolding updated_image_in
image-counts w img occ blocking moved local limit b =
    let f = update_fault_in w img occ blocking moved limit in
    answer-counts limit f.number f (update_free_path occ (link_idxs blocking) (record { 0 = moved }) local limit (decoded img)) img (λ e.
    update_counts (length occ) occ (link_idxs blocking) (record { 0 = moved }) local limit (decoded img)
    (bytes-accepted w img (length occ) b (update_clean w img occ blocking moved limit e).image).0)
