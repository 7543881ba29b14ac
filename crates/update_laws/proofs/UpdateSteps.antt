-- The rounds of an update of an image that passes 6 to 9: none enters its search loop more than 3E + 1 times, refused or not, and no answer stands for the turn limit. Assumes nothing.
use mathlib.Core.Path.{◌≡◌, refl, subst}
use mathlib.Core.Bool.{Bool}
use mathlib.Core.List.{List}
use Prim.Native.Nat.{ℕ, zero, suc, ◌+◌, ◌*◌, ◌≤◌}
use native.Mathlib.Omega.{arith}
use lib.ListN.{length}
use Rattle.link_rules.specs.declared.refusal.Refusal.{Refusal}
use Rattle.link_rules.proofs.OctetLaws.{Bytes}
use Rattle.disp_structs.specs.Train.{Train}
use Rattle.disp_structs.proofs.ListedLaws.{listed-length}
use Rattle.image.specs.Image.{est_count, est_at}
use Rattle.image.specs.Codec.{decoded}
use Rattle.link_rules.specs.Refusals.{no_refusal}
use Rattle.image_fault.specs.ImageFault.{fault_with}
use Rattle.image_fault.specs.declared.Widths.{Widths}
use Rattle.free_path.specs.Base.{Res}
use Rattle.update_definition.specs.State.{Ended}
use Rattle.update_definition.specs.Update.{Given, round_of, round_steps, Updated, update_free_path}
use Rattle.update_laws.specs.Runs.{RoundAnswers, Enters}
use Rattle.update_laws.proofs.Steps.{rounds-answer, rounds-few, Paced, update_paced}
use Rattle.update_definition.specs.UpdateImage.{answer_by, link_idxs, update_fault_in, updated_image_in}
use Rattle.update_laws.proofs.UpdateClean.{update_clean}
use Rattle.update_laws.proofs.BytesAccepted.{bytes-accepted}

pub est-count : (img : List ℕ) → length (decoded img).est_times ≡ est_count img
unfolding decoded
est-count img = listed-length (est_count img) (est_at img)

-- l links, and whatever an update of the image is given
module _ (w : Widths) (img : List ℕ) (l : ℕ) (b : Bytes img) (h : (fault_with w no_refusal img l).number ≡ 0) (v : Given) {t : Train} {split k : ℕ} (e : Enters v (decoded img) t split k) where
  pub image-rounds-answer : RoundAnswers v t split k (round_steps v t split k) (round_of v t split k)
  image-rounds-answer = rounds-answer l v (decoded img) (bytes-accepted w img l b h).0 e

  pub image-rounds-few : {n : ℕ} {x : Res Ended} → RoundAnswers v t split k n x → n ≤ 3 * est_count img + 1
  image-rounds-few a = omega (arith, rounds-few l v (decoded img) (bytes-accepted w img l b h).0 e a, est-count img)

-- ---- the steps of an update

answer-paced : (c k : ℕ) (f : Refusal) (u : Updated) (img : List ℕ) → (k ≡ 0 → Paced c u.answer.tally) → Paced c (answer_by k f u img).answer.tally
answer-paced c zero f u img h = h refl
answer-paced c (suc k) f u img h = omega arith

-- at most 3E + 1 to each round that it enters, of a refused update too
pub image-paced : (w : Widths) (img occ blocking : List ℕ) (moved : ℕ) (local : Bool) (limit : ℕ) → Bytes img → Paced (3 * est_count img + 1) (updated_image_in w img occ blocking moved local limit).answer.tally
unfolding updated_image_in
image-paced w img occ blocking moved local limit b =
    let f = update_fault_in w img occ blocking moved limit in
    let u = update_free_path occ (link_idxs blocking) (record { 0 = moved }) local limit (decoded img) in
    answer-paced (3 * est_count img + 1) f.number f u img (λ e.
    subst (λ (n : ℕ). Paced (3 * n + 1) u.answer.tally) (est-count img)
    (update_paced (length occ) occ (link_idxs blocking) (record { 0 = moved }) local limit (decoded img)
    (bytes-accepted w img (length occ) b (update_clean w img occ blocking moved limit e).image).0))
