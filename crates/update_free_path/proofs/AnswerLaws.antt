-- The answer of an update by how its rounds ended. Assumes nothing.
use mathlib.Core.Path.{◌≡◌, refl, sym, ap, ap₂, ◌∙◌}
use mathlib.Core.Bool.{Bool, true, false, false≢true}
use mathlib.Core.List.{List}
use Prim.Native.Nat.{ℕ, zero, suc, ◌^◌, ◌<◌}
use native.Mathlib.Omega.{arith}
use Rattle.link_rules.specs.Refusals.{refused}
use Rattle.link_rules.specs.declared.link_idx.TrainIdx.{TrainIdx}
use Rattle.disp_structs.specs.Train.{Train}
use Rattle.image.specs.Codec.{stored_into}
use Rattle.free_path.specs.Base.{Res, ok, no}
use Rattle.free_path.specs.Halts.{number_of}
use Rattle.tally.specs.Tally.{faulted, counted_faults}
use Rattle.tally.specs.declared.Tally.{Tally}
use Rattle.tally.proofs.TallyLaws.{faulted-within, faulted-none}
use Rattle.update_definition.specs.Update as Update
use Rattle.update_definition.specs.UpdateImage.{UpdatedImage, left_image, stored_answer}
use Rattle.update_free_path.specs.Updates.{status_of, is_refusal, judged_by, status_by, ran_by, stop_refused}
use Rattle.update_free_path.specs.declared.rounds.Stop.{Stop}
use Rattle.update_free_path.specs.declared.rounds.Stop.TheVariants as Stops
use Rattle.update_free_path.specs.declared.answer.Status.{Status}
use Rattle.update_free_path.specs.declared.answer.Status.TheVariants.{Success, Blocked, Faulty, Refused}

-- ---- by the number of errors

pub judged-some : (n : ℕ) → (n ≡ 0 → ⊥) → Update.Faulty n ≡ judged_by (ok n)
judged-some zero z = absurd (z refl)
judged-some (suc n) z = refl

-- ---- the image that is left

module _ (t : Train) (img : List ℕ) where
  pub left-refused : (s : Status) → is_refusal s ≡ true → img ≡ left_image (status_of s) t img
  left-refused Success e = absurd (false≢true e)
  left-refused (Blocked holder) e = absurd (false≢true e)
  left-refused (Faulty n) e = absurd (false≢true e)
  left-refused (Refused r) e = refl

  pub left-done : (s : Status) → is_refusal s ≡ false → stored_into t img ≡ left_image (status_of s) t img
  left-done Success e = refl
  left-done (Blocked holder) e = refl
  left-done (Faulty n) e = refl
  left-done (Refused r) e = absurd (false≢true (sym e))

-- an update that is not refused has ended so
pub done_stop : (s : Status) (stop : Stop) (f : Res ℕ) → status_of s ≡ status_by stop f → is_refusal s ≡ false → stop_refused stop ≡ false
done_stop s stop f e q = go stop e
  where
    told_of : Update.Status → Bool
    told_of Update.Success = false
    told_of (Update.Blocked holder) = false
    told_of (Update.Faulty n) = false
    told_of (Update.Refused r) = true

    told : (s : Status) → is_refusal s ≡ told_of (status_of s)
    told Success = refl
    told (Blocked holder) = refl
    told (Faulty n) = refl
    told (Refused r) = refl

    go : (stop : Stop) → status_of s ≡ status_by stop f → stop_refused stop ≡ false
    go (Stops.Halted why) e = absurd (false≢true (sym q ∙ told s ∙ ap told_of e))
    go Stops.OverLimit e = absurd (false≢true (sym q ∙ told s ∙ ap told_of e))
    go (Stops.Blocked holder) e = refl
    go Stops.Ended e = refl

-- the answer and the image, as the definition has them
module _ (tally : Tally) (met : TrainIdx) (was t : Train) (img : List ℕ) where
  abbrev left : Update.Status → Tally → List ℕ → UpdatedImage
  left s y out = record { answer = record { status = s; tally = y; met = Update.met_in s met }; image = out }

  by_stop : (stop : Stop) (f : Res ℕ) → left (status_by stop f) (faulted tally (Update.faults_in (status_by stop f))) (left_image (status_by stop f) t img) ≡ stored_answer (Update.meets met (ran_by stop f tally was t)) img
  unfolding Update.finish
  by_stop (Stops.Halted why) f = ap (λ (y : Tally). left (Update.Refused (refused (number_of why) 0)) y img) (faulted-none tally)
  by_stop Stops.OverLimit f = ap (λ (y : Tally). left (Update.Refused (refused 12 0)) y img) (faulted-none tally)
  by_stop (Stops.Blocked holder) f = ap (λ (y : Tally). left (Update.Blocked holder) y (stored_into t img)) (faulted-none tally)
  by_stop Stops.Ended (ok zero) = refl
  by_stop Stops.Ended (ok (suc n)) = refl
  by_stop Stops.Ended (no n) = ap (λ (y : Tally). left (Update.Refused (refused n 0)) y img) (faulted-none tally)

  -- s is the status, n the errors that it tells, y the tally with them, x the train met that is kept
  pub answered-is : tally.faults ≡ 0 → (stop : Stop) (f : Res ℕ) (s : Update.Status) (n : ℕ) (y : Tally) (x : TrainIdx) (out : List ℕ) → s ≡ status_by stop f → n < 2 ^ 64 → n ≡ Update.faults_in s → y ≡ counted_faults tally n → x ≡ Update.met_in s met
      → out ≡ left_image s t img → record { answer = record { status = s; tally = y; met = x }; image = out } ≡ stored_answer (Update.meets met (ran_by stop f tally was t)) img
  answered-is z stop f s n y x out e l k m u q =
      ap (λ (v : TrainIdx). record { answer = record { status = s; tally = y; met = v }; image = out }) u
      ∙ ap₂ (λ (a : Tally) (o : List ℕ). left s a o) (m ∙ faulted-within tally n (omega (arith, z, l)) ∙ ap (faulted tally) k) q
      ∙ ap (λ (z : Update.Status). left z (faulted tally (Update.faults_in z)) (left_image z t img)) e ∙ by_stop stop f
