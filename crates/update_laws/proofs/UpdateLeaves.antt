-- What an update leaves: a refused one the image itself, any other an image that passes 6 to 9 again. Assumes nothing.
use mathlib.Core.Path.{◌≡◌, refl, sym, ap, subst, ◌∙◌}
use mathlib.Core.Bool.{Bool}
use mathlib.Core.List.{List}
use Prim.Native.Nat.{ℕ, zero, suc, ◌≤◌}
use native.Mathlib.Omega.{arith}
use lib.ListN.{length}
use Rattle.link_rules.proofs.OctetLaws.{Bytes}
use Rattle.disp_structs.specs.Train.{Train}
use Rattle.image.specs.Image.{is_wide, largest_train}
use Rattle.image.specs.Codec.{decoded, stored_into}
use Rattle.image.proofs.WidthLaws.{largest-held}
use Rattle.image.proofs.CodecLaws.{Keeps, Held}
use Rattle.link_rules.specs.Refusals.{no_refusal}
use Rattle.image_fault.specs.ImageFault.{fault_with}
use Rattle.image_fault.specs.declared.Widths.{Widths}
use Rattle.image_fault.specs.declared.Widths.TheVariants.{Narrow}
use Rattle.link_rules.specs.declared.refusal.Refusal.{Refusal}
use Rattle.image_fault.proofs.AcceptLaws as Clean
use Rattle.update_definition.specs.Update.{Status, Success, Blocked, Faulty, Refused, Updated, holder_in, update_free_path}
use Rattle.update_definition.specs.Fits.{TrainsWithin, Fits}
use Rattle.update_laws.specs.AfterRound.{SameTrip, Leaves}
use Rattle.update_laws.specs.FitsGood.{TrainFits}
use Rattle.update_laws.proofs.Updates.{StaysFit, update_fits}
use Rattle.update_definition.specs.UpdateImage.{UpdatedImage, left_image, answer_by, link_idxs, update_fault_in, updated_image_in, update_fault, updated_image}
use Rattle.update_laws.proofs.UpdateClean.{update_clean}
use Rattle.update_laws.proofs.BytesAccepted.{bytes-accepted, within_higher, narrow-largest}
use Rattle.update_laws.proofs.StoredGood.{bytes-stored, length-stored}
use Rattle.update_laws.proofs.AcceptedBytes.{accepted-bytes, held}

-- ---- by the answer

answer-leaves : (k : ℕ) (f : Refusal) (u : Updated) (img : List ℕ) (r : Refusal) → (answer_by k f u img).answer.status ≡ Refused r → (answer_by k f u img).image ≡ img
answer-leaves zero f u img r e = ap (λ (s : Status). left_image s u.train img) e
answer-leaves (suc k) f u img r e = refl

left-length : (s : Status) (t : Train) (img : List ℕ) → length (left_image s t img) ≡ length img
left-length Success t img = length-stored t img
left-length (Blocked holder) t img = length-stored t img
left-length (Faulty n) t img = length-stored t img
left-length (Refused r) t img = refl

left-bytes : (s : Status) (t : Train) (img : List ℕ) → Bytes img → Bytes (left_image s t img)
left-bytes Success t img b = bytes-stored t img b
left-bytes (Blocked holder) t img b = bytes-stored t img b
left-bytes (Faulty n) t img b = bytes-stored t img b
left-bytes (Refused r) t img b = b

answer-length : (k : ℕ) (f : Refusal) (u : Updated) (img : List ℕ) → length (answer_by k f u img).image ≡ length img
answer-length zero f u img = left-length u.answer.status u.train img
answer-length (suc k) f u img = refl

answer-bytes : (k : ℕ) (f : Refusal) (u : Updated) (img : List ℕ) → Bytes img → Bytes (answer_by k f u img).image
answer-bytes zero f u img b = left-bytes u.answer.status u.train img b
answer-bytes (suc k) f u img b = b

-- ---- the train that an update of an accepted image leaves

module _ (w : Widths) (img : List ℕ) (l : ℕ) (b : Bytes img) (h : (fault_with w no_refusal img l).number ≡ 0) where
  pub keeps : (u : Train) → SameTrip (decoded img) u → Keeps u (decoded img)
  keeps u s = record { ests = s.ests; room = s.room; train = s.train; search = s.search; fixed-max = s.fixed_max }

  -- with trains up to the largest one of the image
  abbrev pub Fit : Train → Type 0
  Fit u = StaysFit l (largest_train img) (decoded img) u

  pub fit_held : (u : Train) → Fit u → Held (is_wide img) u
  fit_held u k = held l (Clean.accepted_in w img l h).links.1 (is_wide img) (largest_train img) (largest-held (is_wide img)) u k.stays.accepted k.fit

  stored : (u : Train) → Fit u → ((fault_with w no_refusal (stored_into u img) l).number ≡ 0) × (decoded (stored_into u img) ≡ u)
  stored u k = accepted-bytes w img l b h (largest_train img) (omega arith) u (keeps u k.stays.same) k.stays.accepted k.fit

  pub left-passes : (s : Status) (u : Train) → Leaves Fit (TrainFits (largest_train img)) (decoded img) s u → ((fault_with w no_refusal (left_image s u img) l).number ≡ 0) × (decoded (left_image s u img) ≡ u)
  left-passes Success u k = stored u k
  left-passes (Blocked holder) u k = stored u k.0
  left-passes (Faulty n) u k = stored u k
  left-passes (Refused r) u k = (h, sym k)

  module _ (occ : List ℕ) (blocking : List ℕ) (moved : ℕ) (local : Bool) (limit : ℕ) where
    abbrev updated : Updated
    updated = update_free_path occ (link_idxs blocking) (record { 0 = moved }) local limit (decoded img)

    -- where the image's trains and those of the call are up to top, so are those of the train that is left
    pub leaves-up-to : (top : ℕ) → Fits top (decoded img) → TrainsWithin top occ moved → Leaves (StaysFit l top (decoded img)) (TrainFits top) (decoded img) updated.answer.status updated.train
    leaves-up-to top f k = update_fits l top occ (link_idxs blocking) (record { 0 = moved }) local limit (decoded img) (bytes-accepted w img l b h).0 f k

    pub leaves : (top : ℕ) → top ≤ largest_train img → TrainsWithin top occ moved → Leaves Fit (TrainFits (largest_train img)) (decoded img) updated.answer.status updated.train
    leaves top low k = leaves-up-to (largest_train img) (bytes-accepted w img l b h).1 (within_higher top (largest_train img) low occ moved k)

  answer-passes : (k : ℕ) (f : Refusal) (u : Updated) → Leaves Fit (TrainFits (largest_train img)) (decoded img) u.answer.status u.train → (fault_with w no_refusal (answer_by k f u img).image l).number ≡ 0
  answer-passes zero f u v = (left-passes u.answer.status u.train v).0
  answer-passes (suc k) f u v = h

-- trains up to top are left where there were none above it
left-fits : (l top : ℕ) (t u : Train) (s : Status) → Fits top t → Leaves (StaysFit l top t) (TrainFits top) t s u → Fits top u
left-fits l top t u Success f w = w.fit
left-fits l top t u (Blocked holder) f w = w.0.fit
left-fits l top t u (Faulty n) f w = w.fit
left-fits l top t u (Refused r) f w = subst (λ (x : Train). Fits top x) (sym w) f

-- a holder up to top
holder-fits : (L : Train → Type 0) (top : ℕ) (t u : Train) (s : Status) → Leaves L (TrainFits top) t s u → holder_in s ≤ top
holder-fits L top t u Success w = omega arith
holder-fits L top t u (Blocked holder) w = w.1
holder-fits L top t u (Faulty n) w = omega arith
holder-fits L top t u (Refused r) w = omega arith

-- ---- the call; top is the largest train, of which laws ask that the image holds it

module _ (v : Widths) (img occ blocking : List ℕ) (moved : ℕ) (local : Bool) (limit : ℕ) where
  abbrev after : UpdatedImage
  after = updated_image_in v img occ blocking moved local limit

  -- a refused update leaves the image
  pub refused-leaves : (r : Refusal) → after.answer.status ≡ Refused r → after.image ≡ img
  unfolding updated_image_in
  refused-leaves r e = answer-leaves (update_fault_in v img occ blocking moved limit).number (update_fault_in v img occ blocking moved limit) _ img r e

  pub length-kept : length after.image ≡ length img
  unfolding updated_image_in
  length-kept = answer-length (update_fault_in v img occ blocking moved limit).number (update_fault_in v img occ blocking moved limit) _ img

  pub bytes-kept : Bytes img → Bytes after.image
  unfolding updated_image_in
  bytes-kept b = answer-bytes (update_fault_in v img occ blocking moved limit).number (update_fault_in v img occ blocking moved limit) _ img b

  -- an image that passes 6 to 9 passes them again, whatever the answer
  pub left-accepted : Bytes img → (top : ℕ) → top ≤ largest_train img → TrainsWithin top occ moved → (fault_with v no_refusal img (length occ)).number ≡ 0 → (fault_with v no_refusal after.image (length occ)).number ≡ 0
  unfolding updated_image_in
  left-accepted b top low w h =
      answer-passes v img (length occ) b h (update_fault_in v img occ blocking moved limit).number (update_fault_in v img occ blocking moved limit) _ (leaves v img (length occ) b h occ blocking moved local limit top low w)

  -- where 2 to 9 do not refuse, it holds the train that the update of its train leaves
  pub left_holds : Bytes img → (top : ℕ) → top ≤ largest_train img → TrainsWithin top occ moved → (update_fault_in v img occ blocking moved limit).number ≡ 0
      → decoded after.image ≡ (update_free_path occ (link_idxs blocking) (record { 0 = moved }) local limit (decoded img)).train
  unfolding updated_image_in update_fault_in
  left_holds b top low w e =
      let u = update_free_path occ (link_idxs blocking) (record { 0 = moved }) local limit (decoded img) in
      let h = (update_clean v img occ blocking moved limit e).image in
      ap (λ (k : ℕ). decoded (answer_by k (update_fault_in v img occ blocking moved limit) u img).image) e
      ∙ (left-passes v img (length occ) b h u.answer.status u.train (leaves v img (length occ) b h occ blocking moved local limit top low w)).1

  -- so Success, Blocked and Faulty leave an image that passes 6 to 9
  pub done-accepted : Bytes img → (top : ℕ) → top ≤ largest_train img → TrainsWithin top occ moved → ((r : Refusal) → after.answer.status ≡ Refused r → ⊥) → (fault_with v no_refusal after.image (length occ)).number ≡ 0
  unfolding updated_image_in update_fault_in
  done-accepted b top low w done = go (update_fault_in v img occ blocking moved limit).number refl
    where
      go : (k : ℕ) → (update_fault_in v img occ blocking moved limit).number ≡ k → (fault_with v no_refusal after.image (length occ)).number ≡ 0
      go zero e = left-accepted b top low w (update_clean v img occ blocking moved limit e).image
      go (suc k) e =
          let f = update_fault_in v img occ blocking moved limit in
          let u = update_free_path occ (link_idxs blocking) (record { 0 = moved }) local limit (decoded img) in
          absurd (done f (ap (λ (n : ℕ). (answer_by n f u img).answer.status) e))

  -- no diverge record comes to hold a train above top
  pub left-up-to : Bytes img → (top : ℕ) → top ≤ largest_train img → Fits top (decoded img) → TrainsWithin top occ moved → Fits top (decoded after.image)
  unfolding updated_image_in update_fault_in
  left-up-to b top low f w = go (update_fault_in v img occ blocking moved limit).number refl
    where
      go : (k : ℕ) → (update_fault_in v img occ blocking moved limit).number ≡ k → Fits top (decoded after.image)
      go zero e =
          let u = update_free_path occ (link_idxs blocking) (record { 0 = moved }) local limit (decoded img) in
          let h = (update_clean v img occ blocking moved limit e).image in
          subst (λ (t : Train). Fits top t) (sym (left_holds b top low w e))
          (left-fits (length occ) top (decoded img) u.train u.answer.status f (leaves-up-to v img (length occ) b h occ blocking moved local limit top f w))
      go (suc k) e =
          let r = update_fault_in v img occ blocking moved limit in
          let u = update_free_path occ (link_idxs blocking) (record { 0 = moved }) local limit (decoded img) in
          subst (λ (n : ℕ). Fits top (decoded (answer_by n r u img).image)) (sym e) f

  -- the holder of a blocked one is a train that the image holds
  pub left-holder : Bytes img → TrainsWithin (largest_train img) occ moved → holder_in after.answer.status ≤ largest_train img
  unfolding updated_image_in update_fault_in
  left-holder b w = go (update_fault_in v img occ blocking moved limit).number refl
    where
      go : (k : ℕ) → (update_fault_in v img occ blocking moved limit).number ≡ k → holder_in after.answer.status ≤ largest_train img
      go zero e =
          let r = update_fault_in v img occ blocking moved limit in
          let u = update_free_path occ (link_idxs blocking) (record { 0 = moved }) local limit (decoded img) in
          let h = (update_clean v img occ blocking moved limit e).image in
          subst (λ (n : ℕ). holder_in (answer_by n r u img).answer.status ≤ largest_train img) (sym e)
          (holder-fits _ (largest_train img) (decoded img) u.train u.answer.status (leaves v img (length occ) b h occ blocking moved local limit (largest_train img) (omega arith) w))
      go (suc k) e =
          let r = update_fault_in v img occ blocking moved limit in
          let u = update_free_path occ (link_idxs blocking) (record { 0 = moved }) local limit (decoded img) in
          subst (λ (n : ℕ). holder_in (answer_by n r u img).answer.status ≤ largest_train img) (sym e) (omega arith)

-- of one that takes narrow images alone, up to 65,535
pub narrow-holder : (img occ blocking : List ℕ) (moved : ℕ) (local : Bool) (limit : ℕ) → Bytes img → TrainsWithin (largest_train img) occ moved
    → holder_in (updated_image img occ blocking moved local limit).answer.status ≤ 65535
unfolding updated_image_in
narrow-holder img occ blocking moved local limit b w = go (update_fault img occ blocking moved limit).number refl (left-holder Narrow img occ blocking moved local limit b w)
  where
    go : (k : ℕ) → (update_fault img occ blocking moved limit).number ≡ k → holder_in (updated_image img occ blocking moved local limit).answer.status ≤ largest_train img
        → holder_in (updated_image img occ blocking moved local limit).answer.status ≤ 65535
    go zero e h = omega (arith, h, narrow-largest img (Clean.accepted-narrow img (length occ) (update_clean Narrow img occ blocking moved limit e).image))
    go (suc k) e h =
        let r = update_fault img occ blocking moved limit in
        let u = update_free_path occ (link_idxs blocking) (record { 0 = moved }) local limit (decoded img) in
        subst (λ (n : ℕ). holder_in (answer_by n r u img).answer.status ≤ 65535) (sym e) (omega arith)
