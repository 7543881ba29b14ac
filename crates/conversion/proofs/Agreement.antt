-- Where no train exceeds 65,535, an update over u32 entries answers and leaves what one over u16 entries does; so does the update of the
-- image written wide, whose image is then the one that is left, written wide. Assumes nothing.
use mathlib.Core.Path.{◌≡◌, refl, sym, ap, subst, ◌∙◌}
use mathlib.Core.Bool.{Bool, true, false, ◌&&◌}
use mathlib.Core.List.{List, [], ◌∷◌}
use Prim.Native.Nat.{ℕ, zero, suc, ◌≤◌}
use native.Mathlib.Omega.{arith}
use lib.Dec.{leb, lit<}
use lib.ListN.{length}
use borrow.Author.Tests.{le-leb, lt-leb, leb-true, ne_eqb}
use Rattle.link_rules.specs.Octets.{le_at}
use Rattle.link_rules.specs.Refusals.{no_refusal, or_else}
use Rattle.link_rules.specs.declared.refusal.Refusal.{Refusal}
use Rattle.link_rules.proofs.OctetLaws.{Bytes}
use Rattle.disp_structs.specs.Train.{Train}
use Rattle.est_times.proofs.Counting.{clash}
use Rattle.image.specs.Image.{is_wide, largest_train}
use Rattle.image.specs.Codec.{decoded, encoded, stored_into}
use Rattle.image.proofs.CodecLaws.{Keeps, width_read, encoded-wide}
use Rattle.image_fault.specs.ImageFault.{length_fault, layout_fault, train_fits, image_fits, value_fault, cycle_fault, route_fault, fault_with, image_fault}
use Rattle.image_fault.specs.declared.Widths.{Widths}
use Rattle.image_fault.specs.declared.Widths.TheVariants.{Narrow, Either}
use Rattle.image_fault.proofs.AcceptLaws.{or_else_clean, or_else_none, refused_clean, own_clean, accepted_in, accepted-narrow, clean_trains, good-image, stored-accepted}
use Rattle.link_rules.proofs.TableLaws.{both}
use Rattle.update_definition.specs.Fits.{TrainsUpTo, TrainsWithin}
use Rattle.update_definition.specs.Update.{Status, Success, Blocked, Faulty, Refused, Updated, update_free_path}
use Rattle.update_definition.specs.UpdateImage.{call_fault, entries_up_to, given_fault, left_image, answer_by, stored_answer, refused_answer, link_idxs, update_fault_in, updated_image_in, update_fault, updated_image, updated_image_wide}
use Rattle.update_laws.specs.AfterRound.{Leaves}
use Rattle.update_laws.specs.FitsGood.{TrainFits}
use Rattle.update_laws.proofs.BytesAccepted.{narrow-held}
use Rattle.update_laws.proofs.Updates.{StaysFit}
use Rattle.update_laws.proofs.UpdateAnswers.{call-refused, image-refused, not-refused}
use Rattle.update_laws.proofs.UpdateLeaves.{keeps, fit_held, left-passes, leaves}
use Rattle.conversion.specs.Conversion.{out_fault, widen_fault}
use Rattle.conversion.specs.WidthsAgree.{WideAlike, UpdatesAgree}
use Rattle.conversion.proofs.WidenedFaults.{values_same, trains-none}
use Rattle.conversion.proofs.RoundTrips.{widened-held, widened-kept, widened-bytes, widened_clean}

-- ---- 22

entries_true : (top : ℕ) (occ : List ℕ) → TrainsUpTo top occ → entries_up_to top occ ≡ true
unfolding entries_up_to
entries_true top [] h = refl
entries_true top (t ∷ ts) h = rw (le-leb t top (h 0), entries_true top ts (λ i. h (suc i)))

-- every image holds the trains of a call over u16 entries
given-none : (img occ : List ℕ) (moved : ℕ) → TrainsWithin 65535 occ moved → given_fault Either img occ moved ≡ no_refusal
given-none img occ moved w =
    let n = narrow-held img in
    rw (entries_true (largest_train img) occ (λ i. omega (arith, n, w.entries i)), le-leb moved (largest_train img) (omega (arith, n, w.moved-low)))

-- ---- a narrow image

-- 6 is the same in a call that takes narrow images alone
number_same : (bs : List ℕ) → is_wide bs ≡ false → leb (le_at 2 bs 42) 1 ≡ leb (le_at 2 bs 42) 0
number_same bs n = go (le_at 2 bs 42) refl
  where
    go : (x : ℕ) → le_at 2 bs 42 ≡ x → leb x 1 ≡ leb x 0
    go zero e = refl
    go (suc zero) e = clash (is_wide bs) (width_read true bs e) n
    go (suc (suc x)) e = lt-leb (suc (suc x)) 1 (omega arith) ∙ sym (lt-leb (suc (suc x)) 0 (omega arith))

pub fits-same : (bs : List ℕ) → is_wide bs ≡ false → image_fits Either bs ≡ image_fits Narrow bs
unfolding image_fits train_fits
fits-same bs n = rw (number_same bs n)

module _ (img occ blocking : List ℕ) (moved : ℕ) (local : Bool) (limit : ℕ) (w : TrainsWithin 65535 occ moved) where
  fault-same : is_wide img ≡ false → update_fault_in Either img occ blocking moved limit ≡ update_fault img occ blocking moved limit
  unfolding update_fault_in fault_with
  fault-same n = rw (given-none img occ moved w, fits-same img n)

  -- over u32 entries as over u16 entries
  pub narrow_agrees : is_wide img ≡ false → updated_image_wide img occ blocking moved local limit ≡ updated_image img occ blocking moved local limit
  unfolding updated_image_in
  narrow_agrees n =
      ap (λ (f : Refusal). answer_by f.number f (update_free_path occ (link_idxs blocking) (record { 0 = moved }) local limit (decoded img)) img) (fault-same n)

-- ---- the image written wide

module _ (img occ blocking : List ℕ) (moved : ℕ) (local : Bool) (limit : ℕ) (w : TrainsWithin 65535 occ moved) (b : Bytes img)
    (ok : (image_fault img (length occ)).number ≡ 0) where
  abbrev img' : List ℕ
  img' = encoded true (decoded img)

  abbrev u : Updated
  u = update_free_path occ (link_idxs blocking) (record { 0 = moved }) local limit (decoded img)

  abbrev u' : Updated
  u' = update_free_path occ (link_idxs blocking) (record { 0 = moved }) local limit (decoded img')

  same : decoded img' ≡ decoded img
  same = (widened-kept img (length occ) b ok).0

  wide : is_wide img' ≡ true
  wide = encoded-wide true (decoded img) (widened-held img (length occ) b ok)

  b' : Bytes img'
  b' = widened-bytes img (length occ) b ok

  ok' : (fault_with Either no_refusal img' (length occ)).number ≡ 0
  ok' = widened_clean img (length occ) b ok

  -- what is left
  stored : (t : Train) → StaysFit (length occ) (largest_train img) (decoded img) t → stored_into t img' ≡ encoded true t
  stored t k =
      stored-accepted Either img' (length occ) b' ok' t (subst (Keeps t) (sym same) (keeps Narrow img (length occ) b ok t k.stays.same)) (fit_held Narrow img (length occ) b ok t k).room
      ∙ ap (λ (v : Bool). encoded v t) wide

  left-wide : (s : Status) (t : Train) → Leaves (StaysFit (length occ) (largest_train img) (decoded img)) (TrainFits (largest_train img)) (decoded img) s t
      → left_image s t img' ≡ encoded true (decoded (left_image s t img))
  left-wide Success t k = stored t k ∙ ap (encoded true) (sym (left-passes Narrow img (length occ) b ok Success t k).1)
  left-wide (Blocked holder) t k = stored t k.0 ∙ ap (encoded true) (sym (left-passes Narrow img (length occ) b ok (Blocked holder) t k).1)
  left-wide (Faulty n) t k = stored t k ∙ ap (encoded true) (sym (left-passes Narrow img (length occ) b ok (Faulty n) t k).1)
  left-wide (Refused r) t k = refl

  stored_alike : WideAlike (stored_answer u img) (stored_answer u' img')
  stored_alike =
      subst (λ (x : Updated). WideAlike (stored_answer u img) (stored_answer x img')) (ap (update_free_path occ (link_idxs blocking) (record { 0 = moved }) local limit) (sym same))
      (record { answer = refl; image = left-wide u.answer.status u.train (leaves Narrow img (length occ) b ok occ blocking moved local limit 65535 (narrow-held img) w) })

  pub widened_agrees : WideAlike (updated_image img occ blocking moved local limit) (updated_image_wide img' occ blocking moved local limit)
  widened_agrees = go (call_fault occ blocking moved limit).number refl
    where
      clean : (fault_with Either (given_fault Either img' occ moved) img' (length occ)).number ≡ 0
      clean = rw (given-none img' occ moved w) ok'

      go : (k : ℕ) → (call_fault occ blocking moved limit).number ≡ k → WideAlike (updated_image img occ blocking moved local limit) (updated_image_wide img' occ blocking moved local limit)
      go zero e = rw (not-refused Narrow img occ blocking moved local limit e ok, not-refused Either img' occ blocking moved local limit e clean) stored_alike
      go (suc n) e =
          rw (call-refused Narrow img occ blocking moved local limit n e, call-refused Either img' occ blocking moved local limit n e)
          (record { answer = refl; image = refl })

-- ---- an image that goes wide, over an occupancy of any length

laid : (x : Widths) (bs : List ℕ) → (fault_with x no_refusal bs 4000).number ≡ 0 → (layout_fault x bs).number ≡ 0
unfolding fault_with
laid x bs h = (or_else_clean (layout_fault x bs) (or_else (value_fault bs 4000) (or_else (cycle_fault bs) (route_fault bs))) h).0

module _ (img occ blocking : List ℕ) (moved : ℕ) (local : Bool) (limit : ℕ) (w : TrainsWithin 65535 occ moved) (b : Bytes img) (ok : (image_fault img 4000).number ≡ 0) where
  abbrev wide_img : List ℕ
  wide_img = encoded true (decoded img)

  abbrev l : ℕ
  l = length occ

  -- both are refused by 7 alike, and neither by what does not depend on L
  values : value_fault wide_img l ≡ value_fault img l
  values =
      let c = accepted_in Narrow img 4000 ok in
      let c' = accepted_in Either wide_img 4000 (widened_clean img 4000 b ok) in
      values_same wide_img img (good-image wide_img c'.fits 4000 c'.values (widened-bytes img 4000 b ok)) (good-image img c.fits 4000 c.values b) (widened-kept img 4000 b ok).0 l
      (trains-none wide_img (clean_trains wide_img 4000 c'.values)) (trains-none img (clean_trains img 4000 c.values))

  -- refused by 7
  module _ (lo : 2 ≤ l) (hi : l ≤ 4000) (n : ℕ) (v : (value_fault img l).number ≡ suc n) where
    by_values : (x : Widths) (bs : List ℕ) → (layout_fault x bs).number ≡ 0 → value_fault bs l ≡ value_fault img l → fault_with x no_refusal bs l ≡ value_fault img l
    unfolding fault_with
    by_values x bs f e =
        rw (le-leb 2 l lo, le-leb l 4000 hi)
        (or_else_none (layout_fault x bs) (or_else (value_fault bs l) (or_else (cycle_fault bs) (route_fault bs))) f
        ∙ (ap (λ (r : Refusal). or_else r (or_else (cycle_fault bs) (route_fault bs))) e ∙ rw (ne_eqb (value_fault img l).number 0 (λ q. omega (arith, v, q)))))

    refused_alike : (call_fault occ blocking moved limit).number ≡ 0 → WideAlike (updated_image img occ blocking moved local limit) (updated_image_wide wide_img occ blocking moved local limit)
    refused_alike e =
        let f = by_values Narrow img (laid Narrow img ok) refl in
        let f' = ap (λ (r : Refusal). fault_with Either r wide_img l) (given-none wide_img occ moved w) ∙ by_values Either wide_img (laid Either wide_img (widened_clean img 4000 b ok)) values in
        let r = image-refused Narrow img occ blocking moved local limit n e (ap (λ (x : Refusal). x.number) f ∙ v) ∙ ap (λ (x : Refusal). refused_answer x img) f in
        let r' = image-refused Either wide_img occ blocking moved local limit n e (ap (λ (x : Refusal). x.number) f' ∙ v) ∙ ap (λ (x : Refusal). refused_answer x wide_img) f' in
        rw (r, r') (record { answer = refl; image = refl })

  -- accepted over l links
  over : 2 ≤ l → l ≤ 4000 → (value_fault img l).number ≡ 0 → (image_fault img l).number ≡ 0
  unfolding fault_with
  over lo hi v =
      let c = accepted_in Narrow img 4000 ok in
      rw (le-leb 2 l lo, le-leb l 4000 hi)
      (ap (λ (r : Refusal). r.number)
      (or_else_none (layout_fault Narrow img) (or_else (value_fault img l) (or_else (cycle_fault img) (route_fault img))) (laid Narrow img ok)
      ∙ (or_else_none (value_fault img l) (or_else (cycle_fault img) (route_fault img)) v ∙ or_else_none (cycle_fault img) (route_fault img) c.cycle))
      ∙ c.route)

  pub goes-wide_agrees : WideAlike (updated_image img occ blocking moved local limit) (updated_image_wide wide_img occ blocking moved local limit)
  unfolding call_fault
  goes-wide_agrees = go (call_fault occ blocking moved limit).number refl
    where
      by_value : (call_fault occ blocking moved limit).number ≡ 0 → (lo : 2 ≤ l) (hi : l ≤ 4000) (k : ℕ) → (value_fault img l).number ≡ k
          → WideAlike (updated_image img occ blocking moved local limit) (updated_image_wide wide_img occ blocking moved local limit)
      by_value e lo hi zero v = widened_agrees img occ blocking moved local limit w b (over lo hi v)
      by_value e lo hi (suc n) v = refused_alike lo hi n v e

      go : (k : ℕ) → (call_fault occ blocking moved limit).number ≡ k → WideAlike (updated_image img occ blocking moved local limit) (updated_image_wide wide_img occ blocking moved local limit)
      go zero e =
          let x = both (leb 2 l) (leb l 4000) (refused_clean (leb 2 l && leb l 4000) 2 (lit< tt) (or_else_clean (length_fault l) _ e).0) in
          by_value e (leb-true 2 l x.0) (leb-true l 4000 x.1) (value_fault img l).number refl
      go (suc n) e =
          rw (call-refused Narrow img occ blocking moved local limit n e, call-refused Either wide_img occ blocking moved local limit n e)
          (record { answer = refl; image = refl })

pub updates_agree : UpdatesAgree
unfolding widen_fault
updates_agree img size occ blocking moved local limit b h w =
    let ok = (own_clean Narrow (out_fault true img size) img 4000 h).1 in
    record {
      entries = narrow_agrees img occ blocking moved local limit w (accepted-narrow img 4000 ok);
      widened = goes-wide_agrees img occ blocking moved local limit w b ok;
    }
