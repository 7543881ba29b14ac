-- An update that ends in Success and leaves an image in the profile leaves exact steps. Assumes nothing.
use mathlib.Core.Path.{◌≡◌, refl, sym, ap, ◌∙◌, subst}
use mathlib.Core.Bool.{Bool, true, false, not, cond, ◌&&◌, ◌||◌, true≢false}
use mathlib.Core.List.{List, [], ◌∷◌}
use Prim.Native.Nat.{ℕ, zero, suc, ◌+◌, ◌≤◌, ◌<◌}
use native.Mathlib.Omega.{arith}
use lib.ListN.{length}
use lib.Dec.{leb}
use borrow.Author.Tests.{not-false}
use Rattle.disp_structs.specs.Values.{same_est, near, minus}
use Rattle.disp_structs.specs.Train.{Train}
use Rattle.disp_structs.specs.declared.EstTime.{EstTime}
use Rattle.disp_structs.specs.declared.DispNode.{DispNode}
use Rattle.free_path.specs.Base.{Res, ok, no, at}
use Rattle.free_path.specs.Validate.{steps_next, steps_alt, bad_step, bad_steps, bad_path, validate_free_path}
use Rattle.update_definition.specs.State.{Ended, at_end, blocked_at, again}
use Rattle.update_definition.specs.Fits.{TrainsWithin}
use Rattle.tally.specs.Tally.{counted}
use Rattle.tally.specs.declared.Tally.{Tally}
use Rattle.link_rules.specs.Refusals.{refused}
use Rattle.update_definition.specs.Update.{Given, Status, Success, Blocked, Faulty, Refused, Updated, Between, faults_of, finish, after_round, searched, due, rounds_from, round_of, strays_of, start_of, given_of, update_from, update_free_path}
use Rattle.update_laws.proofs.Answers.{no_ok, ok_same, bind_ok, need-ok}
use Rattle.link_rules.specs.declared.link_idx.LinkIdx.{LinkIdx}
use Rattle.link_rules.specs.declared.link_idx.TrainIdx.{TrainIdx}
use Rattle.link_rules.proofs.OctetLaws.{Bytes}
use Rattle.disp_structs.specs.Listed.{listed}
use Rattle.image.specs.Image.{est_count, path_count_of, largest_train, est_at, node_at}
use Rattle.image.specs.Codec.{decoded}
use Rattle.update_laws.specs.AfterRound.{Leaves}
use Rattle.update_laws.specs.FitsGood.{TrainFits}
use Rattle.update_laws.proofs.Updates.{StaysFit}
use Rattle.update_definition.specs.UpdateImage.{UpdatedImage, link_idxs, answer_by, update_fault_in, updated_image_in}
use Rattle.update_laws.proofs.PathReads.{listed_read, read_listed}
use Rattle.image_fault.specs.declared.Widths.{Widths}
use Rattle.update_laws.proofs.UpdateClean.{update_clean}
use Rattle.update_laws.proofs.UpdateLeaves.{leaves, left_holds}
use Rattle.track_profile.specs.Profile.{InProfile, dist_at, offset_at}
use Rattle.track_profile.specs.ExactSteps.{StepsExact, SuccessIsExact, est_of}
use Rattle.track_profile.proofs.NearLaws.{near_equal, step_exact}
use Rattle.track_profile.proofs.ProfileLaws.{worth-units}
use Rattle.track_profile.proofs.ImageLaws.{DistsInProfile, OffsetsInProfile, in-profile}

-- ---- no error is counted: no step is bad

pub record StepRight (est : List EstTime) (a b : DispNode) : Type 0 where
  pub from : EstTime
  pub to : EstTime
  pub from_at : at est a.est_idx.0 ≡ ok from
  pub to_at : at est b.est_idx.0 ≡ ok to
  pub right : bad_step a b from to ≡ false

none_bad : (t : Bool) (n : ℕ) → cond t 1 0 + n ≡ 0 → (t ≡ false) × (n ≡ 0)
none_bad true n h = absurd (omega arith)
none_bad false n h = (refl, omega arith)

-- the first step, and the errors of the others
steps_first : (est : List EstTime) (a b : DispNode) (ns : List DispNode) → bad_steps est a (b ∷ ns) ≡ ok 0 → StepRight est a b × (bad_steps est b ns ≡ ok 0)
unfolding bad_steps
steps_first est a b ns h =
    let x = bind_ok (at est a.est_idx.0) h in
    let y = bind_ok (at est b.est_idx.0) x.2 in
    let n = bind_ok (bad_steps est b ns) y.2 in
    let z = none_bad (bad_step a b x.0 y.0) n.0 (ok_same n.2) in
    (record { from = x.0; to = y.0; from_at = x.1; to_at = y.1; right = z.0 }, n.1 ∙ ap ok z.1)

pub steps_right : (est : List EstTime) (path : List DispNode) → bad_path est path ≡ ok 0 → (i : ℕ) (a b : DispNode) → at path i ≡ ok a → at path (suc i) ≡ ok b → StepRight est a b
unfolding at
steps_right est [] h i a b p q = no_ok p
steps_right est (x ∷ []) h i a b p q = no_ok q
steps_right est (x ∷ (y ∷ ns)) h zero a b p q = subst (λ (z : DispNode). StepRight est z b) (ok_same p) (subst (λ (z : DispNode). StepRight est x z) (ok_same q) (steps_first est x y ns h).0)
steps_right est (x ∷ (y ∷ ns)) h (suc i) a b p q = steps_right est (y ∷ ns) (steps_first est x y ns h).1 i a b p q

pub no_errors : (occ : List ℕ) (est : List EstTime) (free : ℕ) (path : List DispNode) → validate_free_path occ est free path ≡ ok 0 → bad_path est path ≡ ok 0
unfolding validate_free_path
no_errors occ est free path h =
    let n = bind_ok (bad_path est path) h in
    let w = need-ok (leb free (length path)) n.2 in
    n.1 ∙ ap ok (omega (arith, ok_same w.1))

-- ---- what a right step says

-- n: b is x's next; p, q: a is y's prev, its prev_alt; l: b is x's alt; d, o: what is near
by_next : (n p q l d o : Bool) → cond (n && (p || q)) (not d) (cond (l && p) (not o) true) ≡ false → n ≡ true → d ≡ true
by_next true true q l d o h e = not-false d h
by_next true false true l d o h e = not-false d h
by_next true false false true d o h e = absurd (true≢false h)
by_next true false false false d o h e = absurd (true≢false h)
by_next false p q l d o h e = absurd (true≢false (sym e))

by_alt : (n p q l d o : Bool) → cond (n && (p || q)) (not d) (cond (l && p) (not o) true) ≡ false → n ≡ false → (l ≡ true) × (o ≡ true)
by_alt true p q l d o h e = absurd (true≢false e)
by_alt false true q true d o h e = (refl, not-false o h)
by_alt false false q true d o h e = absurd (true≢false h)
by_alt false p q false d o h e = absurd (true≢false h)

module _ (a b : DispNode) (x y : EstTime) (h : bad_step a b x y ≡ false) where
  -- b is a's next
  pub right_next : same_est x.idx_next b.est_idx ≡ true → near x.dist_to_next (minus b.offset a.offset) ≡ true
  unfolding bad_step steps_next steps_alt
  right_next e = by_next _ (same_est y.idx_prev a.est_idx) (same_est y.idx_prev_alt a.est_idx) (same_est x.idx_next_alt b.est_idx) _ (near a.offset b.offset) h e

  -- b is not a's next
  pub right_alt : same_est x.idx_next b.est_idx ≡ false → (same_est x.idx_next_alt b.est_idx ≡ true) × (near a.offset b.offset ≡ true)
  unfolding bad_step steps_next steps_alt
  right_alt e = by_alt _ (same_est y.idx_prev a.est_idx) (same_est y.idx_prev_alt a.est_idx) (same_est x.idx_next_alt b.est_idx) (near x.dist_to_next (minus b.offset a.offset)) (near a.offset b.offset) h e

-- ---- Success: no error was counted

abbrev is_success : Status → Bool
is_success Success = true
is_success (Blocked holder) = false
is_success (Faulty n) = false
is_success (Refused r) = false

other-no : {X : Type 0} (s : Status) → is_success s ≡ false → s ≡ Success → X
other-no s e h = absurd (true≢false (sym (ap is_success h) ∙ e))

module _ (g : Given) (was : Train) where
  abbrev Right : Updated → Type 0
  Right u = u.answer.status ≡ Success → faults_of g u.train ≡ ok 0

  finish_right : (r : Res ℕ) (tally : Tally) (t : Train) → faults_of g t ≡ r → Right (finish r tally was t)
  unfolding finish
  finish_right (ok zero) tally t e h = e
  finish_right (ok (suc n)) tally t e h = other-no (Faulty (suc n)) refl h
  finish_right (no n) tally t e h = other-no (Refused (refused n 0)) refl h

  after_right : (x : Res Ended) (next : Between → Updated) (w : Between) → ((y : Between) → Right (next y)) → Right (after_round x next g was w)
  unfolding after_round
  after_right (no n) next w f h = other-no (Refused (refused n 0)) refl h
  after_right (ok at_end) next w f h = finish_right (faults_of g w.train) (counted w.tally (strays_of g w.train)) w.train refl h
  after_right (ok (blocked_at t holder)) next w f h = other-no (Blocked holder) refl h
  after_right (ok (again t split k)) next w f h = f _ h

  cond_right : (b : Bool) (u v : Updated) → Right u → Right v → Right (cond b u v)
  cond_right true u v p q = p
  cond_right false u v p q = q

  rounds_right : (k : ℕ) (w : Between) → Right (rounds_from k g was w)
  unfolding rounds_from
  rounds_right zero w = cond_right (due w) _ _ (λ h. other-no (Refused (refused 12 0)) refl h) (finish_right (faults_of g w.train) w.tally w.train refl)
  rounds_right (suc k) w =
      cond_right (due w) _ _ (after_right (round_of g w.train w.idx_split w.div_idx_split) (λ x. rounds_from k g was x) (searched g w) (λ y. rounds_right k y))
      (finish_right (faults_of g w.train) w.tally w.train refl)

pub update_right : (occ : List ℕ) (blocking : List LinkIdx) (moved : TrainIdx) (local : Bool) (limit : ℕ) (t : Train)
    → (update_free_path occ blocking moved local limit t).answer.status ≡ Success
    → bad_path (update_free_path occ blocking moved local limit t).train.est_times (update_free_path occ blocking moved local limit t).train.disp_path ≡ ok 0
unfolding update_free_path
update_right occ blocking moved local limit t h = go (at t.disp_path t.disp_node_idx_free) h
  where
    go : (r : Res DispNode) → (update_from r occ blocking moved local limit t).answer.status ≡ Success
        → bad_path (update_from r occ blocking moved local limit t).train.est_times (update_from r occ blocking moved local limit t).train.disp_path ≡ ok 0
    go (no k) h = other-no (Refused (refused 10 0)) refl h
    go (ok n) h =
        let g = given_of occ blocking moved local t n in
        let u = rounds_from limit g t (start_of g t) in
        no_errors occ u.train.est_times u.train.disp_node_idx_free u.train.disp_path (rounds_right g t limit (start_of g t) h)

-- ---- the same of images

module _ (bs : List ℕ) (right : bad_path (decoded bs).est_times (decoded bs).disp_path ≡ ok 0) (ds : DistsInProfile bs) (os : OffsetsInProfile bs) where
  pub steps_exact : StepsExact bs
  unfolding decoded
  steps_exact i l =
      let e : i + 1 ≡ suc i = omega arith in
      let r = steps_right (listed (est_count bs) (est_at bs)) (listed (path_count_of bs) (node_at bs)) right i (node_at bs i) (node_at bs (i + 1))
      (read_listed (path_count_of bs) (node_at bs) i (omega arith)) (rw (← e) (read_listed (path_count_of bs) (node_at bs) (i + 1) l)) in
      let x = listed_read (est_count bs) (est_at bs) (est_of bs i) r.from_at in
      let s : bad_step (node_at bs i) (node_at bs (i + 1)) (est_at bs (est_of bs i)) r.to ≡ false = subst (λ (z : EstTime). bad_step (node_at bs i) (node_at bs (i + 1)) z r.to ≡ false) (sym x.1) r.right in
      let a = os i (omega arith) in
      let b = os (i + 1) l in
      let d = ds (est_of bs i) x.0 in
      let ua = worth-units (offset_at bs i) a.units a.worth in
      let ub = worth-units (offset_at bs (i + 1)) b.units b.worth in
      let ud = worth-units (dist_at bs (est_of bs i)) d.units d.worth in
      record {
        next = λ h.
            let n = right_next (node_at bs i) (node_at bs (i + 1)) (est_at bs (est_of bs i)) r.to s h in
            let k = step_exact (offset_at bs i) (offset_at bs (i + 1)) (dist_at bs (est_of bs i)) a.units b.units d.units a.worth b.worth d.worth a.few b.few d.few n in
            omega (arith, ua, ub, ud, k);
        alt = λ h.
            let n = right_alt (node_at bs i) (node_at bs (i + 1)) (est_at bs (est_of bs i)) r.to s h in
            let k = near_equal (offset_at bs i) (offset_at bs (i + 1)) a.units b.units a.worth b.worth a.few b.few n.1 in
            (n.0, omega (arith, ua, ub, k));
      }

-- ---- the theorem

module _ (v : Widths) (img occ blocking : List ℕ) (moved : ℕ) (local : Bool) (limit : ℕ) where
  abbrev after : UpdatedImage
  after = updated_image_in v img occ blocking moved local limit

  abbrev train-left : Updated
  train-left = update_free_path occ (link_idxs blocking) (record { 0 = moved }) local limit (decoded img)

  success_told : after.answer.status ≡ Success → ((update_fault_in v img occ blocking moved limit).number ≡ 0) × (train-left.answer.status ≡ Success)
  unfolding updated_image_in
  success_told h = go (update_fault_in v img occ blocking moved limit).number refl h
    where
      go : (k : ℕ) → (update_fault_in v img occ blocking moved limit).number ≡ k → (answer_by k (update_fault_in v img occ blocking moved limit) train-left img).answer.status ≡ Success
          → ((update_fault_in v img occ blocking moved limit).number ≡ 0) × (train-left.answer.status ≡ Success)
      go zero e h = (e, h)
      go (suc k) e h = other-no (Refused (update_fault_in v img occ blocking moved limit)) refl h

  same-listed : {A : Type 0} (n k : ℕ) (f g : ℕ → A) → listed n f ≡ listed k g → (i : ℕ) → i < n → (i < k) × (g i ≡ f i)
  same-listed n k f g e i l = listed_read k g i (subst (λ (xs : List _). at xs i ≡ ok (f i)) e (read_listed n f i l))

  -- Success leaves the est records
  pub success_ests : Bytes img → (top : ℕ) → top ≤ largest_train img → TrainsWithin top occ moved → after.answer.status ≡ Success → (decoded after.image).est_times ≡ (decoded img).est_times
  unfolding update_fault_in
  success_ests b top low w h =
      let k = success_told h in
      let c = (update_clean v img occ blocking moved limit k.0).image in
      let f = subst (λ (s : Status). Leaves (StaysFit (length occ) (largest_train img) (decoded img)) (TrainFits (largest_train img)) (decoded img) s train-left.train) k.1 (leaves v img (length occ) b c occ blocking moved local limit top low w) in
      ap (λ (t : Train). t.est_times) (left_holds v img occ blocking moved local limit b top low w k.0) ∙ f.stays.same.ests

  -- needed of the image before are its est distances alone, of the image after its offsets
  pub success_exact : Bytes img → (top : ℕ) → top ≤ largest_train img → TrainsWithin top occ moved → DistsInProfile img → after.answer.status ≡ Success → OffsetsInProfile after.image → StepsExact after.image
  success_exact b top low w ds h os =
      let k = success_told h in
      let e = left_holds v img occ blocking moved local limit b top low w k.0 in
      let r = update_right occ (link_idxs blocking) (record { 0 = moved }) local limit (decoded img) k.1 in
      steps_exact after.image (subst (λ (t : Train). bad_path t.est_times t.disp_path ≡ ok 0) (sym e) r) kept os
    where
      kept : DistsInProfile after.image
      kept i l =
          let z = same-listed (est_count after.image) (est_count img) (est_at after.image) (est_at img) (unfold decoded in success_ests b top low w h) i l in
          subst (λ (x : EstTime). InProfile x.dist_to_next.0) z.1 (ds i z.0)

pub success_is_exact : SuccessIsExact
success_is_exact v top img occ blocking moved local limit b low w p h q = success_exact v img occ blocking moved local limit b top low w (in-profile img p).0 h (in-profile (after v img occ blocking moved local limit).image q).1
