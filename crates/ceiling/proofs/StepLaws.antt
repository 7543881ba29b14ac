-- The steps of an update are at most the ceiling of its image times the rounds that it enters; those of a check at most the yard's ceiling with its limit. Assumes nothing.
use mathlib.Core.Path.{◌≡◌, refl, sym, ap, subst, ◌∙◌}
use mathlib.Core.Bool.{Bool, true, false, cond, ◌||◌}
use mathlib.Core.List.{List}
use Prim.Native.Nat.{ℕ, zero, suc, ◌*◌, ◌≤◌}
use native.Mathlib.Nat.{mul_comm, mul-le-mul_right}
use native.Mathlib.Omega.{arith}
use lib.Dec.{ltb, eqb}
use lib.ListN.{length}
use Rattle.link_rules.specs.Refusals.{no_refusal, refused}
use Rattle.link_rules.proofs.OctetLaws.{Bytes}
use Rattle.image.specs.Codec.{decoded}
use Rattle.image_fault.specs.ImageFault.{length_fault, fault_with}
use Rattle.image_fault.proofs.AcceptLaws.{or_else_clean, either-accepted}
use Rattle.update_definition.specs.Update.{Updated, update_free_path}
use Rattle.update_definition.specs.UpdateImage.{UpdatedImage, blocking_fault, order_fault, call_fault, answer_by, link_idxs, update_fault_in, updated_image_in}
use Rattle.image_fault.specs.declared.Widths.{Widths}
use Rattle.update_laws.proofs.UpdateClean.{update_clean}
use Rattle.update_laws.proofs.UpdateCounts.{image-counts}
use Rattle.update_laws.proofs.UpdateSteps.{image-paced}
use Rattle.yard_check.specs.Yard as Yard
use Rattle.yard_check.specs.Yard.{yard_fits, slot_count, part_of}
use Rattle.yard_check.specs.Check.{CheckArgs, check_fault, is_finished}
use Rattle.yard_check.proofs.YardLaws.{Fits, fits, part_bytes}
use Rattle.ceiling.specs.Ceiling.{steps_unless, round_ceiling, ceiling_of, slots_ceiling, ceiling_fault, yard_ceiling_of, visit_steps, slot_steps, check_steps}
use Rattle.ceiling.proofs.LinkLaws.{or_clean, more_links}

-- ---- an update

-- an image that is accepted over some links has its ceiling
ceiling_is : (v : Widths) (img : List ℕ) (l : ℕ) → (fault_with v no_refusal img l).number ≡ 0 → round_ceiling img ≡ (ceiling_of img).steps
unfolding ceiling_of
ceiling_is v img l h = ap (λ (k : ℕ). steps_unless k (round_ceiling img)) (sym (either-accepted v img 4000 (more_links v img l h)))

-- in a call that takes the widths v
module _ (v : Widths) (img occ blocking : List ℕ) (moved : ℕ) (local : Bool) (limit : ℕ) (b : Bytes img) where
  abbrev after : UpdatedImage
  after = updated_image_in v img occ blocking moved local limit

  -- of a refused update too
  pub update_within : after.answer.tally.steps ≤ after.answer.tally.rounds * (ceiling_of img).steps
  unfolding updated_image_in update_fault_in
  update_within = go (update_fault_in v img occ blocking moved limit).number refl
    where
      u : Updated
      u = update_free_path occ (link_idxs blocking) (record { 0 = moved }) local limit (decoded img)

      go : (k : ℕ) → (update_fault_in v img occ blocking moved limit).number ≡ k → after.answer.tally.steps ≤ after.answer.tally.rounds * (ceiling_of img).steps
      go zero e =
          subst (λ (c : ℕ). after.answer.tally.steps ≤ after.answer.tally.rounds * c) (ceiling_is v img (length occ) (update_clean v img occ blocking moved limit e).image)
          (image-paced v img occ blocking moved local limit b)
      go (suc k) e =
          let z : after.answer.tally.steps ≡ 0 = ap (λ (n : ℕ). (answer_by n (update_fault_in v img occ blocking moved limit) u img).answer.tally.steps) e in
          omega (arith, z)

  -- hence at most the ceiling times the limit
  pub update_limit : after.answer.tally.steps ≤ (ceiling_of img).steps * limit
  update_limit =
      omega (arith, update_within, mul-le-mul_right (ceiling_of img).steps (image-counts v img occ blocking moved local limit b).rounds, mul_comm limit (ceiling_of img).steps)

-- ---- a check

visit-within : (n : ℕ) (is_done is_moved : Bool) (steps c : ℕ) → steps ≤ c → visit_steps n is_done is_moved steps ≤ c
visit-within (suc n) is_done is_moved steps c h = omega arith
visit-within zero true is_moved steps c h = omega arith
visit-within zero false true steps c h = omega arith
visit-within zero false false steps c h = h

unless_within : (b : Bool) (n c : ℕ) → n ≤ c → cond b 0 n ≤ c
unless_within true n c h = omega arith
unless_within false n c h = h

module _ (yard occ : List ℕ) (a : CheckArgs) (bytes : Bytes yard) (ok : Fits yard) where
  slot-within : (t : ℕ) → 1 ≤ t → t ≤ slot_count yard → slot_steps yard occ a t ≤ (ceiling_of (part_of yard t)).steps * a.limit
  unfolding slot_steps
  slot-within t l m =
      unless_within (ltb t a.begin) _ _
      (visit-within (fault_with a.widths no_refusal (part_of yard t) (length occ)).number (is_finished (part_of yard t)) (eqb t a.moved) _ _
      (update_limit a.widths (part_of yard t) occ a.blocking a.moved a.local a.limit (part_bytes yard ok t l m bytes)))

  slots-within : (n : ℕ) → n ≤ slot_count yard → check_steps yard occ a n ≤ slots_ceiling yard a.limit n
  unfolding check_steps slots_ceiling
  slots-within zero l = omega arith
  slots-within (suc n) l = omega (arith, slots-within n (omega (arith, l)), slot-within (suc n) (omega arith) l)

-- 5 does not refuse the limit where it does not refuse the call
limit_clean : (moved limit : ℕ) → (order_fault moved limit).number ≡ 0 → (cond (eqb limit 0) (refused 5 0) no_refusal).number ≡ 0
limit_clean moved limit h = go (eqb moved 0) (eqb limit 0) h
  where
    go : (a b : Bool) → (cond (a || b) (refused 5 0) no_refusal).number ≡ 0 → (cond b (refused 5 0) no_refusal).number ≡ 0
    go true b h = let z : ◌≡◌ {A = ℕ} 5 0 = h in absurd (omega arith)
    go false b h = h

unfit_not : (yard : List ℕ) → (Yard.yard_fault yard).number ≡ 0 → yard_fits yard ≡ true
unfit_not yard h = go (yard_fits yard) refl
  where
    go : (b : Bool) → yard_fits yard ≡ b → yard_fits yard ≡ true
    go true e = e
    go false e = let z : ◌≡◌ {A = ℕ} 14 0 = ap (λ (t : Bool). (cond t no_refusal (refused 14 0)).number) (sym e) ∙ h in absurd (omega arith)

-- a check that is not refused; long is the length of its report
pub check-within : (yard occ : List ℕ) (a : CheckArgs) (long : ℕ) → Bytes yard → (check_fault yard occ a long).number ≡ 0
    → check_steps yard occ a (slot_count yard) ≤ (yard_ceiling_of yard a.limit).steps
unfolding check_fault call_fault yard_ceiling_of
check-within yard occ a long bytes h =
    let c = or_else_clean (call_fault occ a.blocking a.moved a.limit) _ h in
    let y = (or_else_clean (Yard.yard_fault yard) _ c.1).0 in
    let o = (or_else_clean (blocking_fault (length occ) a.blocking) (order_fault a.moved a.limit) (or_else_clean (length_fault (length occ)) _ c.0).1).1 in
    let z : (ceiling_fault yard a.limit).number ≡ 0 = or_clean (cond (eqb a.limit 0) (refused 5 0) no_refusal) (Yard.yard_fault yard) (limit_clean a.moved a.limit o) y in
    subst (λ (k : ℕ). check_steps yard occ a (slot_count yard) ≤ steps_unless k (slots_ceiling yard a.limit (slot_count yard))) (sym z)
    (slots-within yard occ a bytes (fits yard (unfit_not yard y)) (slot_count yard) (omega arith))
