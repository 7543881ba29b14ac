-- The ceiling of search steps before a run (change request Q-9): of a round from the image alone, of a yard with its round limit; and the steps of a check. Assumes nothing.
use Rattle.std.specs.Prelude.{ℕ, zero, suc, ◌+◌, ◌*◌, Bool, true, false, cond, List, ltb, eqb, length}
use Rattle.link_rules.specs.Refusals.{no_refusal, refused, or_else}
use Rattle.link_rules.specs.declared.refusal.Refusal.{Refusal}
use Rattle.image.specs.Image.{est_count}
use Rattle.image_fault.specs.ImageFault.{fault_with}
use Rattle.image_fault.specs.declared.Widths.TheVariants.{Either}
use Rattle.update_definition.specs.UpdateImage.{updated_image_in}
use Rattle.yard_check.specs.Yard as Yard
use Rattle.yard_check.specs.Yard.{slot_count, part_of}
use Rattle.yard_check.specs.Check.{CheckArgs, is_finished}

-- refused, or a refusal 0 and so many steps
pub record StepCeiling : Type 0 where
  pub fault : Refusal
  pub steps : ℕ

-- so many steps, 0 where the call is refused by this number
abbrev pub steps_unless : ℕ → ℕ → ℕ
steps_unless zero n = n
steps_unless (suc k) n = 0

abbrev pub told_by : Refusal → ℕ → StepCeiling
told_by f n = record { fault = f; steps = steps_unless f.number n }

-- ---- an image

-- of a round: 3E + 1 with E est records
abbrev pub round_ceiling : List ℕ → ℕ
round_ceiling img = 3 * est_count img + 1

-- 6 to 9 and 22 over 4,000 links, in images of either width
unfoldable pub ceiling_of : List ℕ → StepCeiling
ceiling_of img = told_by (fault_with Either no_refusal img 4000) (round_ceiling img)

-- ---- a yard

-- slots 1 to n, each with the round limit; a refused image adds 0
unfoldable pub slots_ceiling : (yard : List ℕ) (limit n : ℕ) → ℕ
slots_ceiling yard limit zero = 0
slots_ceiling yard limit (suc n) = slots_ceiling yard limit n + (ceiling_of (part_of yard (suc n))).steps * limit

-- 5: limit 0; then 14
abbrev pub ceiling_fault : List ℕ → ℕ → Refusal
ceiling_fault yard limit = or_else (cond (eqb limit 0) (refused 5 0) no_refusal) (Yard.yard_fault yard)

unfoldable pub yard_ceiling_of : List ℕ → ℕ → StepCeiling
yard_ceiling_of yard limit = told_by (ceiling_fault yard limit) (slots_ceiling yard limit (slot_count yard))

-- ---- the steps of a check: their sum over the slots that are updated

-- as visit_by has it: a slot that is refused by 6 to 9 or 22, finished or moved is not updated
abbrev pub visit_steps : (number : ℕ) (is_done is_moved : Bool) (steps : ℕ) → ℕ
visit_steps (suc n) is_done is_moved steps = 0
visit_steps zero true is_moved steps = 0
visit_steps zero false true steps = 0
visit_steps zero false false steps = steps

-- slots below begin are not visited
unfoldable pub slot_steps : (yard occ : List ℕ) (a : CheckArgs) (t : ℕ) → ℕ
slot_steps yard occ a t =
    let img = part_of yard t in
    let steps = (updated_image_in a.widths img occ a.blocking a.moved a.local a.limit).answer.tally.steps in
    let visit = visit_steps (fault_with a.widths no_refusal img (length occ)).number (is_finished img) (eqb t a.moved) steps in
    cond (ltb t a.begin) 0 visit

-- slots 1 to n
unfoldable pub check_steps : List ℕ → List ℕ → CheckArgs → ℕ → ℕ
check_steps yard occ a zero = 0
check_steps yard occ a (suc n) = check_steps yard occ a n + slot_steps yard occ a (suc n)
