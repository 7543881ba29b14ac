-- Going wide and going narrow (document 02, Q-6): what is written is the image's train in the other width, encoded wide (decoded img).
-- L is 4,000. Assumes nothing.
use Rattle.std.specs.Prelude.{ℕ, Bool, true, false, cond, List, leb, eqb, length}
use Rattle.link_rules.specs.Network.{all_below}
use Rattle.link_rules.specs.Refusals.{refused_unless, or_else}
use Rattle.link_rules.specs.declared.refusal.Refusal.{Refusal}
use Rattle.image.specs.Image.{est_count, diverge_count_of, diverge_room, is_wide, image_size, largest_of, diverge_at}
use Rattle.image.specs.Codec.{decoded, encoded}
use Rattle.image_fault.specs.ImageFault.{fault_with}
use Rattle.image_fault.specs.declared.Widths.TheVariants.{Narrow, Either}

-- 6: the output has not the size of the image in that width
abbrev pub out_fault : (wide : Bool) (img : List ℕ) (size : ℕ) → Refusal
out_fault wide img size = refused_unless (eqb size (image_size wide (est_count img) (diverge_room img))) 6

-- going wide: 6 to 9; a wide image is 6
unfoldable pub widen_fault : (img : List ℕ) (size : ℕ) → Refusal
widen_fault img size = fault_with Narrow (out_fault true img size) img 4000

-- a narrow image holds the train of diverge record i
unfoldable pub fits_narrow : (img : List ℕ) (i : ℕ) → Bool
fits_narrow img i = leb (diverge_at img i).train_idx.0 (largest_of false)

-- going narrow: 6 to 9 and 22, a narrow image is 6; then 23 where a train does not fit
unfoldable pub narrow_fault : (img : List ℕ) (size : ℕ) → Refusal
narrow_fault img size =
    or_else (fault_with Either (or_else (refused_unless (is_wide img) 6) (out_fault false img size)) img 4000)
    (refused_unless (all_below (diverge_count_of img) (fits_narrow img)) 23)

-- a refusal leaves the output
abbrev pub left_by : (f : Refusal) (new was : List ℕ) → List ℕ
left_by f new was = cond (eqb f.number 0) new was

-- the output that going wide and going narrow leave
abbrev pub after_widen : (img out : List ℕ) → List ℕ
after_widen img out = left_by (widen_fault img (length out)) (encoded true (decoded img)) out

abbrev pub after_narrow : (img out : List ℕ) → List ℕ
after_narrow img out = left_by (narrow_fault img (length out)) (encoded false (decoded img)) out
