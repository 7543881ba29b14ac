-- A sitting that is carried k slots far (document 02, Q-7): what holds of its two yards after each step. Assumes nothing.
use Rattle.std.specs.Prelude.{ℕ, suc, ◌≤◌, ◌<◌, ◌≡◌, true, List, length, get_or}
use Rattle.link_rules.specs.Octets.{le_at}
use Rattle.link_rules.specs.Refusals.{no_refusal}
use Rattle.image.specs.Image.{is_wide}
use Rattle.image_fault.specs.ImageFault.{fault_with, image_fault}
use Rattle.image_fault.specs.declared.Widths.TheVariants.{Either}
use Rattle.yard_check.specs.Yard.{yard_size, slot_count, part_begin, part_of, yard_fits}
use Rattle.carry.specs.Carry.{wide_end, wide_size}

-- the header of the second yard
pub record Header (yard wide : List ℕ) : Type 0 where
  pub long : length wide ≡ wide_size yard
  pub size : yard_size wide ≡ wide_size yard
  pub slots : slot_count wide ≡ slot_count yard
  pub offsets : (n : ℕ) → n < slot_count yard → part_begin wide (suc n) ≡ wide_end yard n

-- a carried image: its slot's train, wide, accepted over so many links
pub record CarriedImage (links t : ℕ) (img : List ℕ) : Type 0 where
  pub train : le_at 2 img 32 ≡ t
  pub wide : is_wide img ≡ true
  pub accepted : (fault_with Either no_refusal img links).number ≡ 0

-- the header, slots up to k wide and accepted in the second yard, the rest of it zero, slots above k narrow and accepted in the first
pub record CarriedFar (links k : ℕ) (yard wide : List ℕ) : Type 0 where
  pub first : yard_fits yard ≡ true
  pub few : k ≤ slot_count yard
  pub header : Header yard wide
  pub carried : (n : ℕ) → n < k → CarriedImage links (suc n) (part_of wide (suc n))
  pub rest : (i : ℕ) → wide_end yard k ≤ i → get_or wide i 0 ≡ 0
  pub narrow : (t : ℕ) → k < t → t ≤ slot_count yard → (image_fault (part_of yard t) links).number ≡ 0
