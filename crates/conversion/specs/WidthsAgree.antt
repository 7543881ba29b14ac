-- The promises of change request Q-6 on one image in two widths. Stated here, proved in proofs/RoundTrips.antt and proofs/Agreement.antt. An image is of u8.
-- Assumes nothing.
use Rattle.std.specs.Prelude.{◌≡◌, Bool, true, List, ℕ, ◌<◌, length, get_or}
use Rattle.image.specs.Codec.{decoded, encoded}
use Rattle.update_definition.specs.Fits.{TrainsWithin}
use Rattle.update_definition.specs.UpdateImage.{UpdatedImage, updated_image, updated_image_wide}
use Rattle.conversion.specs.Conversion.{widen_fault, narrow_fault, after_widen, after_narrow}

abbrev pub Octets : List ℕ → Type 0
Octets image = (i : ℕ) → get_or image i 0 < 256

-- ---- there and back

-- a narrow image read and written wide keeps every number, and goes narrow to the same bytes, in every output of as many
pub record WideAndBack (image wide back : List ℕ) : Type 0 where
  pub numbers : decoded wide ≡ decoded image
  pub taken : (narrow_fault wide (length back)).number ≡ 0
  pub bytes : after_narrow wide back ≡ image

abbrev pub GoesWideAndBack : Type 0
GoesWideAndBack = (image out back : List ℕ) → Octets image → (widen_fault image (length out)).number ≡ 0 → length back ≡ length image → WideAndBack image (after_widen image out) back

-- a wide image that goes narrow, so with small numbers, keeps them, and goes wide to the same bytes
pub record NarrowAndBack (image narrow back : List ℕ) : Type 0 where
  pub numbers : decoded narrow ≡ decoded image
  pub taken : (widen_fault narrow (length back)).number ≡ 0
  pub bytes : after_widen narrow back ≡ image

abbrev pub GoesNarrowAndBack : Type 0
GoesNarrowAndBack = (image out back : List ℕ) → Octets image → (narrow_fault image (length out)).number ≡ 0 → length back ≡ length image → NarrowAndBack image (after_narrow image out) back

-- ---- an update where no train is above 65,535

-- the same answer, and the image that is left written wide
pub record WideAlike (narrow wide : UpdatedImage) : Type 0 where
  pub answer : wide.answer ≡ narrow.answer
  pub image : wide.image ≡ encoded true (decoded narrow.image)

-- over u16 entries, over u32 entries, and of the image written wide
pub record OneUpdate (image occupancy blocking : List ℕ) (moved : ℕ) (local : Bool) (limit : ℕ) : Type 0 where
  pub entries : updated_image_wide image occupancy blocking moved local limit ≡ updated_image image occupancy blocking moved local limit
  pub widened : WideAlike (updated_image image occupancy blocking moved local limit) (updated_image_wide (encoded true (decoded image)) occupancy blocking moved local limit)

-- of every image that goes wide, over every occupancy, refused updates too
abbrev pub UpdatesAgree : Type 0
UpdatesAgree =
    (image : List ℕ) (size : ℕ) (occupancy blocking : List ℕ) (moved : ℕ) (local : Bool) (limit : ℕ)
    → Octets image → (widen_fault image size).number ≡ 0 → TrainsWithin 65535 occupancy moved
    → OneUpdate image occupancy blocking moved local limit
