-- The promises of change request Q-13. On the profile two offsets are near only if they are equal, and a Success whose image stays in the profile leaves each
-- step along next exactly its distance and each step along alt exactly 0. Stated here, proved in proofs/ImageLaws.antt and proofs/StepLaws.antt. Assumes nothing.
use Rattle.std.specs.Prelude.{◌≡◌, Bool, true, false, List, ℕ, ◌+◌, ◌≤◌, ◌<◌, Float, get_or}
use Rattle.std.specs.Float.Ieee.{eq}
use Rattle.disp_structs.specs.Floats.{near_float}
use Rattle.disp_structs.specs.Values.{same_est}
use Rattle.image.specs.Image.{path_count_of, largest_train, est_at, node_at}
use Rattle.link_rules.specs.Refusals.{no_refusal}
use Rattle.update_definition.specs.Fits.{TrainsWithin}
use Rattle.update_definition.specs.Update.{Success}
use Rattle.image_fault.specs.declared.Widths.{Widths}
use Rattle.update_definition.specs.UpdateImage.{updated_image_in}
use Rattle.track_profile.specs.Profile.{units_of, dist_at, offset_at, profile_fault}

-- ---- near

-- as values: 0 and -0.0 are near, and equal
pub record EqualValues (x y : Float) : Type 0 where
  pub units : units_of x ≡ units_of y
  pub compare : eq x y ≡ true

-- any two offsets of an image in the profile
abbrev pub NearOnlyIfEqual : Type 0
NearOnlyIfEqual =
    (image : List ℕ) → profile_fault image ≡ no_refusal
    → (i j : ℕ) → i < path_count_of image → j < path_count_of image → near_float (offset_at image i) (offset_at image j) ≡ true → EqualValues (offset_at image i) (offset_at image j)

-- ---- steps, in 1/1024 metre

-- the est record of node i
abbrev pub est_of : List ℕ → ℕ → ℕ
est_of bs i = (node_at bs i).est_idx.0

-- node i + 1 is next of node i, is alt of node i
abbrev pub names_next : List ℕ → ℕ → Bool
names_next bs i = same_est (est_at bs (est_of bs i)).idx_next (node_at bs (i + 1)).est_idx

abbrev pub names_alt : List ℕ → ℕ → Bool
names_alt bs i = same_est (est_at bs (est_of bs i)).idx_next_alt (node_at bs (i + 1)).est_idx

-- from node i to node i + 1; a node that both name counts as next
pub record StepExact (bs : List ℕ) (i : ℕ) : Type 0 where
  pub next : names_next bs i ≡ true → units_of (offset_at bs (i + 1)) ≡ units_of (offset_at bs i) + units_of (dist_at bs (est_of bs i))
  pub alt : names_next bs i ≡ false → (names_alt bs i ≡ true) × (units_of (offset_at bs (i + 1)) ≡ units_of (offset_at bs i))

abbrev pub StepsExact : List ℕ → Type 0
StepsExact bs = (i : ℕ) → i + 1 < path_count_of bs → StepExact bs i

-- ---- an update

-- of a call that takes the widths w; the image is of u8; the trains of the occupancy and the moved one are up to top, of which the image holds every one
abbrev pub SuccessIsExact : Type 0
SuccessIsExact =
    (w : Widths) (top : ℕ) (image occupancy blocking : List ℕ) (moved : ℕ) (local : Bool) (limit : ℕ)
    → ((i : ℕ) → get_or image i 0 < 256) → top ≤ largest_train image → TrainsWithin top occupancy moved
    → profile_fault image ≡ no_refusal
    → (updated_image_in w image occupancy blocking moved local limit).answer.status ≡ Success
    → profile_fault (updated_image_in w image occupancy blocking moved local limit).image ≡ no_refusal
    → StepsExact (updated_image_in w image occupancy blocking moved local limit).image
