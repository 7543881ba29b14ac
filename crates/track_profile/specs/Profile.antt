-- The training track profile (change request Q-13): every distance and every offset of an image is a whole multiple of 1/1024 metre, from 0 to 40,000 metres. Assumes nothing.
use Rattle.std.specs.Prelude.{◌≡◌, Bool, true, false, cond, not, ◌&&◌, ◌||◌, List, ℕ, ◌*◌, ◌/◌, ◌%◌, ◌≤◌, leb, eqb, Float}
use Rattle.std.specs.Float.{nan, inf, fin}
use Rattle.std.specs.Float.Ieee.{up, down}
use Rattle.link_rules.specs.Network.{all_below}
use Rattle.image.specs.Image.{est_count, path_count_of, dist_disp_path_search_of, dist_fixed_max_of, est_at, node_at}
use Rattle.image_fault.specs.ImageFault.{fault_with}
use Rattle.image_fault.specs.declared.Widths.TheVariants.{Either}
use Rattle.link_rules.specs.Refusals.{no_refusal, refused, or_else}
use Rattle.link_rules.specs.declared.refusal.Refusal.{Refusal}

-- ---- a value

-- 40,000 metres in 1/1024 metre
abbrev pub longest : ℕ
longest = 40960000

-- the value of x is k / 1024 metre; -0.0 is 0
abbrev pub Worth : Float → ℕ → Type 0
Worth nan k = ⊥
Worth (inf s) k = ⊥
Worth (fin s m e) k = (m * up e * 1024 ≡ k * down e) × (s ≡ true → k ≡ 0)

-- x is in the profile: k / 1024 metre for some k from 0 to 40,960,000
pub record InProfile (x : Float) : Type 0 where
  pub units : ℕ
  pub few : units ≤ longest
  pub worth : Worth x units

-- the same as a test: ProfileLaws.profile-sound, profile-complete
unfoldable pub in_profile : Float → Bool
in_profile nan = false
in_profile (inf s) = false
in_profile (fin s m e) = eqb (m * up e * 1024 % down e) 0 && (leb (m * up e * 1024 / down e) longest && (not s || eqb m 0))

-- the k of a value of the profile: ProfileLaws.worth-units
unfoldable pub units_of : Float → ℕ
units_of nan = 0
units_of (inf s) = 0
units_of (fin s m e) = m * up e * 1024 / down e

-- ---- an image

abbrev pub dist_at : List ℕ → ℕ → Float
dist_at bs i = (est_at bs i).dist_to_next.0

abbrev pub offset_at : List ℕ → ℕ → Float
offset_at bs i = (node_at bs i).offset.0

-- every est distance, the header's two distances, every path offset; no time_pass is asked
unfoldable pub image_in_profile : List ℕ → Bool
image_in_profile bs =
    all_below (est_count bs) (λ i. in_profile (dist_at bs i))
    && (in_profile (dist_disp_path_search_of bs).0 && (in_profile (dist_fixed_max_of bs).0 && all_below (path_count_of bs) (λ i. in_profile (offset_at bs i))))

-- 6 to 9 and 22 over 4,000 links, in images of either width; then 29
unfoldable pub profile_fault : List ℕ → Refusal
profile_fault bs = or_else (fault_with Either no_refusal bs 4000) (cond (image_in_profile bs) no_refusal (refused 29 0))
