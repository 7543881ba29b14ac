-- An image in the profile: what its refusal says of its values, and its offsets, near only if equal. Assumes nothing.
use mathlib.Core.Path.{◌≡◌, refl, sym, ap, ◌∙◌}
use mathlib.Core.Bool.{Bool, true, false, cond, ◌&&◌}
use mathlib.Core.List.{List}
use Prim.Native.Nat.{ℕ, ◌<◌}
use native.Mathlib.Omega.{arith}
use lib.Ieee.{Float}
use Rattle.link_rules.specs.Octets.{le_at}
use Rattle.link_rules.specs.Network.{all_below}
use Rattle.link_rules.proofs.TableLaws.{all-at, both}
use Rattle.disp_structs.specs.Floats.{real_of}
use Rattle.disp_structs.specs.declared.Metres.{Metres}
use Rattle.image.specs.Image.{est_count, path_count_of, dist_disp_path_search_of, dist_fixed_max_of, est_from, node_from, node_place}
use Rattle.image_fault.specs.ImageFault.{fault_with}
use Rattle.image_fault.specs.declared.Widths.TheVariants.{Either}
use Rattle.link_rules.specs.Refusals.{no_refusal, refused}
use Rattle.link_rules.specs.declared.refusal.Refusal.{Refusal}
use Rattle.image_fault.proofs.AcceptLaws as Clean
use Rattle.track_profile.specs.Profile.{InProfile, in_profile, dist_at, offset_at, image_in_profile, profile_fault}
use Rattle.track_profile.specs.ExactSteps.{NearOnlyIfEqual}
use Rattle.track_profile.proofs.NearLaws.{near_equal, worth_eq}
use Rattle.track_profile.proofs.ProfileLaws.{worth-units, profile_sound}

-- ---- as the code reads it: the float that begins a record

abbrev pub record_in_profile : List ℕ → ℕ → ℕ → Bool
record_in_profile bs e i = in_profile (real_of (le_at 8 bs (node_place e i)))

-- by the values that the code has
module _ (bs : List ℕ) (e i : ℕ) {r : Bool} {x : Float} {b p : ℕ} where
  pub record_is : r ≡ in_profile x → x ≡ real_of b → b ≡ le_at 8 bs p → p ≡ node_place e i → r ≡ record_in_profile bs e i
  record_is k l m n = k ∙ ap in_profile (l ∙ ap real_of (m ∙ ap (le_at 8 bs) n))

pub image-is : (bs : List ℕ) (e n : ℕ) (s f : Metres) → e ≡ est_count bs → n ≡ path_count_of bs → s ≡ dist_disp_path_search_of bs → f ≡ dist_fixed_max_of bs
    → image_in_profile bs ≡ (all_below e (record_in_profile bs 0) && (in_profile s.0 && (in_profile f.0 && all_below n (record_in_profile bs e))))
unfolding image_in_profile est_from node_from
image-is bs e n s f a b c d = rw (a, b, c, d)

-- ---- the refusal

abbrev pub DistsInProfile : List ℕ → Type 0
DistsInProfile bs = (i : ℕ) → i < est_count bs → InProfile (dist_at bs i)

abbrev pub OffsetsInProfile : List ℕ → Type 0
OffsetsInProfile bs = (i : ℕ) → i < path_count_of bs → InProfile (offset_at bs i)

image_sound : (bs : List ℕ) → image_in_profile bs ≡ true → DistsInProfile bs × OffsetsInProfile bs
unfolding image_in_profile
image_sound bs h =
    let a = both (all_below (est_count bs) (λ i. in_profile (dist_at bs i))) _ h in
    let b = both (in_profile (dist_disp_path_search_of bs).0) _ a.1 in
    let c = both (in_profile (dist_fixed_max_of bs).0) _ b.1 in (
      λ i l. profile_sound (dist_at bs i) (all-at (λ i. in_profile (dist_at bs i)) (est_count bs) i a.0 l),
      λ i l. profile_sound (offset_at bs i) (all-at (λ i. in_profile (offset_at bs i)) (path_count_of bs) i c.1 l),
    )

pub in-profile : (bs : List ℕ) → profile_fault bs ≡ no_refusal → DistsInProfile bs × OffsetsInProfile bs
unfolding profile_fault
in-profile bs h =
    let c = Clean.or_else_clean (fault_with Either no_refusal bs 4000) (cond (image_in_profile bs) no_refusal (refused 29 0)) (ap (λ (f : Refusal). f.number) h) in
    image_sound bs (go (image_in_profile bs) c.1)
  where
    go : (t : Bool) → (cond t no_refusal (refused 29 0)).number ≡ 0 → t ≡ true
    go true e = refl
    go false e = absurd (omega arith)

-- ---- two offsets are near only if equal

pub near_only_if_equal : NearOnlyIfEqual
near_only_if_equal bs p i j l m h =
    let a = (in-profile bs p).1 i l in
    let b = (in-profile bs p).1 j m in
    let e = near_equal (offset_at bs i) (offset_at bs j) a.units b.units a.worth b.worth a.few b.few h in
    record {
      units = worth-units (offset_at bs i) a.units a.worth ∙ e ∙ sym (worth-units (offset_at bs j) b.units b.worth);
      compare = worth_eq (offset_at bs i) (offset_at bs j) b.units (rw (← e) a.worth) b.worth;
    }
