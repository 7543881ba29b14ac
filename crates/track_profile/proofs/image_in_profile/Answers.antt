use Rattle.std.proofs.Common.{◌≡◌, Bool, true, false, ◌&&◌, refl, rules, tests}
use Rattle.image.specs.Image.{path_count_of}
use Rattle.link_rules.specs.Network.{all_below}
use Rattle.track_profile.specs.Profile.{in_profile}
use Rattle.track_profile.proofs.ImageLaws.{record_in_profile, image-is}
use Rattle.track_profile.proofs.image_in_profile.Goals as goal
use Rattle.track_profile.proofs.image_in_profile.Goals.{then-records_in_profile, else-records_in_profile, then-in_profile, else-in_profile}

all_four : (a b c d v : Bool) → v ≡ ((a && b) && c) → v ≡ true → d ≡ (a && (b && (c && d)))
all_four true true true d v e t = refl
all_four true true false d v e t = cc
all_four true false c d v e t = cc
all_four false b c d v e t = cc

not_three : (a b c d v : Bool) → v ≡ ((a && b) && c) → v ≡ false → v ≡ (a && (b && (c && d)))
not_three true true true d v e f = cc
not_three true true false d v e f = f
not_three true false c d v e f = f
not_three false b c d v e f = f

pub returns-then-in_profile-2 : goal.returns-then-in_profile-2
returns-then-in_profile-2 c = let image = c.args.image.now in
    let e = c.est_count-e in
    let s = c.dist_disp_path_search-search in
    let f = c.dist_fixed_max-fixed_max in
    let n = c.path_count in
    let dists = all_below e.result (record_in_profile image 0) in
    let two : c.if-records_in_profile.value ≡ (dists && in_profile s.result.0) =
    elim c.if-records_in_profile.branch [ then-records_in_profile w ↦ search (rules, tests) | else-records_in_profile w ↦ search (rules, tests) ] in
    let three : c.if-in_profile.value ≡ ((dists && in_profile s.result.0) && in_profile f.result.0) =
    rw (← two) elim c.if-in_profile.branch [ then-in_profile w ↦ search (rules, tests) | else-in_profile w ↦ search (rules, tests) ] in
    rw (image-is image e.result n.result s.result f.result e.ensures n.ensures s.ensures f.ensures, c.records_in_profile-then-in_profile-2.ensures)
    (all_four dists (in_profile s.result.0) (in_profile f.result.0) _ _ three c.if-in_profile-2.true)

pub returns-else-in_profile-2 : goal.returns-else-in_profile-2
returns-else-in_profile-2 c = let image = c.args.image.now in
    let e = c.est_count-e in
    let s = c.dist_disp_path_search-search in
    let f = c.dist_fixed_max-fixed_max in
    let dists = all_below e.result (record_in_profile image 0) in
    let two : c.if-records_in_profile.value ≡ (dists && in_profile s.result.0) =
    elim c.if-records_in_profile.branch [ then-records_in_profile w ↦ search (rules, tests) | else-records_in_profile w ↦ search (rules, tests) ] in
    let three : c.if-in_profile.value ≡ ((dists && in_profile s.result.0) && in_profile f.result.0) =
    rw (← two) elim c.if-in_profile.branch [ then-in_profile w ↦ search (rules, tests) | else-in_profile w ↦ search (rules, tests) ] in
    rw (image-is image e.result (path_count_of image) s.result f.result e.ensures refl s.ensures f.ensures)
    (not_three dists (in_profile s.result.0) (in_profile f.result.0) _ _ three c.if-in_profile-2.false)
