use Rattle.std.proofs.Common.{◌≡◌, Bool, true, false, ◌&&◌, refl, rules, tests}
use lib.Ieee.{le}
use Rattle.disp_structs.specs.Floats.{nought}
use Rattle.track_profile.proofs.ShiftNumbers.{farthest}
use Rattle.track_profile.proofs.ShiftLaws.{shift_test, shift_is}
use Rattle.track_profile.proofs.in_profile.Goals as goal
use Rattle.track_profile.proofs.in_profile.Goals.{then-x, else-x}

all_three : (a b d v : Bool) → v ≡ (a && b) → v ≡ true → d ≡ (a && (b && d))
all_three true true d v e t = refl
all_three true false d v e t = cc
all_three false b d v e t = cc

not_two : (a b d v : Bool) → v ≡ (a && b) → v ≡ false → v ≡ (a && (b && d))
not_two true true d v e f = cc
not_two true false d v e f = f
not_two false b d v e f = f

pub returns-then-x-2 : goal.returns-then-x-2
unfolding shift_test
returns-then-x-2 c =
    let x = c.args.x in
    let two : c.if-x.value ≡ (le nought x && le x farthest) = elim c.if-x.branch [ then-x w ↦ search (rules, tests) | else-x w ↦ search (rules, tests) ] in
    rw (← shift_is) (all_three (le nought x) (le x farthest) _ _ two c.if-x-2.true)

pub returns-else-x-2 : goal.returns-else-x-2
unfolding shift_test
returns-else-x-2 c =
    let x = c.args.x in
    let two : c.if-x.value ≡ (le nought x && le x farthest) = elim c.if-x.branch [ then-x w ↦ search (rules, tests) | else-x w ↦ search (rules, tests) ] in
    rw (← shift_is) (not_two (le nought x) (le x farthest) _ _ two c.if-x-2.false)
