-- The promises of change request Q-7 on a sitting that is carried while it runs: steps, and checks between them. Stated here, proved in
-- proofs/StepsCarry.antt, proofs/HalfKeeps.antt and proofs/HalfAgrees.antt. Yards are of u8. Assumes nothing.
use Rattle.std.specs.Prelude.{ℕ, suc, ◌*◌, ◌≤◌, ◌<◌, ◌≡◌, Bool, true, false, List, length}
use Rattle.link_rules.specs.Refusals as Stepped
use Rattle.image_fault.specs.ImageFault.{image_fault}
use Rattle.update_definition.specs.Fits.{TrainsWithin}
use Rattle.conversion.specs.WidthsAgree.{Octets}
use Rattle.yard_check.specs.Yard.{slot_count, part_of, yard_fits}
use Rattle.yard_check.specs.Check.{wide_count, row_at, Checked, checked as checked_narrow}
use Rattle.yard_check.specs.YardMatch.{NotRefused}
use Rattle.yard_check.specs.Pair.{PairChecked}
use Rattle.carry.specs.Carry.{occupancies_fault, carry_fault, widened, carried}
use Rattle.carry.specs.CarriedFar.{CarriedFar}
use Rattle.carry.specs.HalfCheck.{half_checked, half_args}

-- ---- steps

-- a first step that is not refused carries slot 1
abbrev pub FirstStep : Type 0
FirstStep =
    (yard occ wide wide_occ : List ℕ) → Octets yard → (carry_fault yard (length occ) 0 wide (length wide_occ)).number ≡ 0
    → CarriedFar (length occ) 1 yard (carried yard occ 0 wide wide_occ).yard

-- no further step is refused, and each carries one slot more
abbrev pub NextStep : Type 0
NextStep =
    (k : ℕ) (yard occ wide wide_occ : List ℕ) → Octets yard → CarriedFar (length occ) (suc k) yard wide → suc k < slot_count yard → (occupancies_fault (length occ) (length wide_occ)).number ≡ 0
    → ((carried yard occ (suc k) wide wide_occ).answer ≡ Stepped.Done) × CarriedFar (length occ) (suc (suc k)) yard (carried yard occ (suc k) wide wide_occ).yard

-- after S steps the second yard passes 14, and no narrow image is left
abbrev pub LastStep : Type 0
LastStep = (links : ℕ) (yard wide : List ℕ) → CarriedFar links (slot_count yard) yard wide → (yard_fits wide ≡ true) × (wide_count wide ≡ slot_count wide)

-- ---- a half check keeps what the steps brought about

pub record StillFar (links k : ℕ) (c : PairChecked) : Type 0 where
  pub far : CarriedFar links k c.yard c.second
  pub first-octets : Octets c.yard
  pub second-octets : Octets c.second

abbrev pub HalfCheckKeeps : Type 0
HalfCheckKeeps =
    (k : ℕ) (yard wide occ blocking : List ℕ) (moved begin : ℕ) (local : Bool) (limit : ℕ) (report : List ℕ)
    → Octets yard → Octets wide → CarriedFar (length occ) k yard wide
    → StillFar (length occ) k (half_checked yard wide k occ (half_args blocking moved begin local limit) report)

-- ---- the numbers of the all-narrow yard, where no train is above 65,535

-- two yards with k slots carried that have the images of an all-narrow one: the carried ones written wide
pub record HalfOf (links k : ℕ) (narrow yard wide : List ℕ) : Type 0 where
  pub slots : slot_count yard ≡ slot_count narrow
  pub accepted : (t : ℕ) → 1 ≤ t → t ≤ slot_count narrow → (image_fault (part_of narrow t) links).number ≡ 0
  pub carried : (t : ℕ) → 1 ≤ t → t ≤ k → part_of wide t ≡ widened narrow t
  pub others : (t : ℕ) → k < t → t ≤ slot_count narrow → part_of yard t ≡ part_of narrow t

-- a first step brings it about, of the yard that it is given
abbrev pub FirstAgrees : Type 0
FirstAgrees =
    (yard occ wide wide_occ : List ℕ) → Octets yard → (carry_fault yard (length occ) 0 wide (length wide_occ)).number ≡ 0
    → HalfOf (length occ) 1 yard yard (carried yard occ 0 wide wide_occ).yard

-- further steps keep it
abbrev pub StepsAgree : Type 0
StepsAgree =
    (k : ℕ) (narrow yard occ wide wide_occ : List ℕ) → Octets yard → CarriedFar (length occ) (suc k) yard wide → HalfOf (length occ) (suc k) narrow yard wide
    → (carry_fault yard (length occ) (suc k) wide (length wide_occ)).number ≡ 0
    → HalfOf (length occ) (suc (suc k)) narrow yard (carried yard occ (suc k) wide wide_occ).yard

-- the same answer, the same numbers in each record of the wide report, and the images that are left are again those of the all-narrow yard
pub record HalfAlike (links k : ℕ) (n : Checked) (c : PairChecked) : Type 0 where
  pub answer : c.answer ≡ n.answer
  pub rows : NotRefused ((t : ℕ) → 1 ≤ t → t ≤ slot_count n.yard → row_at true c.report t ≡ row_at false n.report t) c.answer
  pub images : HalfOf links k n.yard c.yard c.second

-- of every half check, refused ones too, with a report of as many records
abbrev pub HalfChecksAgree : Type 0
HalfChecksAgree =
    (k : ℕ) (narrow yard wide occ blocking : List ℕ) (moved begin : ℕ) (local : Bool) (limit : ℕ) (report wide_report : List ℕ)
    → Octets narrow → yard_fits narrow ≡ true → CarriedFar (length occ) (suc k) yard wide → suc k < slot_count yard → HalfOf (length occ) (suc k) narrow yard wide
    → TrainsWithin 65535 occ moved → length report ≡ 20 * slot_count narrow → length wide_report ≡ 24 * slot_count narrow
    → HalfAlike (length occ) (suc k) (checked_narrow narrow occ blocking moved begin local limit report) (half_checked yard wide (suc k) occ (half_args blocking moved begin local limit) wide_report)
