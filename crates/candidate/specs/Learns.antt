-- What a candidate can learn of the rest of a sitting (change request Q-11): the statements; their proofs are in proofs/LearnsLaws. Assumes nothing.
use Rattle.std.specs.Prelude.{ℕ, ◌≤◌, ◌≡◌, Bool, true, List, [], ◌∷◌, length}
use Rattle.link_rules.specs.LinkIdx.{occupied}
use Rattle.link_rules.specs.Network.{link_count, table_fits}
use Rattle.link_rules.specs.declared.link_idx.LinkIdx.{LinkIdx}
use Rattle.link_rules.specs.Refusals.{Answer}
use Rattle.wide_occupancy.specs.WideOccupancy.{largest, six_digits}
use Rattle.yard_check.specs.Yard.{yard_fits, image_in}
use Rattle.candidate.specs.Candidate.{is_arrive_link, View, view_of, act_of}

-- an accepted table, an occupancy of its length past 22, and a yard past the header checks
pub record Sitting (tbl occ yard : List ℕ) : Type 0 where
  pub accepted : table_fits tbl ≡ true
  pub long : length occ ≡ link_count tbl
  pub low : largest occ ≤ six_digits
  pub fits : yard_fits yard ≡ true

-- they agree on the candidate's image, and on which Arrive links of its path are taken; S, the other slots, offsets and who holds a link may differ
pub record Agree (slot : ℕ) (occ yard occ' yard' : List ℕ) : Type 0 where
  pub image : image_in yard' slot ≡ image_in yard slot
  pub taken : (l : LinkIdx) → is_arrive_link (image_in yard slot) l ≡ true → occupied occ' l ≡ occupied occ l

-- two sittings over one table that agree so
pub record Alike (tbl : List ℕ) (slot : ℕ) (occ yard occ' yard' : List ℕ) : Type 0 where
  pub one : Sitting tbl occ yard
  pub other : Sitting tbl occ' yard'
  pub agree : Agree slot occ yard occ' yard'

-- the same view of every node: the refusal, whether its link is taken, and every byte
abbrev pub SameView : Type 0
SameView = (tbl : List ℕ) (slot : ℕ) (occ yard occ' yard' : List ℕ) → Alike tbl slot occ yard occ' yard'
    → (node : ℕ) (buffer : List ℕ) → view_of tbl occ' yard' slot node buffer ≡ view_of tbl occ yard slot node buffer

-- the same answer to every mark and release
abbrev pub SameAnswer : Type 0
SameAnswer = (tbl : List ℕ) (slot : ℕ) (occ yard occ' yard' : List ℕ) → Alike tbl slot occ yard occ' yard'
    → (l : LinkIdx) (marks : Bool) → (act_of tbl occ' yard' slot l marks).answer ≡ (act_of tbl occ yard slot l marks).answer

-- after a mark, refused or not, they agree still; a release need not keep it (ReleaseTells)
abbrev pub MarkKeeps : Type 0
MarkKeeps = (tbl : List ℕ) (slot : ℕ) (occ yard occ' yard' : List ℕ) → Alike tbl slot occ yard occ' yard'
    → (l : LinkIdx) → Alike tbl slot (act_of tbl occ yard slot l true).occupancy yard (act_of tbl occ' yard' slot l true).occupancy yard'

-- ---- many calls

-- a node is looked at, with a buffer; or a link is marked
pub data Ask : Type 0 where
  look : ℕ → List ℕ → Ask
  mark : LinkIdx → Ask

pub data Told : Type 0 where
  saw : View → Told
  heard : Answer → Told

-- what a candidate is told, one call after the other
unfoldable pub told : (tbl yard : List ℕ) (slot : ℕ) (occ : List ℕ) → List Ask → List Told
told tbl yard slot occ [] = []
told tbl yard slot occ (look node buffer ∷ asks) = saw (view_of tbl occ yard slot node buffer) ∷ told tbl yard slot occ asks
told tbl yard slot occ (mark l ∷ asks) = let m = act_of tbl occ yard slot l true in heard m.answer ∷ told tbl yard slot m.occupancy asks

-- the same of every list of views and marks
abbrev pub SameTold : Type 0
SameTold = (tbl : List ℕ) (slot : ℕ) (occ yard occ' yard' : List ℕ) → Alike tbl slot occ yard occ' yard'
    → (asks : List Ask) → told tbl yard' slot occ' asks ≡ told tbl yard slot occ asks
