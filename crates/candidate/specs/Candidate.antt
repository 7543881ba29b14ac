-- Examiner and candidate (change request Q-11): what a candidate sees of the path of their train and of the occupancy, what they may mark or release, and refusals 26 and 27. Assumes nothing.
use Rattle.std.specs.Prelude.{◌≡◌, ℕ, zero, suc, Bool, false, cond, ◌&&◌, List, Result, ltb, length, take, drop}
use Rattle.link_rules.specs.LinkIdx.{no_train, occupied}
use Rattle.link_rules.specs.Network.{link_count}
use Rattle.link_rules.specs.Refusals.{or_else, refused_unless, raised_with}
use Rattle.link_rules.specs.AdvanceRewind.{update_links_blocked, table_fault, entries_fault, Marked, marked_by}
use Rattle.link_rules.specs.declared.link_idx.LinkIdx.{LinkIdx}
use Rattle.link_rules.specs.declared.link_idx.TrainIdx.{TrainIdx}
use Rattle.link_rules.specs.declared.refusal.Refusal.{Refusal}
use Rattle.disp_structs.specs.Values.{is_arrive}
use Rattle.disp_structs.specs.declared.LinkEvent.{LinkEvent}
use Rattle.image.specs.Image.{est_count, path_count_of, node_place, node_at}
use Rattle.image_fault.specs.ImageFault.{arrived, is_accepted}
use Rattle.text.specs.Text.{written}
use Rattle.wide_occupancy.specs.WideOccupancy.{six_digits, large_train_fault}
use Rattle.yard_check.specs.Yard.{image_in, yard_fault}

-- ---- the candidate's image: the one in their slot

-- an Arrive link of the path
unfoldable pub is_arrive_link : (img : List ℕ) (l : LinkIdx) → Bool
is_arrive_link img l = arrived img l (path_count_of img)

-- ---- refusals; all have place 0

-- 26: no accepted image in the candidate's slot
abbrev pub candidate_fault : (tbl yard : List ℕ) (slot : ℕ) → Refusal
candidate_fault tbl yard slot = refused_unless (is_accepted (image_in yard slot) (link_count tbl)) 26

-- of both calls: 1, 2, 22, 14, 26
unfoldable pub sitting_fault : (tbl occ yard : List ℕ) (slot : ℕ) → Refusal
sitting_fault tbl occ yard slot =
    or_else (table_fault tbl)
    (or_else (entries_fault tbl (length occ))
    (or_else (large_train_fault six_digits occ no_train)
    (or_else (yard_fault yard)
    (candidate_fault tbl yard slot))))

-- 27: a node beyond the path
unfoldable pub view_fault : (tbl occ yard : List ℕ) (slot node : ℕ) → Refusal
view_fault tbl occ yard slot node = or_else (sitting_fault tbl occ yard slot) (refused_unless (ltb node (path_count_of (image_in yard slot))) 27)

-- 27: a link that is no Arrive link of the path
abbrev pub act_fault : (tbl occ yard : List ℕ) (slot : ℕ) (l : LinkIdx) → Refusal
act_fault tbl occ yard slot l = or_else (sitting_fault tbl occ yard slot) (refused_unless (is_arrive_link (image_in yard slot) l) 27)

unfoldable pub act_refusal : (tbl occ yard : List ℕ) (slot : ℕ) (l : LinkIdx) → ℕ
act_refusal tbl occ yard slot l = (act_fault tbl occ yard slot l).number

-- ---- view: a path record, and whether its link is taken

-- the 32 bytes of path record i
unfoldable pub node_bytes : (img : List ℕ) (i : ℕ) → List ℕ
node_bytes img i = take 32 (drop (node_place (est_count img) i) img)

-- as many of them as the buffer has room for, and behind them what it has there
abbrev pub shown : (img : List ℕ) (i : ℕ) (buffer : List ℕ) → List ℕ
shown img i buffer = (written (node_bytes img i) buffer).buffer

-- an Arrive on a link that some train holds, the candidate's own too
unfoldable pub link_taken : (occ : List ℕ) (e : LinkEvent) → Bool
link_taken occ e = is_arrive e.est_type && occupied occ e.link_idx

-- refused, or a refusal 0 and whether the record's link is taken
pub record Viewed : Type 0 where
  pub fault : Refusal
  pub taken : Bool

-- the answer, and the bytes that are left
pub record View : Type 0 where
  pub answer : Viewed
  pub bytes : List ℕ

abbrev pub seen : Viewed → List ℕ → View
seen v bs = record { answer = v; bytes = bs }

-- a refused view tells nothing and leaves the bytes
abbrev pub seen_by : (number : ℕ) (f : Refusal) (taken : Bool) (was left : List ℕ) → View
seen_by zero f taken was left = seen (record { fault = f; taken = taken }) left
seen_by (suc n) f taken was left = seen (record { fault = f; taken = false }) was

unfoldable pub view_of : (tbl occ yard : List ℕ) (slot node : ℕ) (buffer : List ℕ) → View
view_of tbl occ yard slot node buffer =
    let img = image_in yard slot in
    let f = view_fault tbl occ yard slot node in
    seen_by f.number f (link_taken occ (node_at img node).link_event) buffer (shown img node buffer)

-- what the code's answer and the bytes that it leaves are
abbrev pub seen_as : View → Result Bool Refusal → List ℕ → Type 0
seen_as v r bs = (r ≡ raised_with v.answer.fault v.answer.taken) × (bs ≡ v.bytes)

-- ---- act: a mark for the slot's own train, or a release of whoever holds the link

abbrev pub train_given : (slot : ℕ) (marks : Bool) → TrainIdx
train_given slot marks = cond marks (record { 0 = slot }) no_train

unfoldable pub act_of : (tbl occ yard : List ℕ) (slot : ℕ) (l : LinkIdx) (marks : Bool) → Marked
act_of tbl occ yard slot l marks = marked_by (act_refusal tbl occ yard slot l) occ (update_links_blocked tbl occ l (train_given slot marks))
