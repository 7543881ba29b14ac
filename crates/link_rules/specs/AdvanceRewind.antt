-- Marking and releasing a link (advance_rewind.rs 549-584), with refusals 1, 2 and 3. Assumes nothing.
use Rattle.std.specs.Prelude.{ℕ, zero, suc, Bool, cond, not, ◌&&◌, List, [], ◌∷◌, length, ◌==◌, nat_lt}
use Rattle.link_rules.specs.LinkIdx.{no_train, same_train, entry_at, occupied, hold}
use Rattle.link_rules.specs.Refusals.{or_else, refused_unless, Answer, Done, Refused}
use Rattle.link_rules.specs.Network.{link_count, link_at, table_fits}
use Rattle.link_rules.specs.declared.link_idx.LinkIdx.{LinkIdx}
use Rattle.link_rules.specs.declared.link_idx.TrainIdx.{TrainIdx}
use Rattle.link_rules.specs.declared.refusal.Refusal.{Refusal}

-- each of some links is given the train (559-561)
unfoldable pub hold_all : (occ : List ℕ) (ls : List LinkIdx) (t : TrainIdx) → List ℕ
hold_all occ [] t = occ
hold_all occ (l ∷ ls) t = hold_all (hold occ l t) ls t

-- l takes the train of the first of its lockouts that is held (576-582)
unfoldable pub refilled : (occ : List ℕ) (l : LinkIdx) (ls : List LinkIdx) → List ℕ
refilled occ l [] = occ
refilled occ l (a ∷ rest) = let later = refilled occ l rest in cond (occupied occ a) (hold occ l (entry_at occ a)) later

-- reset_link_train_idx (573-584): not from a list of one
unfoldable pub reset_link_train_idx : (tbl occ : List ℕ) (l : LinkIdx) → List ℕ
reset_link_train_idx tbl occ l = cond (nat_lt 1 (length (link_at tbl l).link_idxs_lockout)) (refilled occ l (link_at tbl l).link_idxs_lockout) occ

-- one after the other, each on what the one before it left
unfoldable pub reset_all : (tbl occ : List ℕ) (ls : List LinkIdx) → List ℕ
reset_all tbl occ [] = occ
reset_all tbl occ (l ∷ ls) = reset_all tbl (reset_link_train_idx tbl occ l) ls

-- update_links_blocked (550-570): the flip and each lockout are given the train, not the link itself;
-- train 0 releases: they are reset after that, in the same order
unfoldable pub update_links_blocked : (tbl occ : List ℕ) (l : LinkIdx) (t : TrainIdx) → List ℕ
update_links_blocked tbl occ l t =
    let ls = (link_at tbl l).idx_flip ∷ (link_at tbl l).link_idxs_lockout in
    let held = hold_all occ ls t in
    let reset = reset_all tbl held ls in
    cond (same_train t no_train) reset held

-- ---- mark or release (document 01, Operations)

-- 1: the table is not as laid out
abbrev pub table_fault : (tbl : List ℕ) → Refusal
table_fault tbl = refused_unless (table_fits tbl) 1

-- 2: an occupancy of length n has another length than the table has links
abbrev pub entries_fault : (tbl : List ℕ) (n : ℕ) → Refusal
entries_fault tbl n = refused_unless (n == link_count tbl) 2

-- 3: link 0, or none of the table's
unfoldable pub is_link : (tbl : List ℕ) (l : LinkIdx) → Bool
is_link tbl l = not (l.0 == 0) && nat_lt l.0 (link_count tbl)

abbrev pub link_fault : (tbl : List ℕ) (l : LinkIdx) → Refusal
link_fault tbl l = refused_unless (is_link tbl l) 3

-- the first of them, for an occupancy of length n; all have place 0
unfoldable pub mark_refusal : (tbl : List ℕ) (n : ℕ) (l : LinkIdx) → ℕ
mark_refusal tbl n l = (or_else (table_fault tbl) (or_else (entries_fault tbl n) (link_fault tbl l))).number

-- the same of a table that is judged already: fits says whether it is accepted
abbrev pub fault_judged : (fits : Bool) (tbl : List ℕ) (n : ℕ) (l : LinkIdx) → Refusal
fault_judged fits tbl n l = or_else (refused_unless fits 1) (or_else (entries_fault tbl n) (link_fault tbl l))

unfoldable pub refusal_judged : (fits : Bool) (tbl : List ℕ) (n : ℕ) (l : LinkIdx) → ℕ
refusal_judged fits tbl n l = (fault_judged fits tbl n l).number

-- the answer, and the occupancy that is left
pub record Marked : Type 0 where
  pub answer : Answer
  pub occupancy : List ℕ

abbrev pub marked : (r : Answer) (occ : List ℕ) → Marked
marked r occ = record { answer = r; occupancy = occ }

-- a refusal has place 0 and leaves the occupancy
abbrev pub marked_by : (n : ℕ) (was left : List ℕ) → Marked
marked_by zero was left = marked Done left
marked_by (suc n) was left = marked (Refused (record { number = suc n; place = 0 })) was

unfoldable pub mark_of : (tbl occ : List ℕ) (l : LinkIdx) (t : TrainIdx) → Marked
mark_of tbl occ l t = marked_by (mark_refusal tbl (length occ) l) occ (update_links_blocked tbl occ l t)

-- over a table that is judged already
unfoldable pub mark_judged : (fits : Bool) (tbl occ : List ℕ) (l : LinkIdx) (t : TrainIdx) → Marked
mark_judged fits tbl occ l t = marked_by (refusal_judged fits tbl (length occ) l) occ (update_links_blocked tbl occ l t)
