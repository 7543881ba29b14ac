-- Occupancies of u32 entries (change request Q-6): refusal 22, and mark or release over them. Assumes nothing.
use Rattle.std.specs.Prelude.{ℕ, max, List, [], ◌∷◌, leb, length}
use Rattle.link_rules.specs.Refusals.{or_else, refused_unless}
use Rattle.link_rules.specs.AdvanceRewind.{update_links_blocked, table_fault, entries_fault, link_fault, Marked, marked_by}
use Rattle.link_rules.specs.declared.link_idx.LinkIdx.{LinkIdx}
use Rattle.link_rules.specs.declared.link_idx.TrainIdx.{TrainIdx}
use Rattle.link_rules.specs.declared.refusal.Refusal.{Refusal}

-- the largest of the entries; 0 where there is none
unfoldable pub largest : List ℕ → ℕ
largest [] = 0
largest (x ∷ xs) = max x (largest xs)

-- the largest train of six digits
abbrev pub six_digits : ℕ
six_digits = 999999

-- 22: the train, or one of the occupancy, is above top
abbrev pub large_train_fault : (top : ℕ) (occ : List ℕ) (t : TrainIdx) → Refusal
large_train_fault top occ t = refused_unless (leb (max t.0 (largest occ)) top) 22

-- 1, 2 and 3 as over u16 entries, then 22; all have place 0
abbrev pub mark_wide_fault : (tbl occ : List ℕ) (l : LinkIdx) (t : TrainIdx) → Refusal
mark_wide_fault tbl occ l t =
    or_else (table_fault tbl)
    (or_else (entries_fault tbl (length occ))
    (or_else (link_fault tbl l)
    (large_train_fault six_digits occ t)))

unfoldable pub mark_wide_refusal : (tbl occ : List ℕ) (l : LinkIdx) (t : TrainIdx) → ℕ
mark_wide_refusal tbl occ l t = (mark_wide_fault tbl occ l t).number

-- mark or release, the latter with train 0
unfoldable pub mark_wide_of : (tbl occ : List ℕ) (l : LinkIdx) (t : TrainIdx) → Marked
mark_wide_of tbl occ l t = marked_by (mark_wide_refusal tbl occ l t) occ (update_links_blocked tbl occ l t)
