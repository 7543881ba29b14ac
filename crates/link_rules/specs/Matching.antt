-- Matching (document 01) of link tables, occupancies and answers of mark: p renumbers links, q trains. Assumes nothing.
use Rattle.std.specs.Prelude.{◌≡◌, ℕ, ◌<◌, List, map, length}
use Rattle.link_rules.specs.LinkIdx.{entry_at}
use Rattle.link_rules.specs.Network.{Link, link_count, link_at}
use Rattle.link_rules.specs.AdvanceRewind.{Marked}
use Rattle.link_rules.specs.Renumbering.{r_link, r_train}
use Rattle.link_rules.specs.declared.link_idx.LinkIdx.{LinkIdx}

-- the renumbered flip, and the renumbered lockouts in the same order
abbrev pub r_record : (ℕ → ℕ) → Link → Link
r_record p k = record { idx_flip = r_link p k.idx_flip; link_idxs_lockout = map (r_link p) k.link_idxs_lockout }

-- for each link, 0 included; where the lockouts lie may differ
pub record TablesMatch (p : ℕ → ℕ) (tbl tbl' : List ℕ) : Type 0 where
  pub count : link_count tbl' ≡ link_count tbl
  pub each : (l : LinkIdx) → l.0 < link_count tbl → link_at tbl' (r_link p l) ≡ r_record p (link_at tbl l)

-- the renumbered link's entry is the renumbered train
pub record OccupanciesMatch (p q : ℕ → ℕ) (occ occ' : List ℕ) : Type 0 where
  pub long : length occ' ≡ length occ
  pub entry : (l : LinkIdx) → l.0 < length occ → entry_at occ' (r_link p l) ≡ r_train q (entry_at occ l)

-- refused in both with the same number and place, or done in both; and the occupancies that are left
pub record MarksMatch (p q : ℕ → ℕ) (a b : Marked) : Type 0 where
  pub answer : b.answer ≡ a.answer
  pub occupancies : OccupanciesMatch p q a.occupancy b.occupancy
