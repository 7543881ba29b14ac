-- The link table (document 01, Layouts) and refusal 1. Assumes nothing.
use Rattle.std.specs.Prelude.{ℕ, zero, suc, ◌+◌, ◌*◌, Bool, true, ◌&&◌, List, [], ◌∷◌, length, ◌==◌, nat_le, nat_lt}
use Rattle.link_rules.specs.Octets.{le_at}
use Rattle.link_rules.specs.declared.link_idx.LinkIdx.{LinkIdx}

-- ---- header: u32 size, L, K, offset of lockouts

abbrev pub table_size : List ℕ → ℕ
table_size tbl = le_at 4 tbl 0

-- L
abbrev pub link_count : List ℕ → ℕ
link_count tbl = le_at 4 tbl 4

-- K
abbrev pub lockout_count : List ℕ → ℕ
lockout_count tbl = le_at 4 tbl 8

abbrev pub lockout_offset : List ℕ → ℕ
lockout_offset tbl = le_at 4 tbl 12

-- ---- the record of link l: u32 flip, start, count; and the lockout of index j

abbrev pub flip_at : (tbl : List ℕ) (l : ℕ) → ℕ
flip_at tbl l = le_at 4 tbl (16 + 12 * l)

abbrev pub start_at : (tbl : List ℕ) (l : ℕ) → ℕ
start_at tbl l = le_at 4 tbl (20 + 12 * l)

abbrev pub count_at : (tbl : List ℕ) (l : ℕ) → ℕ
count_at tbl l = le_at 4 tbl (24 + 12 * l)

abbrev pub lockout_at : (tbl : List ℕ) (j : ℕ) → ℕ
lockout_at tbl j = le_at 4 tbl (16 + 12 * link_count tbl + 4 * j)

-- ---- Link (network.rs): of its fields idx_flip and link_idxs_lockout

pub record Link : Type 0 where
  pub idx_flip : LinkIdx
  pub link_idxs_lockout : List LinkIdx

-- n lockouts from index j on
unfoldable pub lockouts : (tbl : List ℕ) (n j : ℕ) → List LinkIdx
lockouts tbl zero j = []
lockouts tbl (suc n) j = record { 0 = lockout_at tbl j } ∷ lockouts tbl n (j + 1)

-- links[l]
abbrev pub link_at : List ℕ → LinkIdx → Link
link_at tbl l =
    record {
      idx_flip = record { 0 = flip_at tbl l.0 };
      link_idxs_lockout = lockouts tbl (count_at tbl l.0) (start_at tbl l.0);
    }

-- ---- refusal 1

-- every number below n passes
unfoldable pub all_below : ℕ → (ℕ → Bool) → Bool
all_below zero test = true
all_below (suc n) test = all_below n test && test n

-- L from 2 to 4,000, K to 4,096, the parts without gaps, the size that of the whole buffer
unfoldable pub header_fits : List ℕ → Bool
header_fits tbl =
    nat_le 2 (link_count tbl) && (nat_le (link_count tbl) 4000 && (nat_le (lockout_count tbl) 4096 && (lockout_offset tbl == 16 + 12 * link_count tbl
    && (table_size tbl == 16 + 12 * link_count tbl + 4 * lockout_count tbl && table_size tbl == length tbl))))

-- the flip is a link, and the lockouts lie in the list
unfoldable pub record_fits : (tbl : List ℕ) (l : ℕ) → Bool
record_fits tbl l = nat_lt (flip_at tbl l) (link_count tbl) && nat_le (start_at tbl l + count_at tbl l) (lockout_count tbl)

-- the lockout is a link
unfoldable pub lockout_fits : (tbl : List ℕ) (j : ℕ) → Bool
lockout_fits tbl j = nat_lt (lockout_at tbl j) (link_count tbl)

-- a table that is not refused by 1
unfoldable pub table_fits : List ℕ → Bool
table_fits tbl = header_fits tbl && (all_below (link_count tbl) (record_fits tbl) && all_below (lockout_count tbl) (lockout_fits tbl))
