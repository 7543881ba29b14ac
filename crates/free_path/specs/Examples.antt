-- The table of examples of document 01, P1 to P12. ExampleLaws.examples shows by computation that each row holds. Assumes nothing.
use Rattle.std.specs.Prelude.{◌≡◌, ℕ, ◌+◌, ◌*◌, ◌/◌, ◌%◌, Bool, true, false, List, [], ◌∷◌, ◌++◌, length, from_bits}
use Rattle.std.specs.Float.{binary64}
use Rattle.link_rules.specs.LinkIdx.{no_train}
use Rattle.link_rules.specs.AdvanceRewind.{marked, mark_of}
use Rattle.link_rules.specs.Refusals.{Done}
use Rattle.disp_structs.specs.Floats.{near_float}
use Rattle.disp_structs.specs.Values.{view}
use Rattle.disp_structs.specs.declared.TrainIdxsView.{TrainIdxsView}
use Rattle.free_path.specs.Base.{ok}
use Rattle.free_path.specs.LinkOptType.{contains, link_opt_type_of}
use Rattle.free_path.specs.TrainIdxsView.{concat_train_idx_views}
use Rattle.free_path.specs.Columns.{link, links, trains}
use Rattle.free_path.specs.declared.link_opt_type.LinkOptType.{LinkOptType}
use Rattle.free_path.specs.declared.link_opt_type.LinkOptType.TheVariants.{None, Single, Range, Check}

-- u32 numbers in octets
abbrev pub octets : List ℕ → List ℕ
octets [] = []
octets (w ∷ ws) = w % 256 ∷ (w / 256 % 256 ∷ (w / 65536 % 256 ∷ (w / 16777216 % 256 ∷ octets ws)))

-- a link table of eight links: 4 flips to 7 and locks 5, and 5 locks some; the others flip to 0 and lock nothing
abbrev pub table_of : List ℕ → List ℕ
table_of some = octets ((116 + 4 * length some) ∷ 8 ∷ (1 + length some) ∷ 112 ∷ (records ++ (5 ∷ some)))
  where
    records : List ℕ
    records = 0 ∷ 0 ∷ 0 ∷ 0 ∷ 0 ∷ 0 ∷ 0 ∷ 0 ∷ 0 ∷ 0 ∷ 0 ∷ 0 ∷ 7 ∷ 0 ∷ 1 ∷ 0 ∷ 1 ∷ length some ∷ 0 ∷ 0 ∷ 0 ∷ 0 ∷ 0 ∷ 0 ∷ []

-- what an example computes, and its answer
pub data Example : Type 0 where
  -- the class of a blocking list, where a path has these Arrive links
  class : (path list : List ℕ) → LinkOptType → Example
  -- the union of two views of a pool: the pool after it, and its view
  union : (pool : List ℕ) → (v w : TrainIdxsView) → (after : List ℕ) → TrainIdxsView → Example
  -- the release of link 4 over such a table: what 5 locks, and the occupancy before and after it
  release : (some occupancy after : List ℕ) → Example
  -- near, of two bit patterns
  near : (a b : ℕ) → Bool → Example

abbrev pub Holds : Example → Type 0
Holds (class path list c) = link_opt_type_of (links list) (contains (links path)) ≡ c
Holds (union pool v w after made) = concat_train_idx_views (trains pool) v w ≡ ok (record { pool = trains after; made = made })
Holds (release some occ after) = mark_of (table_of some) occ (link 4) no_train ≡ marked Done after
Holds (near a b answer) = near_float (from_bits binary64 a) (from_bits binary64 b) ≡ answer

abbrev pub AllHold : List (ℕ × Example) → Type 0
AllHold [] = Unit {0}
AllHold (row ∷ rows) = Holds row.1 × AllHold rows

-- the number of each row is document 01's
abbrev pub table : List (ℕ × Example)
table =
    (1, class (3 ∷ 5 ∷ []) [] None)
    ∷ (2, class (3 ∷ 5 ∷ []) (5 ∷ []) (Single (link 5)))
    ∷ (3, class (3 ∷ 5 ∷ []) (5 ∷ 5 ∷ []) (Range 5 0))
    ∷ (4, class (3 ∷ 19 ∷ []) (3 ∷ 19 ∷ []) (Range 3 16))
    ∷ (5, class (3 ∷ 20 ∷ []) (3 ∷ 20 ∷ []) Check)
    ∷ (6, class (3 ∷ []) (7 ∷ []) None)
    ∷ (7, union (0 ∷ 4 ∷ 7 ∷ []) (view 1 2) (view 2 3) (0 ∷ 4 ∷ 7 ∷ 4 ∷ []) (view 2 4))
    ∷ (8, union (0 ∷ 4 ∷ 4 ∷ []) (view 1 2) (view 2 3) (0 ∷ 4 ∷ 4 ∷ []) (view 2 3))
    ∷ (9, release (4 ∷ 6 ∷ []) (0 ∷ 0 ∷ 0 ∷ 0 ∷ 0 ∷ 0 ∷ 9 ∷ 0 ∷ []) (0 ∷ 0 ∷ 0 ∷ 0 ∷ 0 ∷ 9 ∷ 9 ∷ 0 ∷ []))
    ∷ (10, release (6 ∷ []) (0 ∷ 0 ∷ 0 ∷ 0 ∷ 0 ∷ 0 ∷ 9 ∷ 0 ∷ []) (0 ∷ 0 ∷ 0 ∷ 0 ∷ 0 ∷ 0 ∷ 9 ∷ 0 ∷ []))
    -- near(1000000, 1000000.0078125), near(0, 1e-8)
    ∷ (11, near 0x412e_8480_0000_0000 0x412e_8480_0400_0000 true)
    ∷ (12, near 0 0x3e45_798e_e230_8c3a false)
    ∷ []
