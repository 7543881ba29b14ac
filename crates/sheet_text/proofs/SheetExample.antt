-- Sheets, computed: the example of document 01, an erred check, a refused check, and bundles that 17 refuses. Assumes nothing.
use mathlib.Core.Path.{◌≡◌, refl}
use mathlib.Core.List.{List, [], ◌∷◌, ◌++◌}
use Prim.Native.Nat.{ℕ}
use lib.ListN.{set, take, replicate}
use Rattle.yard_check.specs.Check.{row_from}
use Rattle.sheet_text.specs.Sheet.{parts_fit, bundle_fits, report_slots, checked_bundle, code_word, free_column, slot_line, slot_lines, check_lines, sheet_text}
use Rattle.text.specs.Ascii.{ascii, decimal_from}
use Rattle.yard_check.proofs.Siding.{words, everything}

-- train t, path Fake, Arrive and Clear on its own link; all distances and offsets 0, prev naming the node before
unfoldable slot : ℕ → List ℕ
slot t =
    words (
    264 ∷ 3 ∷ 3 ∷ 2 ∷ 2 ∷ 64 ∷ 160 ∷ 256 ∷ t ∷ 0 ∷ 0 ∷ 0 ∷ 0 ∷ 0 ∷ 0 ∷ 0 ∷
    0 ∷ 0 ∷ 1 ∷ 0 ∷ 0 ∷ 0 ∷ 0 ∷ 2 ∷
    0 ∷ 0 ∷ 2 ∷ 0 ∷ 0 ∷ 0 ∷ t ∷ 0 ∷
    0 ∷ 0 ∷ 0 ∷ 0 ∷ 1 ∷ 0 ∷ t ∷ 1 ∷
    0 ∷ 0 ∷ 0 ∷ 0 ∷ 0 ∷ 0 ∷ 131072 ∷ 0 ∷
    0 ∷ 0 ∷ 0 ∷ 0 ∷ t ∷ 1 ∷ 0 ∷ 0 ∷
    0 ∷ 0 ∷ 0 ∷ 0 ∷ t ∷ 2 ∷ 65536 ∷ 0 ∷
    0 ∷ 196608 ∷ [])

abbrev yard : List ℕ
yard = words (544 ∷ 2 ∷ 16 ∷ 280 ∷ []) ++ (slot 1 ++ slot 2)

-- three occupancy entries, link 1 held by train x; no blocking links; moved 2, begin 1, limit 1, local 0
abbrev bundle : ℕ → List ℕ
bundle x = words (582 ∷ 32 ∷ 3 ∷ 38 ∷ 0 ∷ 38 ∷ 65538 ∷ 1 ∷ []) ++ (0 ∷ 0 ∷ x ∷ 0 ∷ 0 ∷ 0 ∷ yard)

unfoldable sheets : ℕ
unfolding everything slot row_from parts_fit bundle_fits report_slots checked_bundle ascii decimal_from code_word free_column slot_line slot_lines check_lines sheet_text
sheets = 0

-- document 01's example
example : sheet_text (bundle 0) ≡ ascii "yard 2 deadlock no next 1\n1 success 1 0 0 0 0 0\n2 moved 0 0 0 0 0 0\n"
unfolding sheets
example = refl

-- link 1 is held: a stray before the round and after it, and one error
errs : sheet_text (bundle 9) ≡ ascii "yard 2 erred 1\n1 faulty 1 0 2 1 0 0\n2 moved 0 0 0 0 0 0\n"
unfolding sheets
errs = refl

-- the moved train is not a slot's: 15; the yard is empty: 14
slotless : sheet_text (set (bundle 0) 24 3) ≡ ascii "refused 15\n"
unfolding sheets
slotless = refl

empty : sheet_text (words (38 ∷ 32 ∷ 3 ∷ 38 ∷ 0 ∷ 38 ∷ 65538 ∷ 1 ∷ []) ++ replicate 6 0) ≡ ascii "refused 14\n"
unfolding sheets
empty = refl

-- 17: nothing at all; a byte too few; local 2
nothing : sheet_text [] ≡ ascii "refused 17\n"
unfolding sheets
nothing = refl

cut : sheet_text (take 581 (bundle 0)) ≡ ascii "refused 17\n"
unfolding sheets
cut = refl

local : sheet_text (set (bundle 0) 30 2) ≡ ascii "refused 17\n"
unfolding sheets
local = refl
