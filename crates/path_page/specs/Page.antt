-- The page of a path (requests Q-1, Q-8 and Q-6): refusals 6 to 9, 22 and 18, then a line of 39 columns and a line end for each node. Assumes nothing.
use Rattle.std.specs.Prelude.{ℕ, zero, suc, ◌*◌, true, false, cond, List, [], ◌∷◌, ◌++◌, ltb, eqb, length, drop}
use Rattle.disp_structs.specs.declared.DispNode.{DispNode}
use Rattle.disp_structs.specs.declared.EstType.{EstType}
use Rattle.disp_structs.specs.declared.EstType.TheVariants.{Arrive, Clear, Fake}
use Rattle.image.specs.Image.{path_count_of, node_at}
use Rattle.image_fault.specs.ImageFault.{fault_with}
use Rattle.image_fault.specs.declared.Widths.TheVariants.{Either}
use Rattle.link_rules.specs.Refusals.{or_else, refused, no_refusal}
use Rattle.link_rules.specs.declared.refusal.Refusal.{Refusal}
use Rattle.text.specs.Ascii.{ascii, line_end}
use Rattle.text.specs.Columns.{signed_in, right_in}
use Rattle.path_page.specs.Metres.{whole_metres}
use Rattle.path_page.specs.declared.metres.Ties.{Ties}
use Rattle.path_page.specs.declared.metres.Ties as Ties
use Rattle.path_page.specs.declared.metres.WholeMetres.{WholeMetres}

-- Q-8: halves go to the even metre
abbrev pub drawing_rule : Ties
drawing_rule = Ties.TheVariants.Even

-- the links of a call that has neither an occupancy nor an index
abbrev pub most_links : ℕ
most_links = 4000

-- ---- a line

-- to the right in 5 columns, and a blank
abbrev pub field : ℕ → List ℕ
field n = right_in 5 n ++ (32 ∷ [])

-- to the left in 6 columns, and a blank
abbrev pub kind_field : EstType → List ℕ
kind_field Arrive = ascii "Arrive "
kind_field Clear = ascii "Clear  "
kind_field Fake = ascii "Fake   "

-- node, est and kind of the i-th path record
abbrev pub before_link : ℕ → DispNode → List ℕ
before_link i x = field i ++ (field x.est_idx.0 ++ kind_field x.link_event.est_type)

-- the offset in 14 columns
abbrev pub after_link : WholeMetres → List ℕ
after_link w = 32 ∷ (signed_in 14 w.minus w.metres ++ line_end)

unfoldable pub line_of : Ties → ℕ → DispNode → List ℕ
line_of t i x = before_link i x ++ (right_in 5 x.link_event.link_idx.0 ++ after_link (whole_metres t x.offset.0))

-- ---- the page

-- of the first n nodes
unfoldable pub page_lines : Ties → (ℕ → DispNode) → ℕ → List ℕ
page_lines t node zero = []
page_lines t node (suc n) = page_lines t node n ++ line_of t n (node n)

-- 6 to 9 with their places, 22 at the end of 7, in images of either width; then 18
unfoldable pub page_fault : (img page : List ℕ) → Refusal
page_fault img page = or_else (fault_with Either no_refusal img most_links) (cond (ltb (length page) (40 * path_count_of img)) (refused 18 0) no_refusal)

-- the lines, and behind them what the page has there
abbrev pub printed : (t : Ties) (node : ℕ → DispNode) (n : ℕ) (page : List ℕ) → List ℕ
printed t node n page = page_lines t node n ++ drop (40 * n) page

-- a refused call leaves the page
unfoldable pub page_after : (t : Ties) (img page : List ℕ) → List ℕ
page_after t img page = let lines = printed t (node_at img) (path_count_of img) page in elim (eqb (page_fault img page).number 0) [ true ↦ lines | false ↦ page ]
