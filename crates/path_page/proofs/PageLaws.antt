-- The page: each line has 39 columns and a line end, an accepted image's numbers fit their columns, and the two rules give the same page but for exact halves. Assumes nothing.
use mathlib.Core.Path.{◌≡◌, refl, sym, ap, ap₂, ◌∙◌}
use mathlib.Core.Bool.{Bool, true, false}
use mathlib.Core.List.{List, [], ◌∷◌, ◌++◌, append_assoc}
use Prim.Native.Nat.{ℕ, zero, suc, ◌+◌, ◌*◌, ◌%◌, ◌≤◌, ◌<◌}
use native.Mathlib.Numerals.{add-one}
use native.Mathlib.Omega.{arith}
use lib.Dec.{ltb, leb, eqb}
use lib.ListN.{length, get_or, take, drop, length-append, length-drop}
use lib.Seq.{get_or_at, drop_at, take_all, drop-append-le, take-append-le}
use borrow.Author.Tests.{eqb-true, eqb-false, eq-eqb, ne_eqb, lt-ltb, le-ltb, ltb-true, ltb-false, leb-true, leb-false}
use Rattle.link_rules.specs.Octets.{le_at}
use Rattle.disp_structs.specs.Floats.{in_reach}
use Rattle.disp_structs.specs.Listed.{listed}
use Rattle.disp_structs.specs.declared.DispNode.{DispNode}
use Rattle.disp_structs.specs.declared.EstType.{EstType}
use Rattle.disp_structs.specs.declared.EstType.TheVariants.{Arrive, Clear, Fake}
use Rattle.image.specs.Image.{est_count, path_count_of, node_place, node_from, node_at}
use Rattle.image_fault.specs.ImageFault.{float_fits, fault_with}
use Rattle.image_fault.specs.declared.Widths.TheVariants.{Either}
use Rattle.image_fault.specs.CodeFacts.{CountsFit}
use Rattle.link_rules.specs.Refusals.{refused, no_refusal, Done, Refused, refuse_unless}
use Rattle.link_rules.specs.declared.refusal.Refusal.{Refusal}
use Rattle.image_fault.proofs.AcceptLaws.{accepted_in, fits-counts, node-fits, clean_node, clean_link}
use Rattle.link_rules.proofs.TableLaws.{both}
use Rattle.text.specs.Ascii.{ascii, decimal, signed, line_end}
use Rattle.text.specs.Columns.{signed_in, right_in}
use Rattle.text.specs.Text.{Text, text_of, Put}
use Rattle.text.proofs.ColumnLaws.{padded, signed-length, right_is, with_sign}
use Rattle.text.proofs.TextLaws.{then, put_is, nothing, from_start, written_all}
use Rattle.path_page.specs.Metres.{is_half, whole_metres}
use Rattle.path_page.specs.Page.{most_links, field, kind_field, before_link, after_link, line_of, page_lines, page_fault, printed, page_after}
use Rattle.path_page.specs.declared.metres.Ties.{Ties}
use Rattle.path_page.specs.declared.metres.Ties.TheVariants.{Away, Even}
use Rattle.path_page.specs.declared.metres.WholeMetres.{WholeMetres}
use Rattle.path_page.proofs.MetresLaws.{metres_most, whole_agree}

-- ---- 39 columns and a line end

kind_length : (k : EstType) → length (kind_field k) ≡ 7
unfolding ascii listed
kind_length Arrive = refl
kind_length Clear = refl
kind_length Fake = refl

-- the line of a node whose offset in whole metres is w, field by field
pub fields : (i : ℕ) (x : DispNode) (w : WholeMetres)
    → before_link i x ++ (right_in 5 x.link_event.link_idx.0 ++ after_link w)
    ≡ field i ++ (field x.est_idx.0 ++ (kind_field x.link_event.est_type ++ (field x.link_event.link_idx.0 ++ (signed_in 14 w.minus w.metres ++ line_end))))
fields i x w = simp append_assoc

module _ (t : Ties) (i : ℕ) (x : DispNode) where
  abbrev metres : WholeMetres
  metres = whole_metres t x.offset.0

  -- a line without its end
  abbrev pub columns : List ℕ
  columns = before_link i x ++ (right_in 5 x.link_event.link_idx.0 ++ (32 ∷ signed_in 14 metres.minus metres.metres))

  pub line_ends : line_of t i x ≡ columns ++ line_end
  unfolding line_of
  line_ends = simp append_assoc

  pub columns_length : length columns ≡ 39
  columns_length =
      simp length-append
      (omega (
        arith,
        signed-length 5 false i,
        signed-length 5 false x.est_idx.0,
        kind_length x.link_event.est_type,
        signed-length 5 false x.link_event.link_idx.0,
        signed-length 14 metres.minus metres.metres,
      ))

  pub line_length : length (line_of t i x) ≡ 40
  line_length = ap length line_ends ∙ (length-append columns line_end ∙ omega (arith, columns_length))

  pub line-end : get_or (line_of t i x) 39 0 ≡ 10
  line-end = ap (λ (l : List ℕ). get_or l 39 0) line_ends ∙ get_or_at columns 10 [] 0 39 columns_length

-- as the code has them: a node, and its offset in whole metres
pub line_by : (t : Ties) (i : ℕ) (x y : DispNode) (w : WholeMetres) → y ≡ x → w ≡ whole_metres t y.offset.0
    → line_of t i x ≡ before_link i y ++ (right_in 5 y.link_event.link_idx.0 ++ after_link w)
unfolding line_of
line_by t i x y w e f =
    sym (ap (line_of t i) e) ∙ ap (λ (v : WholeMetres). before_link i y ++ (right_in 5 y.link_event.link_idx.0 ++ after_link v)) (sym f)

-- ---- the lines of a page

module _ (t : Ties) (node : ℕ → DispNode) where
  pub lines_none : {u : Text} → Put (page_lines t node 0) u u
  unfolding page_lines
  lines_none = nothing

  lines_more : (n : ℕ) → page_lines t node (suc n) ≡ page_lines t node n ++ line_of t n (node n)
  unfolding page_lines
  lines_more n = refl

  pub lines_turn : (i : ℕ) {u v w : Text} → Put (page_lines t node i) u v → Put (line_of t i (node i)) v w → Put (page_lines t node (i + 1)) u w
  lines_turn i p q = put_is (ap (page_lines t node) (add-one i) ∙ lines_more i) (then p q)

  pub lines_length : (n : ℕ) → length (page_lines t node n) ≡ 40 * n
  unfolding page_lines
  lines_length zero = refl
  lines_length (suc n) = length-append (page_lines t node n) (line_of t n (node n)) ∙ omega (arith, lines_length n, line_length t n (node n))

  -- the line of node i stands at 40 i
  pub line_at : (n i : ℕ) → i < n → take 40 (drop (40 * i) (page_lines t node n)) ≡ line_of t i (node i)
  line_at zero i h = absurd (omega arith)
  line_at (suc n) i h = go (ltb i n) refl (line_at n i)
    where
      go : (b : Bool) → ltb i n ≡ b → (i < n → take 40 (drop (40 * i) (page_lines t node n)) ≡ line_of t i (node i)) → take 40 (drop (40 * i) (page_lines t node (suc n))) ≡ line_of t i (node i)
      go true e r =
          let l = ltb-true i n e in
          let k = lines_length n in
          let room : 40 ≤ length (drop (40 * i) (page_lines t node n)) = omega (arith, length-drop (40 * i) (page_lines t node n)) in
          ap (λ (xs : List ℕ). take 40 (drop (40 * i) xs)) (lines_more n)
          ∙ (ap (take 40) (drop-append-le (40 * i) (page_lines t node n) (line_of t n (node n)) (omega arith))
          ∙ (take-append-le 40 (drop (40 * i) (page_lines t node n)) (line_of t n (node n)) room ∙ r l))
      go false e r =
          let l = ltb-false i n e in
          let same : i ≡ n = omega arith in
          rw same
          (ap (λ (xs : List ℕ). take 40 (drop (40 * n) xs)) (lines_more n)
          ∙ (ap (take 40) (drop_at (page_lines t node n) (line_of t n (node n)) (40 * n) (lines_length n))
          ∙ take_all 40 (line_of t n (node n)) (omega (arith, line_length t n (node n)))))

  -- put in from the start, where there is room
  pub lines_put : (n : ℕ) (page : List ℕ) {u : Text} → 40 * n ≤ length page → Put (page_lines t node n) (text_of 0 page) u → u.buffer ≡ printed t node n page
  lines_put n page h p =
      ap (λ (u : Text). u.buffer) (from_start (page_lines t node n) page p)
      ∙ (written_all (page_lines t node n) page (omega (arith, lines_length n)) ∙ ap (λ (k : ℕ). page_lines t node n ++ drop k page) (lines_length n))

-- ---- refusals

module _ (t : Ties) (img page : List ℕ) where
  pub image-refused : ((fault_with Either no_refusal img most_links).number ≡ 0 → ⊥) → page_fault img page ≡ fault_with Either no_refusal img most_links
  unfolding page_fault
  image-refused h = rw (ne_eqb (fault_with Either no_refusal img most_links).number 0 h)

  pub too_short : (fault_with Either no_refusal img most_links).number ≡ 0 → length page < 40 * path_count_of img → page_fault img page ≡ refused 18 0
  unfolding page_fault
  too_short z h = rw (eq-eqb (fault_with Either no_refusal img most_links).number 0 z, lt-ltb (length page) (40 * path_count_of img) h)

  pub not-refused : (fault_with Either no_refusal img most_links).number ≡ 0 → 40 * path_count_of img ≤ length page → page_fault img page ≡ no_refusal
  unfolding page_fault
  not-refused z h = rw (eq-eqb (fault_with Either no_refusal img most_links).number 0 z, le-ltb (length page) (40 * path_count_of img) h)

  -- a refused call leaves the page
  pub stays : (f : Refusal) → page_fault img page ≡ f → (f.number ≡ 0 → ⊥) → page ≡ page_after t img page
  unfolding page_after
  stays f e h = rw (ne_eqb (page_fault img page).number 0 (λ k. h (sym (ap (λ (g : Refusal). g.number) e) ∙ k)), page_after)

  pub done : (page_fault img page).number ≡ 0 → printed t (node_at img) (path_count_of img) page ≡ page_after t img page
  unfolding page_after
  done e = rw (eq-eqb (page_fault img page).number 0 e, page_after)

  pub image-accepted : (page_fault img page).number ≡ 0 → (fault_with Either no_refusal img most_links).number ≡ 0
  image-accepted z = go (eqb (fault_with Either no_refusal img most_links).number 0) refl
    where
      go : (b : Bool) → eqb (fault_with Either no_refusal img most_links).number 0 ≡ b → (fault_with Either no_refusal img most_links).number ≡ 0
      go true e = eqb-true (fault_with Either no_refusal img most_links).number 0 e
      go false e = sym (ap (λ (f : Refusal). f.number) (image-refused (eqb-false (fault_with Either no_refusal img most_links).number 0 e))) ∙ z

  -- where nothing is refused, the page has room for the lines
  pub lines_room : (page_fault img page).number ≡ 0 → 40 * path_count_of img ≤ length page
  lines_room z = go (ltb (length page) (40 * path_count_of img)) refl
    where
      go : (b : Bool) → ltb (length page) (40 * path_count_of img) ≡ b → 40 * path_count_of img ≤ length page
      go true e =
          let n : ◌≡◌ {A = ℕ} 18 0 = sym (ap (λ (f : Refusal). f.number) (too_short (image-accepted z) (ltb-true (length page) (40 * path_count_of img) e))) ∙ z in
          absurd (omega arith)
      go false e = ltb-false (length page) (40 * path_count_of img) e

-- ---- the test of the room, as an answer

pub room_true : (need room : ℕ) → refuse_unless (leb need room) 18 ≡ Done → need ≤ room
room_true need room h = go (leb need room) refl h
  where
    go : (t : Bool) → leb need room ≡ t → refuse_unless t 18 ≡ Done → need ≤ room
    go true e h = leb-true need room e
    go false e h = cc

pub room_false : (need room : ℕ) (f : Refusal) → refuse_unless (leb need room) 18 ≡ Refused f → (room < need) × (refused 18 0 ≡ f)
room_false need room f h = go (leb need room) refl h
  where
    go : (t : Bool) → leb need room ≡ t → refuse_unless t 18 ≡ Refused f → (room < need) × (refused 18 0 ≡ f)
    go true e h = cc
    go false e h = (leb-false need room e, cc)

-- ---- the numbers of an accepted image fit their columns

five : (n : ℕ) → n < 100000 → right_in 5 n ≡ padded 5 (decimal n)
five n h = right_is 4 n h

fourteen : (minus : Bool) (n : ℕ) → n ≤ 1000000000000 → signed_in 14 minus n ≡ padded 14 (signed minus n)
fourteen minus n h = with_sign 12 minus n (let k : n < 10000000000000 = omega arith in k)

module _ (img : List ℕ) (ok : (fault_with Either no_refusal img most_links).number ≡ 0) where
  counts : CountsFit img
  counts = fits-counts img (accepted_in Either img most_links ok).fits

  module _ (i : ℕ) (h : i < path_count_of img) where
    abbrev x : DispNode
    x = node_at img i

    pub offset_reached : in_reach x.offset.0 ≡ true
    unfolding node_from float_fits
    offset_reached =
        let b = le_at 8 img (node_place (est_count img) i) in
        (both (leb (b % 0x8000_0000_0000_0000) 0x7ff0_0000_0000_0000) _ (node-fits img most_links i (clean_node img most_links (accepted_in Either img most_links ok).values i h)).offset).1

    link-below : x.link_event.link_idx.0 < 100000
    link-below = omega (arith, clean_link img most_links (accepted_in Either img most_links ok).values i h)

    est-below : x.est_idx.0 < 100000
    est-below = omega (arith, counts.few-est, (node-fits img most_links i (clean_node img most_links (accepted_in Either img most_links ok).values i h)).est)

    node-below : i < 100000
    node-below = omega (arith, counts.few-path, counts.few-est)

    -- each number of a line is its decimal with blanks before it, and nothing is cut off
    pub line-is : (t : Ties)
        → line_of t i x
        ≡ padded 5 (decimal i)
        ++ (32 ∷ (padded 5 (decimal x.est_idx.0)
        ++ (32 ∷ (kind_field x.link_event.est_type
        ++ (padded 5 (decimal x.link_event.link_idx.0)
        ++ (32 ∷ (padded 14 (signed (whole_metres t x.offset.0).minus (whole_metres t x.offset.0).metres) ++ line_end)))))))
    unfolding line_of whole_metres
    line-is t =
        let w = whole_metres t x.offset.0 in
        let most : w.metres ≤ 1000000000000 = metres_most t x.offset.0 offset_reached in
        rw (five i node-below, five x.est_idx.0 est-below, five x.link_event.link_idx.0 link-below, fourteen w.minus w.metres most)
        (simp append_assoc)

-- ---- under the two rules the pages differ at exact halves alone

line_agree : (i : ℕ) (x : DispNode) → is_half x.offset.0 ≡ false → line_of Away i x ≡ line_of Even i x
unfolding line_of
line_agree i x h = ap (λ (w : WholeMetres). before_link i x ++ (right_in 5 x.link_event.link_idx.0 ++ after_link w)) (whole_agree x.offset.0 h)

pub pages_agree : (node : ℕ → DispNode) (n : ℕ) → ((i : ℕ) → i < n → is_half (node i).offset.0 ≡ false) → page_lines Away node n ≡ page_lines Even node n
unfolding page_lines
pages_agree node zero h = refl
pages_agree node (suc n) h = ap₂ (λ (xs ys : List ℕ). xs ++ ys) (pages_agree node n (λ i k. h i (omega arith))) (line_agree n (node n) (h n (omega arith)))
