-- Pages of images that match (document 01): refused alike, and the lines are the same but for the link column, which is renumbered by p. Assumes nothing.
use mathlib.Core.Path.{◌≡◌, refl, sym, ap, ap₂, ◌∙◌}
use mathlib.Core.Bool.{cond, true}
use mathlib.Core.List.{List, ◌++◌}
use Prim.Native.Nat.{ℕ, zero, suc, ◌*◌, ◌-◌, ◌≤◌, ◌<◌}
use native.Mathlib.Omega.{arith}
use lib.Dec.{ltb}
use lib.ListN.{length, drop}
use Rattle.link_rules.specs.Renumbering.{Renumbering}
use Rattle.disp_structs.specs.Renumbered.{r_node}
use Rattle.disp_structs.specs.declared.DispNode.{DispNode}
use Rattle.image.specs.Image.{path_count_of, is_wide, largest_of, node_at}
use Rattle.image.specs.ImageMatch.{ImagesMatch}
use Rattle.image.proofs.MatchLaws.{path-count, node_match}
use Rattle.link_rules.specs.Refusals.{or_else, refused, no_refusal}
use Rattle.link_rules.specs.declared.refusal.Refusal.{Refusal}
use Rattle.image_fault.specs.declared.Widths.TheVariants.{Either}
use Rattle.image_fault.proofs.AcceptLaws.{accepted_in, fits-counts}
use Rattle.image_fault.proofs.MatchLaws as Match
use Rattle.text.specs.Columns.{right_in}
use Rattle.path_page.specs.Metres.{whole_metres}
use Rattle.path_page.specs.Page.{most_links, before_link, after_link, line_of, page_lines, page_fault, printed, page_after}
use Rattle.path_page.specs.declared.metres.Ties.{Ties}
use Rattle.path_page.proofs.PageLaws.{stays, done, image-accepted}

-- the line of a renumbered node
pub line_renumbered : (t : Ties) (p : ℕ → ℕ) (i : ℕ) (x : DispNode)
    → line_of t i (r_node p x) ≡ before_link i x ++ (right_in 5 (p x.link_event.link_idx.0) ++ after_link (whole_metres t x.offset.0))
unfolding line_of
line_renumbered t p i x = refl

lines_same : (t : Ties) (f g : ℕ → DispNode) (n : ℕ) → ((i : ℕ) → i < n → f i ≡ g i) → page_lines t f n ≡ page_lines t g n
unfolding page_lines
lines_same t f g zero h = refl
lines_same t f g (suc n) h = ap₂ (λ (xs ys : List ℕ). xs ++ ys) (lines_same t f g n (λ i k. h i (omega arith))) (ap (line_of t n) (h n (omega arith)))

-- trains of a wide image are renumbered within those that 22 lets pass
module _ (p q : ℕ → ℕ) (top : ℕ) (rp : Renumbering (most_links - 1) p) (rq : Renumbering top q) (img img' : List ℕ) (few : is_wide img ≡ true → top ≤ largest_of true)
    (m : ImagesMatch p q img img') (page : List ℕ) where
  same_count : path_count_of img' ≡ path_count_of img
  same_count = path-count p q img img' m

  pub fault_match : page_fault img' page ≡ page_fault img page
  unfolding page_fault
  fault_match =
      ap₂ (λ (f : Refusal) (n : ℕ). or_else f (cond (ltb (length page) (40 * n)) (refused 18 0) no_refusal)) (Match.fault_match p q most_links top rp rq img img' m Either no_refusal (λ e. few)) same_count

  abbrev renumbered : ℕ → DispNode
  renumbered i = r_node p (node_at img i)

  -- the second page is that of the first path's renumbered nodes
  pub page_match : (t : Ties) → (page_fault img page).number ≡ 0 → page_after t img' page ≡ printed t renumbered (path_count_of img) page
  page_match t ok =
      let n = (fits-counts img (accepted_in Either img most_links (image-accepted t img page ok)).fits).few-path in
      sym (done t img' page (ap (λ (f : Refusal). f.number) fault_match ∙ ok))
      ∙ (ap (λ (n : ℕ). printed t (node_at img') n page) same_count
      ∙ ap (λ (xs : List ℕ). xs ++ drop (40 * path_count_of img) page) (lines_same t (node_at img') renumbered (path_count_of img) (λ i h. node_match p q img img' m i (omega arith))))

  -- where one is refused, both pages stay
  pub refused_match : (t : Ties) → ((page_fault img page).number ≡ 0 → ⊥) → page_after t img' page ≡ page_after t img page
  refused_match t h = sym (stays t img' page (page_fault img page) fault_match h) ∙ stays t img page (page_fault img page) refl h
