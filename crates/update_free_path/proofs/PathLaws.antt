-- The path of an image in a column of links and in flags, a node at a time as a loop has it. Assumes nothing.
use mathlib.Core.Path.{◌≡◌, refl, sym, ap, ◌∙◌}
use mathlib.Core.Bool.{Bool, true, false, cond, not, ◌||◌}
use mathlib.Core.List.{List, [], ◌∷◌, ◌++◌}
use Prim.Native.Nat.{ℕ, ◌+◌, ◌<◌}
use native.Mathlib.Omega.{arith}
use native.Mathlib.Numerals.{add-one}
use lib.Dec.{eqb}
use lib.ListN.{length, get_or, set, replicate}
use lib.Seq.{get_or-set_same, get_or-set_other}
use borrow.Author.Tests.{eqb-true, eqb-false, ne_eqb}
use Rattle.link_rules.specs.LinkIdx.{no_link}
use Rattle.link_rules.specs.Octets.{le_at}
use Rattle.disp_structs.specs.Listed.{listed}
use Rattle.disp_structs.specs.Values.{same_est, is_arrive, arriving}
use Rattle.disp_structs.specs.declared.EstIdx.{EstIdx}
use Rattle.disp_structs.specs.declared.EstType.TheVariants.{Arrive, Clear, Fake}
use Rattle.disp_structs.specs.declared.LinkEvent.{LinkEvent}
use Rattle.disp_structs.specs.declared.DispNode.{DispNode}
use Rattle.disp_structs.proofs.ListedLaws.{listed_same, listed-map}
use Rattle.image.specs.Image.{est_count, node_place, type_of, node_from, node_at, path_of}
use Rattle.free_path.specs.Base.{any}
use Rattle.free_path.specs.Columns.{link, link_at}
use Rattle.free_path.specs.LinkOptType.{link_idx_path}
use Rattle.free_path.specs.Validate.{on_path}
use Rattle.splice.proofs.FlagLaws.{all_zero}
use Rattle.search.specs.Read.{on_flag, Marked}

-- ---- a column that is filled entry by entry

abbrev pub Filled : ℕ → (ℕ → ℕ) → List ℕ → Type 0
Filled k f xs = (j : ℕ) → j < k → get_or xs j 0 ≡ f j

pub fill_turn : (f : ℕ → ℕ) (xs : List ℕ) (i x : ℕ) → i < length xs → x ≡ f i → Filled i f xs → Filled (i + 1) f (set xs i x)
fill_turn f xs i x h e g j l = go (eqb j i) refl
  where
    go : (t : Bool) → eqb j i ≡ t → get_or (set xs i x) j 0 ≡ f j
    go true k = rw (eqb-true j i k) (get_or-set_same xs i x 0 h ∙ e)
    go false k = let d = eqb-false j i k in get_or-set_other xs i j x 0 d ∙ g j (omega (arith, d))

-- ---- link_idx_path

module _ (n : DispNode) (e : LinkEvent) (q : e ≡ n.link_event) where
  event : cond (is_arrive e.est_type) e.link_idx no_link ≡ arriving n
  unfolding arriving
  event = ap (λ (v : LinkEvent). cond (is_arrive v.est_type) v.link_idx no_link) q

  pub arriving-some : is_arrive e.est_type ≡ true → e.link_idx ≡ arriving n
  arriving-some h = ap (λ (t : Bool). cond t e.link_idx no_link) (sym h) ∙ event

  pub arriving-none : is_arrive e.est_type ≡ false → no_link ≡ arriving n
  arriving-none h = ap (λ (t : Bool). cond t e.link_idx no_link) (sym h) ∙ event

-- a number of one octet
byte_one : (bs : List ℕ) (at : ℕ) → le_at 1 bs at ≡ get_or bs at 0
unfolding le_at
byte_one bs at = omega arith

-- 0 alone is Arrive
arrive_is : (n : ℕ) → is_arrive (type_of n) ≡ eqb n 0
unfolding type_of
arrive_is n = go (eqb n 0) (eqb n 1)
  where
    go : (a b : Bool) → is_arrive (cond a Arrive (cond b Clear Fake)) ≡ a
    go true b = refl
    go false true = refl
    go false false = refl

-- node i by its octets, the record beginning at at
module _ (img : List ℕ) (i at : ℕ) (q : at ≡ node_place (est_count img) i) where
  type_octet : is_arrive (node_at img i).link_event.est_type ≡ eqb (get_or img (at + 26) 0) 0
  unfolding node_from
  type_octet = rw (q, arrive_is, byte_one)

  pub octet_arrives : (l : ℕ) → get_or img (at + 26) 0 ≡ 0 → l ≡ le_at 4 img (at + 16) → link l ≡ arriving (node_at img i)
  unfolding node_from
  octet_arrives l h e = ap link (e ∙ ap (λ (a : ℕ). le_at 4 img (a + 16)) q) ∙ arriving-some (node_at img i) (node_at img i).link_event refl (type_octet ∙ ap (λ (k : ℕ). eqb k 0) h)

  pub octet_other : (get_or img (at + 26) 0 ≡ 0 → ⊥) → no_link ≡ arriving (node_at img i)
  octet_other h = arriving-none (node_at img i) (node_at img i).link_event refl (type_octet ∙ ne_eqb (get_or img (at + 26) 0) 0 h)

pub column-links : (img : List ℕ) (n : ℕ) (col : List ℕ) → Filled n (λ j. (arriving (node_at img j)).0) col → listed n (link_at col) ≡ link_idx_path (path_of img n)
column-links img n col g = listed_same n (λ i. arriving (node_at img i)) (link_at col) (λ i h. ap link (g i h)) ∙ sym (listed-map arriving n (node_at img))

-- ---- is_on_path

on_snoc : (xs : List DispNode) (x : DispNode) (e : EstIdx) → on_path (xs ++ (x ∷ [])) e ≡ (on_path xs e || same_est e x.est_idx)
unfolding on_path any
on_snoc [] x e = go (same_est e x.est_idx)
  where
    go : (t : Bool) → (t || false) ≡ t
    go true = refl
    go false = refl
on_snoc (y ∷ ys) x e = go (same_est e y.est_idx) (on_snoc ys x e)
  where
    go : (t : Bool) → on_path (ys ++ (x ∷ [])) e ≡ (on_path ys e || same_est e x.est_idx) → (t || on_path (ys ++ (x ∷ [])) e) ≡ ((t || on_path ys e) || same_est e x.est_idx)
    go true h = refl
    go false h = h

module _ (img on : List ℕ) where
  pub mark-none : (m : ℕ) → on ≡ replicate m 0 → Marked on (path_of img 0)
  unfolding on_path any listed
  mark-none m h e = rw (h, all_zero m e.0)

  pub mark-turn : (i k : ℕ) → k ≡ (node_at img i).est_idx.0 → k < length on → Marked on (path_of img i) → Marked (set on k 1) (path_of img (i + 1))
  unfolding listed
  mark-turn i k q h g e = rw (add-one, listed, on_snoc, ← g e, ← q) (go (eqb e.0 k) refl)
    where
      go : (t : Bool) → eqb e.0 k ≡ t → on_flag (set on k 1) e ≡ (on_flag on e || t)
      go true r = rw (eqb-true e.0 k r, get_or-set_same on k 1 0 h) (some (not (eqb (get_or on k 0) 0)))
        where
          some : (t : Bool) → true ≡ (t || true)
          some true = refl
          some false = refl
      go false r = rw (get_or-set_other on k e.0 1 0 (eqb-false e.0 k r)) (same (on_flag on e))
        where
          same : (t : Bool) → t ≡ (t || false)
          same true = refl
          same false = refl
