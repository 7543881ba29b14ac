-- The links on the path of an image, as `any` over its nodes' numbers has them. Assumes nothing.
use Rattle.std.proofs.Common.{◌≡◌, ℕ, Bool, true, false, cond, ◌&&◌, ◌||◌, List, [], ◌∷◌, map, sym, refl, ap, ◌∙◌, arith}
use Rattle.std.specs.List.{list_any, range_with_len}
use Rattle.link_rules.specs.LinkIdx.{same_link}
use Rattle.link_rules.specs.declared.link_idx.LinkIdx.{LinkIdx}
use Rattle.disp_structs.specs.Listed.{listed}
use Rattle.disp_structs.specs.Values.{is_arrive}
use Rattle.disp_structs.specs.declared.DispNode.{DispNode}
use Rattle.free_path.specs.Base.{any}
use Rattle.free_path.specs.LinkOptType.{links_on_path, contains}
use Rattle.free_path.proofs.FoundLaws.{listed-range}

module _ (f : ℕ → DispNode) (l : LinkIdx) where
  abbrev arrives : ℕ → Bool
  arrives i = is_arrive (f i).link_event.est_type && same_link l (f i).link_event.link_idx

  among : (xs : List ℕ) → list_any arrives xs ≡ contains (links_on_path (map f xs)) l
  unfolding contains any links_on_path
  among [] = refl
  among (x ∷ xs) = ap (λ (b : Bool). arrives x || b) (among xs) ∙ go (is_arrive (f x).link_event.est_type)
    where
      go : (t : Bool) → ((t && same_link l (f x).link_event.link_idx) || contains (links_on_path (map f xs)) l) ≡ contains (cond t ((f x).link_event.link_idx ∷ links_on_path (map f xs)) (links_on_path (map f xs))) l
      go true = refl
      go false = refl

  pub any_arrives : (n : ℕ) → list_any arrives (range_with_len 0 n) ≡ contains (links_on_path (listed n f)) l
  any_arrives n = among (range_with_len 0 n) ∙ ap (λ (ns : List DispNode). contains (links_on_path ns) l) (sym (listed-range f n n 0 (omega arith)))
