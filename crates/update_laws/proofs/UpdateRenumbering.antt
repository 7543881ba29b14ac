-- Demand 3 for one update: over a second numbering the update gives the same answer, and the renumbered
-- train, where it counts no stray and entry 0 of the occupancy is empty. Assumes nothing.
use mathlib.Core.Path.{◌≡◌, refl, sym, ap, ap₂, ◌∙◌}
use mathlib.Core.Bool.{Bool, true, false, ◌||◌}
use mathlib.Core.List.{List, [], ◌∷◌, map}
use Prim.Native.Nat.{ℕ, ◌-◌, ◌≤◌, ◌<◌}
use native.Mathlib.Omega.{arith}
use lib.ListN.{length}
use borrow.Author.Tests.{eq-eqb}
use Rattle.link_rules.specs.LinkIdx.{no_link, no_train, same_link, occupied}
use Rattle.link_rules.specs.Renumbering.{Renumbering, r_link, r_train}
use Rattle.link_rules.specs.declared.link_idx.LinkIdx.{LinkIdx}
use Rattle.link_rules.specs.declared.link_idx.TrainIdx.{TrainIdx}
use Rattle.link_rules.proofs.RenumberingLaws as Numbers
use Rattle.disp_structs.specs.Train.{Train}
use Rattle.disp_structs.specs.Renumbered.{r_node, r_div, r_train_disp}
use Rattle.disp_structs.specs.declared.DispNode.{DispNode}
use Rattle.disp_structs.specs.declared.DivergeNode.{DivergeNode}
use Rattle.free_path.specs.Base.{Res, ok, no, at, any}
use Rattle.free_path.specs.LinkOptType.{links_on_path, contains, link_opt_type_of, plainly}
use Rattle.free_path.specs.Validate.{known, strays}
use Rattle.free_path.specs.AnyOrder.{Perm, done, keep, swap, chain}
use Rattle.free_path.specs.Renumbered.{r_class}
use Rattle.free_path.proofs.PathRenumbering.{no_link_r, class_r, known_r}
use Rattle.free_path.proofs.ListLaws.{All}
use Rattle.free_path.proofs.PlainLaws.{Link32}
use Rattle.free_path.proofs.MapLaws.{map_res, at_map}
use Rattle.tally.specs.Tally.{started}
use Rattle.update_definition.specs.State.{with_div_nodes}
use Rattle.update_definition.specs.Update.{Given, Between, between, rounds_from, adjust_sentinel, given_of, start_of, update_from, update_free_path, Status, Success, Blocked, Faulty, Refused, Updated, refused, met_in, meets, first_met}
use Rattle.update_definition.specs.Renumbered.{TwoNumberings, r_status, r_updated}
use Rattle.update_laws.proofs.StateRenumbering.{no_train_r}
use Rattle.update_laws.proofs.RoundRenumbering.{on_path_links_r}
use Rattle.update_laws.proofs.RoundsRenumbering.{r_between, r_ran, strays_of_r, rounds-strays, first_met_r, rounds_r}

-- ---- what follows of the second list and the second occupancy

all_perm : (P : LinkIdx → Type 0) {xs ys : List LinkIdx} → Perm LinkIdx xs ys → All P xs → All P ys
all_perm P done h = h
all_perm P (keep x o) h = (h.0, all_perm P o h.1)
all_perm P (swap x y xs) h = (h.1.0, (h.0, h.1.1))
all_perm P (chain o u) h = all_perm P u (all_perm P o h)

all-below : (k : ℕ) (ls : List LinkIdx) → ((l : LinkIdx) → contains ls l ≡ true → l.0 < k) → All (λ l. l.0 < k) ls
unfolding contains any
all-below k [] h = tt
all-below k (l ∷ ls) h = (h l (rw (eq-eqb l.0 l.0 refl)), all-below k ls (λ x e. h x (or_right (same_link x l) (any (same_link x) ls) e)))
  where
    or_right : (a b : Bool) → b ≡ true → (a || b) ≡ true
    or_right true b e = refl
    or_right false b e = e

all_32 : (k : ℕ) → k ≤ 4000 → (ls : List LinkIdx) → All (λ l. l.0 < k) ls → All Link32 ls
all_32 k s [] h = tt
all_32 k s (l ∷ ls) h = (omega (arith, s, h.0), all_32 k s ls h.1)

below_r : (occ : List ℕ) (p : ℕ → ℕ) → Renumbering (length occ - 1) p → (ls : List LinkIdx) → All (λ l. l.0 < length occ) ls → All (λ l. l.0 < length occ) (map (r_link p) ls)
below_r occ p rp [] h = tt
below_r occ p rp (l ∷ ls) h = (Numbers.below (length occ) p rp l.0 h.0, below_r occ p rp ls h.1)

adjust_sentinel_r : (q : ℕ → ℕ) (m : TrainIdx) (ds : List DivergeNode) → adjust_sentinel (r_train q m) (map (r_div q) ds) ≡ map (r_div q) (adjust_sentinel m ds)
unfolding adjust_sentinel
adjust_sentinel_r q m [] = refl
adjust_sentinel_r q m (d ∷ []) = refl
adjust_sentinel_r q m (d ∷ (e ∷ es)) = ap (λ x. r_div q d ∷ x) (adjust_sentinel_r q m (e ∷ es))

-- the train met in an answer
met-in : (top : ℕ) (q : ℕ → ℕ) → Renumbering top q → (s : Status) (x : TrainIdx) → met_in (r_status q s) (r_train q x) ≡ r_train q (met_in s x)
met-in top q rq Success x = refl
met-in top q rq (Blocked holder) x = refl
met-in top q rq (Faulty n) x = refl
met-in top q rq (Refused r) x = sym (no_train_r top q rq)

meets_r : (top : ℕ) (p q : ℕ → ℕ) → Renumbering top q → (x : TrainIdx) (u : Updated) → meets (r_train q x) (r_ran p q u) ≡ r_updated p q (meets x u)
meets_r top p q rq x u =
    ap (λ (y : TrainIdx). record { answer = record { status = r_status q u.answer.status; tally = u.answer.tally; met = y }; train = r_train_disp p q u.train }) (met-in top q rq u.answer.status x)

-- ---- the update, by the first node of its free path

module _ (top : ℕ) (p q : ℕ → ℕ) (occ occ' : List ℕ) (blocking blocking' : List LinkIdx) (n : TwoNumberings top p q occ occ' blocking blocking') (moved : TrainIdx) (local : Bool) (limit : ℕ) (t : Train) where
  abbrev rp : Renumbering (length occ - 1) p
  rp = n.links

  abbrev on : List LinkIdx
  on = links_on_path t.disp_path

  abbrev on' : List LinkIdx
  on' = links_on_path (map (r_node p) t.disp_path)

  under : All (λ l. l.0 < length occ) blocking
  under = all-below (length occ) blocking n.below

  b : All Link32 blocking
  b = all_32 (length occ) n.short blocking under

  b' : All Link32 blocking'
  b' = all_perm Link32 n.order (all_32 (length occ) n.short (map (r_link p) blocking) (below_r occ p rp blocking under))

  z' : occupied occ' no_link ≡ false
  z' = ap (occupied occ') (sym (no_link_r (length occ - 1) p rp)) ∙ Numbers.occupied_r p q top n.trains occ occ' rp n.occupancies no_link ∙ n.zero_empty

  classes : plainly (link_opt_type_of blocking' (contains on')) ≡ r_class p (plainly (link_opt_type_of blocking (contains on)))
  classes = class_r (length occ - 1) p rp (contains on) (contains on') (on_path_links_r (length occ - 1) p rp t.disp_path) blocking blocking' n.order

  knowns : (l : LinkIdx) → known blocking' (contains on') (r_link p l) ≡ known blocking (contains on) l
  knowns = known_r (length occ - 1) p rp (contains on) (contains on') (on_path_links_r (length occ - 1) p rp t.disp_path) blocking blocking' n.order

  module _ (first : DispNode) where
    abbrev g : Given
    g = given_of occ blocking moved local t first

    abbrev g' : Given
    g' = given_of occ' blocking' (r_train q moved) local (r_train_disp p q t) (r_node p first)

    abbrev start_with : List DivergeNode → ℕ → Between
    start_with ds k = between (with_div_nodes (r_train_disp p q t) ds) 1 1 (started k)

    start_r : start_of g' (r_train_disp p q t) ≡ r_between p q (start_of g t)
    start_r =
        ap₂ start_with (adjust_sentinel_r q moved t.div_nodes)
        (strays_of_r p q top n.trains occ occ' rp n.occupancies blocking blocking' on on' b b' n.zero_empty z' moved local g.offset_lowest classes knowns t)

    started_r : (rounds_from limit g t (start_of g t)).answer.tally.strays ≡ 0 → rounds_from limit g' (r_train_disp p q t) (start_of g' (r_train_disp p q t)) ≡ r_ran p q (rounds_from limit g t (start_of g t))
    unfolding strays
    started_r s =
        ap (rounds_from limit g' (r_train_disp p q t)) start_r
        ∙ rounds_r p q top n.trains occ occ' rp n.occupancies blocking blocking' on on' b b' n.zero_empty z' moved local g.offset_lowest classes knowns limit t (start_of g t) (omega arith) s

    first_r : (rounds_from limit g t (start_of g t)).answer.tally.strays ≡ 0 → first_met g' (start_of g' (r_train_disp p q t)) ≡ r_train q (first_met g (start_of g t))
    unfolding strays
    first_r s =
        ap (first_met g') start_r
        ∙ first_met_r p q top n.trains occ occ' rp n.occupancies blocking blocking' on on' b b' n.zero_empty z' moved local g.offset_lowest classes knowns (start_of g t) (omega (arith, s, rounds-strays limit g t (start_of g t)))

  from-r : (x : Res DispNode) → (update_from x occ blocking moved local limit t).answer.tally.strays ≡ 0
      → update_from (map_res (r_node p) x) occ' blocking' (r_train q moved) local limit (r_train_disp p q t) ≡ r_updated p q (update_from x occ blocking moved local limit t)
  from-r (no k) s = meets_r top p q n.trains no_train (refused 10 (started 0) t)
  from-r (ok first) s = ap₂ meets (first_r first s) (started_r first s) ∙ meets_r top p q n.trains (first_met (g first) (start_of (g first) t)) (rounds_from limit (g first) t (start_of (g first) t))

-- ---- the theorem

pub update_renumbered : (top : ℕ) (p q : ℕ → ℕ) (occ occ' : List ℕ) (blocking blocking' : List LinkIdx) → TwoNumberings top p q occ occ' blocking blocking'
    → (moved : TrainIdx) (local : Bool) (limit : ℕ) (t : Train) → (update_free_path occ blocking moved local limit t).answer.tally.strays ≡ 0
    → update_free_path occ' blocking' (r_train q moved) local limit (r_train_disp p q t) ≡ r_updated p q (update_free_path occ blocking moved local limit t)
unfolding update_free_path
update_renumbered top p q occ occ' blocking blocking' n moved local limit t s =
    ap (λ x. update_from x occ' blocking' (r_train q moved) local limit (r_train_disp p q t)) (at_map (r_node p) t.disp_path t.disp_node_idx_free)
    ∙ from-r top p q occ occ' blocking blocking' n moved local limit t (at t.disp_path t.disp_node_idx_free) s
