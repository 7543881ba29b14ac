-- A round of an update that has counted no stray is one of the plain class. Assumes nothing.
use mathlib.Core.Path.{◌≡◌, refl, sym, ap, ◌∙◌}
use mathlib.Core.Logic.{◌⊎◌, inl, inr}
use mathlib.Core.Bool.{Bool, true, false, cond}
use mathlib.Core.List.{List}
use Prim.Native.Nat.{ℕ, ◌≤◌}
use native.Mathlib.Omega.{arith}
use lib.Dec.{ltb, leb}
use borrow.Author.Tests.{ltb-false, le-leb}
use Rattle.link_rules.specs.LinkIdx.{no_link, occupied}
use Rattle.link_rules.specs.declared.link_idx.LinkIdx.{LinkIdx}
use Rattle.link_rules.specs.declared.link_idx.TrainIdx.{TrainIdx}
use Rattle.disp_structs.specs.Train.{Train}
use Rattle.disp_structs.specs.declared.Metres.{Metres}
use Rattle.free_path.specs.Base.{Res, ok, no}
use Rattle.free_path.specs.LinkOptType.{links_on_path, contains, link_idx_path, least, link_opt_type_of, is_none, find_train_intersect, Sentinels, calc_idx_sentinels, plainly, train_met}
use Rattle.free_path.specs.declared.link_opt_type.LinkOptType.{LinkOptType}
use Rattle.free_path.specs.declared.link_opt_type.LinkOptType.TheVariants.{None, Single, Range, Check}
use Rattle.free_path.proofs.ListLaws.{All}
use Rattle.free_path.proofs.PlainLaws.{Link32, same_index}
use Rattle.free_path.proofs.MapLaws.{map-id, id-map, bind_same}
use Rattle.update_definition.specs.Update.{Given, apart, search_begin, meeting, split_point, met_before, round_met, Entry, path_ends, searches, begin_of, end_from, round_of, steps_in, round_steps, strays_of}
use Rattle.update_laws.proofs.RoundRenumbering.{given}

apart_plain : (c : LinkOptType) (on : LinkIdx → Bool) → apart (plainly c) on ≡ apart c on
apart_plain None on = refl
apart_plain (Single l) on = refl
apart_plain (Range a b) on = refl
apart_plain Check on = refl

is_none_plain : (c : LinkOptType) → is_none (plainly c) ≡ is_none c
is_none_plain None = refl
is_none_plain (Single l) = refl
is_none_plain (Range a b) = refl
is_none_plain Check = refl

-- the walk starts from free on, or at the sentinel
begins : (split free sentinel : ℕ) → (free ≤ search_begin split free sentinel) ⊎ (sentinel ≤ search_begin split free sentinel)
begins split free sentinel = go (ltb split free) refl
  where
    low : (v : Bool) → (free ≤ cond v free sentinel) ⊎ (sentinel ≤ cond v free sentinel)
    low true = inl (omega arith)
    low false = inr (omega arith)

    go : (v : Bool) → ltb split free ≡ v → (free ≤ cond v (least free sentinel) split) ⊎ (sentinel ≤ cond v (least free sentinel) split)
    go true e = low (leb free sentinel)
    go false e = inl (ltb-false split free e)

module _ (occ : List ℕ) (bs ls : List LinkIdx) (b : All Link32 bs) (z : occupied occ no_link ≡ false) (moved : TrainIdx) (local : Bool) (lowest : Metres) where
  abbrev class : LinkOptType
  class = link_opt_type_of bs (contains ls)

  abbrev g : LinkOptType → Given
  g c = given c occ bs ls moved local lowest

  module _ (t : Train) (s : strays_of (g class) t ≡ 0) where
    find_plain : (i sentinel : ℕ) → (t.disp_node_idx_free ≤ i) ⊎ (sentinel ≤ i) → find_train_intersect i sentinel (plainly class) (link_idx_path t.disp_path) occ ≡ find_train_intersect i sentinel class (link_idx_path t.disp_path) occ
    unfolding find_train_intersect
    find_plain i sentinel (inl l) = rw (is_none_plain class, sym (same_index bs (contains ls) b occ z t.disp_node_idx_free t.disp_path s i sentinel l))
    find_plain i sentinel (inr l) = rw (le-leb sentinel i l)

    split_point_plain : (split sentinel : ℕ) → split_point (g (plainly class)) t split sentinel ≡ split_point (g class) t split sentinel
    unfolding split_point meeting
    split_point_plain split sentinel =
        rw (
          apart_plain class (contains (links_on_path t.disp_path)),
          find_plain (search_begin split t.disp_node_idx_free sentinel) sentinel (begins split t.disp_node_idx_free sentinel),
        )

    met_before_plain : (split : ℕ) (x : Res Sentinels) → met_before (g (plainly class)) t split x ≡ met_before (g class) t split x
    met_before_plain split (no n) = refl
    met_before_plain split (ok y) = ap (train_met y.node (link_idx_path t.disp_path) occ) (split_point_plain split y.node)

    pub round_met_plain : (split div_split_of : ℕ) → round_met (g (plainly class)) t split div_split_of ≡ round_met (g class) t split div_split_of
    unfolding round_met
    round_met_plain split div_split_of = met_before_plain split (calc_idx_sentinels div_split_of moved t.div_nodes)

    begin_of_plain : (split div_split_of : ℕ) → begin_of (g (plainly class)) t split div_split_of ≡ begin_of (g class) t split div_split_of
    unfolding begin_of
    begin_of_plain split div_split_of =
        map-id _ _
        (bind_same (λ x. x) (calc_idx_sentinels div_split_of moved t.div_nodes) _ _ _ refl λ y.
        bind_same (λ x. x) (split_point (g class) t split y.node) _ _ _ (split_point_plain split y.node) λ i.
        id-map _ _ refl)

    steps_in_plain : (x : Res Entry) → steps_in (g (plainly class)) t x ≡ steps_in (g class) t x
    steps_in_plain (no n) = refl
    steps_in_plain (ok path_ends) = refl
    steps_in_plain (ok (searches b)) = refl

    pub round_steps_plain : (split div_split_of : ℕ) → round_steps (g (plainly class)) t split div_split_of ≡ round_steps (g class) t split div_split_of
    unfolding round_steps
    round_steps_plain split div_split_of = ap (steps_in (g (plainly class)) t) (begin_of_plain split div_split_of) ∙ steps_in_plain (begin_of (g class) t split div_split_of)

    end_from_plain : (x : Entry) → end_from (g (plainly class)) t x ≡ end_from (g class) t x
    end_from_plain path_ends = refl
    end_from_plain (searches b) = refl

    pub round_of_plain : (split div_split_of : ℕ) → round_of (g (plainly class)) t split div_split_of ≡ round_of (g class) t split div_split_of
    unfolding round_of
    round_of_plain split div_split_of =
        map-id _ _ (bind_same (λ x. x) (begin_of (g class) t split div_split_of) _ _ _ (begin_of_plain split div_split_of) λ x. id-map _ _ (end_from_plain x))
