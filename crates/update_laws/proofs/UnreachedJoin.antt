-- A Join never fails to find the old nodes, their links and the diverge nodes behind it. Assumes nothing.
use mathlib.Core.Path.{◌≡◌, refl, sym, ap, subst, ◌∙◌}
use mathlib.Core.Bool.{true, cond}
use mathlib.Core.List.{List, [], ◌∷◌, ◌++◌}
use Prim.Native.Nat.{ℕ, suc, ◌+◌, ◌-◌, ◌≤◌, ◌<◌}
use native.Mathlib.Omega.{arith}
use lib.Dec.{leb, ltb, eqb}
use lib.ListN.{length, take, drop}
use borrow.Author.Tests.{le-leb, ltb-true, lt-ltb}
use Rattle.link_rules.specs.declared.link_idx.LinkIdx.{LinkIdx}
use Rattle.disp_structs.specs.declared.DispNode.{DispNode}
use Rattle.disp_structs.specs.declared.DivergeNode.{DivergeNode}
use Rattle.free_path.specs.Base.{ok, at, part, slice, walk_from}
use Rattle.free_path.specs.LinkOptType.{links_on_path, contains}
use Rattle.update_definition.specs.State.{Round, Search}
use Rattle.update_definition.specs.Join.{remove_links, shift_divs, update_div_nodes}
use Rattle.update_definition.specs.Accepted.{Each, Accepted, Distinct}
use Rattle.update_laws.specs.Good.{Good}
use Rattle.update_laws.proofs.Lists.{at-below, at_some, at_drop, last-at, walk_ok}
use Rattle.update_laws.proofs.NewDivs.{sorted_upto}
use Rattle.update_laws.proofs.Links.{links-append, distinct_parts, in_left, in_right, remove_goes}
use Rattle.update_laws.proofs.Helpers.{three-parts}
use Rattle.update_laws.proofs.Unreached.{walk_some}
use Rattle.update_laws.proofs.UnreachedViews.{OnlyRoom, ok_only, bind_only, need_only, room_only, cond_only, slice-goes}

shift_goes : (join base : ℕ) (ds : List DivergeNode) → Each (λ (d : DivergeNode). base ≤ d.disp_node_idx) ds → (es : List DivergeNode) × (shift_divs join base ds ≡ ok es)
unfolding shift_divs at
shift_goes join base [] f = ([], refl)
shift_goes join base (d ∷ ds) f =
    let w = shift_goes join base ds (λ i x p. f (suc i) x p) in
    let l = f 0 d refl in
    (record { train_idx = d.train_idx; disp_node_idx = d.disp_node_idx + join - base } ∷ w.0, rw (le-leb base (d.disp_node_idx + join) (omega arith), w.1))

module _ (links : ℕ) (r : Round) (g : Accepted links r.train) (s : Search) (k : Good links r s) (base : ℕ) (in_path : base < length r.train.disp_path) where
  abbrev path : List DispNode
  path = r.train.disp_path

  -- the nodes from the split to the join, and their links
  pub old_never : s.idx_split ≤ base → (on : List LinkIdx) × (slice path s.idx_split base ≡ ok (part s.idx_split base path)) × (remove_links (links_on_path (part s.idx_split base path)) (links_on_path path) ≡ ok on)
  old_never l =
      let old = part s.idx_split base path in
      let front = take s.idx_split path in
      let parts : links_on_path path ≡ links_on_path front ++ (links_on_path old ++ links_on_path (drop base path)) =
      sym (ap (λ (y : List DispNode). links_on_path y) (three-parts path s.idx_split base l)) ∙ links-append front (old ++ drop base path) ∙ ap (λ (y : List LinkIdx). links_on_path front ++ y) (links-append old (drop base path)) in
      let d = distinct_parts (links_on_path front) (links_on_path old ++ links_on_path (drop base path)) (subst (λ (y : List LinkIdx). Distinct y) parts g.path.distinct) in
      let e = distinct_parts (links_on_path old) (links_on_path (drop base path)) d.1 in
      let w = remove_goes (links_on_path old) (links_on_path path) e.0 (λ x h.
      subst (λ (y : List LinkIdx). contains y x ≡ true) (sym parts) (in_right (links_on_path front) (links_on_path old ++ links_on_path (drop base path)) x (in_left (links_on_path old) (links_on_path (drop base path)) x h))) in
      (w.0, slice-goes path s.idx_split base l (omega arith), w.1)

  abbrev divs : List DivergeNode
  divs = r.train.div_nodes

  -- the sentinel stands behind the join
  walk_behind : (j : ℕ) × (walk_from (λ (d : DivergeNode). ltb base d.disp_node_idx) divs s.div_idx_split ≡ ok j)
  walk_behind =
      let z = at_some divs (length divs - 1) (omega (arith, g.divs.some)) in
      let n : z.0.disp_node_idx ≡ length path = g.divs.end z.0 (last-at divs (length divs - 1) (omega (arith, g.divs.some)) z.1) in
      walk_some (λ (d : DivergeNode). ltb base d.disp_node_idx) divs s.div_idx_split (length divs - 1) z.0 (omega (arith, k.div_split-good.high)) z.1 (lt-ltb base z.0.disp_node_idx (omega arith))

  -- the diverge nodes are refused by their room alone
  pub divs-room : (room join : ℕ) → OnlyRoom (update_div_nodes room divs s.div_nodes_new s.div_idx_split base join)
  unfolding update_div_nodes
  divs-room room join =
      let j = walk_behind in
      let w = walk_ok (λ (d : DivergeNode). ltb base d.disp_node_idx) divs s.div_idx_split j.1 in
      bind_only (walk_from (λ (d : DivergeNode). ltb base d.disp_node_idx) divs s.div_idx_split) _ (ok_only j.0 (walk_from (λ (d : DivergeNode). ltb base d.disp_node_idx) divs s.div_idx_split) j.1) (λ i p.
      let v = walk_ok (λ (d : DivergeNode). ltb base d.disp_node_idx) divs s.div_idx_split p in
      let sh = shift_goes join base (drop i divs) (λ a d q. let u = sorted_upto divs g.divs.sorted i (i + a) v.0 d (omega arith) v.1 (sym (at_drop i divs a) ∙ q) in omega (arith, ltb-true base v.0.disp_node_idx v.2)) in
      bind_only (cond (eqb base join) (ok (drop i divs)) (shift_divs join base (drop i divs))) _
      (cond_only (eqb base join) (ok (drop i divs)) (shift_divs join base (drop i divs)) (λ c. ok_only (drop i divs) (ok (drop i divs)) refl) (λ c. ok_only sh.0 (shift_divs join base (drop i divs)) sh.1))
      (λ rest q. need_only (leb 1 (length s.div_nodes_new)) (le-leb 1 (length s.div_nodes_new) (at-below s.div_nodes_new 0 k.divs-good.first))
      (room_only (leb (length (take s.div_idx_split divs ++ drop 1 s.div_nodes_new ++ rest)) room) (λ c. ok_only _ _ refl))))
