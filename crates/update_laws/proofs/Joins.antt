-- What a Join is: the parts that it puts together. Assumes nothing.
use mathlib.Core.Path.{◌≡◌, sym, ap, subst, ◌∙◌}
use mathlib.Core.List.{List, ◌++◌}
use Prim.Native.Nat.{ℕ, ◌≤◌, ◌<◌}
use native.Mathlib.Omega.{arith}
use lib.ListN.{length, take, drop}
use lib.Seq.{length-take-le, take-append-le, take-take, drop_at}
use borrow.Author.Tests.{eqb-true}
use Rattle.disp_structs.specs.Train.{Train}
use Rattle.disp_structs.specs.Values.{same_est}
use Rattle.disp_structs.specs.declared.DispNode.{DispNode}
use Rattle.free_path.specs.Base.{Res, ok, ◌>>=◌, ◌>>◌, at, walk_from}
use Rattle.update_definition.specs.State.{Round, Search, Turn, ends, Ended, again, with_path, with_div_nodes, with_front_back, with_fixed}
use Rattle.update_definition.specs.Look.{Here}
use Rattle.update_definition.specs.Join.{update_free_path_helpers, update_div_nodes, Divs, free_is_correct, offset_change, splice_at, join}
use Rattle.update_definition.specs.Accepted.{Accepted}
use Rattle.update_laws.specs.Good.{stack}
use Rattle.update_laws.proofs.Answers.{ok_same, bind_ok, then_ok}
use Rattle.update_laws.proofs.Lists.{at-below, walk_ok}
use Rattle.update_laws.proofs.Stack.{est_of}
use Rattle.update_laws.proofs.Helpers.{Helped, helped}
use Rattle.update_laws.proofs.DivNodes.{DivsUpdated, divs_updated}
use Rattle.update_laws.proofs.Changing.{ends_same}

-- the join at base: the helpers, the diverge nodes, the path put together
pub record JoinedTo (links : ℕ) (r : Round) (h : Here) (s : Search) (e : Ended) : Type 0 where
  pub base : ℕ
  pub node : DispNode
  pub left : Train
  pub divs : Divs
  pub at_base : at r.train.disp_path base ≡ ok node
  pub next-is : est_of node ≡ h.est_curr.idx_next.0
  pub helpers : Helped links r.train s.disp_path_new s.idx_split base left
  pub updated : DivsUpdated (length r.train.disp_path) r.train.diverge_room s.div_idx_split base h.idx_join_new r.train.div_nodes s.div_nodes_new divs
  pub free_in : s.disp_node_idx_free < length (stack r s ++ helpers.rest)
  pub is : again (with_fixed (with_path (with_div_nodes (with_front_back (with_path r.train (take base r.train.disp_path ++ helpers.rest)) helpers.front helpers.back) divs.div_nodes) (stack r s ++ helpers.rest)) s.disp_node_idx_free) h.idx_join_new divs.div_idx_split ≡ e

correct_in : (ns : List DispNode) (free : ℕ) {u : Unit {0}} → free_is_correct ns free ≡ ok u → free < length ns
unfolding free_is_correct
correct_in ns free q = let n = bind_ok (at ns free) q in at-below ns free n.1

module _ (links : ℕ) (r : Round) (g : Accepted links r.train) (s : Search) (low : 1 ≤ s.div_idx_split) (h : Here) where
  abbrev path : List DispNode
  path = r.train.disp_path

  -- what follows the helpers, which left u
  abbrev behind_helpers : ℕ → Train → Res Turn
  behind_helpers base u =
      update_div_nodes u.diverge_room u.div_nodes s.div_nodes_new s.div_idx_split base h.idx_join_new >>= λ d.
      free_is_correct (take s.idx_split u.disp_path ++ s.disp_path_new ++ drop base u.disp_path) s.disp_node_idx_free >>
      ok (ends (again (with_fixed (with_path (with_div_nodes u d.div_nodes) (take s.idx_split u.disp_path ++ s.disp_path_new ++ drop base u.disp_path)) s.disp_node_idx_free) h.idx_join_new d.div_idx_split))

  module _ (base : ℕ) (x : DispNode) (at_base : at path base ≡ ok x) (next-is : est_of x ≡ h.est_curr.idx_next.0) (u : Train) (w : Helped links r.train s.disp_path_new s.idx_split base u) where
    abbrev helped_train : Train
    helped_train = with_front_back (with_path r.train (take base path ++ w.rest)) w.front w.back

    path-is : take s.idx_split (take base path ++ w.rest) ++ s.disp_path_new ++ drop base (take base path ++ w.rest) ≡ stack r s ++ w.rest
    path-is =
        let n = length-take-le base path w.inside in
        let a : take s.idx_split (take base path ++ w.rest) ≡ take s.idx_split path = take-append-le s.idx_split (take base path) w.rest (omega (arith, w.order)) ∙ take-take s.idx_split base path w.order in
        let b : drop base (take base path ++ w.rest) ≡ w.rest = drop_at (take base path) w.rest base n in
        ap (λ (y : List DispNode). y ++ s.disp_path_new ++ drop base (take base path ++ w.rest)) a ∙ ap (λ (y : List DispNode). stack r s ++ y) b

    parted : {e : Ended} → behind_helpers base u ≡ ok (ends e) → JoinedTo links r h s e
    parted {e} q =
        let q₂ : behind_helpers base helped_train ≡ ok (ends e) = subst (λ (y : Train). behind_helpers base y ≡ ok (ends e)) (sym w.is) q in
        let d = bind_ok (update_div_nodes r.train.diverge_room r.train.div_nodes s.div_nodes_new s.div_idx_split base h.idx_join_new) q₂ in
        let c = free_is_correct (take s.idx_split (take base path ++ w.rest) ++ s.disp_path_new ++ drop base (take base path ++ w.rest)) s.disp_node_idx_free in
        let f = then_ok c d.2 in
        record {
          base = base;
          node = x;
          left = u;
          divs = d.0;
          at_base = at_base;
          next-is = next-is;
          helpers = w;
          updated = divs_updated (length path) r.train.diverge_room s.div_idx_split base h.idx_join_new r.train.div_nodes s.div_nodes_new g.divs w.inside low d.1;
          free_in = subst (λ (y : List DispNode). s.disp_node_idx_free < length y) path-is (correct_in (take s.idx_split (take base path ++ w.rest) ++ s.disp_path_new ++ drop base (take base path ++ w.rest)) s.disp_node_idx_free f.1);
          is = ap (λ (y : List DispNode). again (with_fixed (with_path (with_div_nodes helped_train d.0.div_nodes) y) s.disp_node_idx_free) h.idx_join_new d.0.div_idx_split) (sym path-is) ∙ ends_same (ok_same f.2);
        }

  pub joined_to : {e : Ended} → join r h s ≡ ok (ends e) → JoinedTo links r h s e
  unfolding join splice_at
  joined_to q =
      let b = bind_ok (walk_from (λ (n : DispNode). same_est h.est_curr.idx_next n.est_idx) path r.idx_split_save) q in
      let w = walk_ok (λ (n : DispNode). same_est h.est_curr.idx_next n.est_idx) path r.idx_split_save b.1 in
      let n = bind_ok (at path b.0) b.2 in
      let t = bind_ok (update_free_path_helpers r.train s.disp_path_new s.idx_split b.0 (offset_change h n.0)) n.2 in
      parted b.0 w.0 w.1 (sym (eqb-true h.est_curr.idx_next.0 (est_of w.0) w.2)) t.0 (helped links r.train s.disp_path_new s.idx_split b.0 (offset_change h n.0) g.path t.1) t.2
