-- A Join leaves an accepted train. Assumes nothing.
use mathlib.Core.Path.{◌≡◌, refl, sym, ap, subst, ◌∙◌}
use mathlib.Core.Logic.{◌⊎◌}
use mathlib.Core.List.{List, ◌++◌}
use Prim.Native.Nat.{ℕ, suc, ◌+◌, ◌-◌, ◌≤◌, ◌<◌}
use native.Mathlib.Omega.{arith}
use borrow.Author.Tests.{eqb-true}
use lib.ListN.{length, take, drop, length-append, length-drop}
use lib.Seq.{length-take-le}
use Rattle.disp_structs.specs.Values.{same_est}
use Rattle.disp_structs.specs.declared.EstIdx.{EstIdx}
use Rattle.disp_structs.specs.declared.EstTime.{EstTime}
use Rattle.disp_structs.specs.declared.DispNode.{DispNode}
use Rattle.disp_structs.specs.declared.DivergeNode.{DivergeNode}
use Rattle.free_path.specs.Base.{ok, at, walk_from}
use Rattle.free_path.specs.LinkOptType.{links_on_path}
use Rattle.update_definition.specs.State.{Round, Search, ends, Ended}
use Rattle.update_definition.specs.Look.{Here}
use Rattle.update_definition.specs.Join.{Divs, join}
use Rattle.update_definition.specs.Accepted.{Each, Chain, Distinct, Accepted, NodeAccepted, Leads, EndsPath, PathAccepted, DivsAccepted}
use Rattle.update_laws.specs.Turns.{Stands}
use Rattle.update_laws.specs.Good.{Good, stack, NewDivGood}
use Rattle.update_laws.specs.AfterRound.{DivPoint, EndsGood}
use Rattle.update_laws.proofs.Answers.{ok_same}
use Rattle.update_laws.proofs.Lists.{at-below, at_left, at_take, at_drop, at_last, last-at, last-append, each_append, each_take, each-drop, chain-append, chain-drop, walk_ok}
use Rattle.update_laws.proofs.Stack.{est_of, chain-few, stack-length, stack-last, next-leads}
use Rattle.update_laws.proofs.Helpers.{Moved, moved_none}
use Rattle.update_laws.proofs.DivSplice.{spliced_accepted, spliced_point}
use Rattle.update_laws.proofs.DivNodes.{DivsUpdated}
use Rattle.update_laws.proofs.Joins.{joined_to}

module _ (links : ℕ) (r : Round) (g : Accepted links r.train) (s : Search) (k : Good links r s) (h : Here) (st : Stands r s h) where
  abbrev est : List EstTime
  est = r.train.est_times

  abbrev path : List DispNode
  path = r.train.disp_path

  -- ---- the path: the stack, and the nodes behind the join
  module _ (base : ℕ) (x : DispNode) (at_base : at path base ≡ ok x) (next-is : est_of x ≡ h.est_curr.idx_next.0)
      (rest : List DispNode) (m : Moved links (length est) (drop base path) rest) where
    rest-long : length rest ≡ length path - base
    rest-long = m.long ∙ length-drop base path

    rest_some : 0 < length rest
    rest_some = omega (arith, rest-long, at-below path base at_base)

    -- a node of it is at the est of the node in its place before
    old : (i : ℕ) (y : DispNode) → at rest i ≡ ok y → (z : DispNode) × (at path (base + i) ≡ ok z) × (z.est_idx ≡ y.est_idx)
    old i y p = let u = m.same i y p in (u.0, sym (at_drop base path i) ∙ u.1, u.2)

    -- a step only sees est numbers
    same-leads : (a b c d : DispNode) → a.est_idx ≡ c.est_idx → b.est_idx ≡ d.est_idx → Leads est a b → Leads est c d
    same-leads a b c d p q l = record {
      record_of = l.record_of;
      stands = subst (λ (e : EstIdx). at est e.0 ≡ ok l.record_of) p l.stands;
      some = subst (λ (e : EstIdx). e.0 ≡ 0 → ⊥) q l.some;
      leads = subst (λ (e : EstIdx). (l.record_of.idx_next.0 ≡ e.0) ⊎ (l.record_of.idx_next_alt.0 ≡ e.0)) q l.leads;
    }

    rest-steps : Chain (Leads est) rest
    rest-steps i a b p q =
        let u = old i a p in
        let v = old (suc i) b q in
        let z : base + suc i ≡ suc (base + i) = omega arith in
        same-leads u.0 v.0 a b u.2 v.2 (g.path.steps (base + i) u.0 v.0 u.1 (ap (at path) (sym z) ∙ v.1))

    whole_steps : Chain (Leads est) (stack r s ++ rest)
    whole_steps = chain-append (Leads est) (stack r s) rest k.stack-good.steps rest-steps
        (λ a b p q.
        let u = old 0 b q in
        let z : base + 0 ≡ base = omega arith in
        let same : x ≡ u.0 = ok_same (sym at_base ∙ ap (at path) (sym z) ∙ u.1) in
        let e : est_of b ≡ h.est_curr.idx_next.0 = sym (ap (λ (y : EstIdx). y.0) u.2) ∙ sym (ap est_of same) ∙ next-is in
        subst (λ (y : DispNode). Leads est y b) (ok_same (sym (stack-last links r g s k.stack-good h st) ∙ p)) (next-leads links r g s k.stack-good h st b e))

    whole_long : length (stack r s ++ rest) ≡ s.idx_split + length s.disp_path_new + (length path - base)
    whole_long = omega (arith, length-append (stack r s) rest, stack-length links r g s k.stack-good, rest-long)

    whole_starts : (n : DispNode) → at (stack r s ++ rest) 0 ≡ ok n → est_of n ≡ 0
    whole_starts n p =
        let a = stack-length links r g s k.stack-good in
        let b = length-take-le s.idx_split path (omega (arith, k.stack-good.high)) in
        g.path.starts n (sym (at_take s.idx_split path 0 k.stack-good.low) ∙ sym (at_left (take s.idx_split path) s.disp_path_new 0 (omega (arith, k.stack-good.low))) ∙ sym (at_left (stack r s) rest 0 (omega (arith, k.stack-good.low))) ∙ p)

    whole_ends : EndsPath est (stack r s ++ rest)
    whole_ends n y p q =
        let l = at_last rest (sym (last-append (stack r s) rest rest_some) ∙ p) in
        let u = old (length rest - 1) n l in
        g.path.ends u.0 y (last-at path (base + (length rest - 1)) (omega (arith, rest-long, at-below path base at_base)) u.1) (ap (λ (e : EstIdx). at est e.0) u.2 ∙ q)

    pub whole_accepted : Distinct (links_on_path (stack r s ++ rest)) → PathAccepted links est (stack r s ++ rest)
    whole_accepted d = record {
      some = omega (arith, whole_long, k.stack-good.low);
      few = chain-few links est g.ests (stack r s ++ rest) whole_steps (λ n p. omega (arith, whole_starts n p, g.ests.some));
      each = each_append (NodeAccepted links (length est)) (stack r s) rest (each_append (NodeAccepted links (length est)) (take s.idx_split path) s.disp_path_new (each_take (NodeAccepted links (length est)) s.idx_split path g.path.each) k.nodes-good) m.each;
      starts = whole_starts;
      steps = whole_steps;
      ends = whole_ends;
      distinct = d;
    }

  -- the path that a join leaves has at most as many nodes as there are est records
  pub join-few : (b : ℕ) → walk_from (λ (n : DispNode). same_est h.est_curr.idx_next n.est_idx) path r.idx_split_save ≡ ok b → s.idx_split + length s.disp_path_new + (length path - b) ≤ length est
  join-few b q =
      let w = walk_ok (λ (n : DispNode). same_est h.est_curr.idx_next n.est_idx) path r.idx_split_save q in
      let e = sym (eqb-true h.est_curr.idx_next.0 (est_of w.0) w.2) in
      let m = moved_none links (length est) (drop b path) (each-drop (NodeAccepted links (length est)) b path g.path.each) in
      omega (
        arith,
        whole_long b w.0 w.1 e (drop b path) m,
        chain-few links est g.ests (stack r s ++ drop b path) (whole_steps b w.0 w.1 e (drop b path) m) (λ n p. omega (arith, whole_starts b w.0 w.1 e (drop b path) m n p, g.ests.some)),
      )

  -- ---- the diverge nodes
  module _ (base : ℕ) (l : base < length path) (d : Divs) (w : DivsUpdated (length path) r.train.diverge_room s.div_idx_split base h.idx_join_new r.train.div_nodes s.div_nodes_new d) where
    abbrev divs : List DivergeNode
    divs = r.train.div_nodes

    mid_good : Each (NewDivGood s.idx_split h.idx_join_new) (drop 1 s.div_nodes_new)
    mid_good i y p = let u = k.divs-good.inner (1 + i) y (omega arith) (sym (at_drop 1 s.div_nodes_new i) ∙ p) in record { low = u.low; high = omega (arith, u.high, st.join_is); train = u.train }

    pub divs-accepted : DivsAccepted (h.idx_join_new + (length path - base)) r.train.diverge_room d.div_nodes
    divs-accepted = subst (λ (y : List DivergeNode). DivsAccepted (h.idx_join_new + (length path - base)) r.train.diverge_room y) (sym w.divs-is)
        (spliced_accepted (length path) (h.idx_join_new + (length path - base)) r.train.diverge_room s.idx_split h.idx_join_new s.div_idx_split divs (drop 1 s.div_nodes_new) w.rest
        g.divs k.div_split-good.low k.div_split-good.high k.div_split-good.node k.stack-good.low (omega (arith, st.join_is)) (omega arith)
        (chain-drop (λ (a b : DivergeNode). a.disp_node_idx ≤ b.disp_node_idx) 1 s.div_nodes_new k.divs-good.sorted) mid_good w.behind_join w.few)

    pub divs-point : DivPoint d.div_nodes h.idx_join_new d.div_idx_split
    divs-point = subst (λ (n : ℕ). DivPoint d.div_nodes h.idx_join_new n) (sym w.split-is)
        (subst (λ (y : List DivergeNode). DivPoint y h.idx_join_new (s.div_idx_split + length (drop 1 s.div_nodes_new))) (sym w.divs-is)
        (spliced_point (length path) (h.idx_join_new + (length path - base)) r.train.diverge_room s.idx_split h.idx_join_new s.div_idx_split divs (drop 1 s.div_nodes_new) w.rest
        g.divs k.div_split-good.low k.div_split-good.high k.div_split-good.node k.stack-good.low (omega (arith, st.join_is)) (omega arith)
        (chain-drop (λ (a b : DivergeNode). a.disp_node_idx ≤ b.disp_node_idx) 1 s.div_nodes_new k.divs-good.sorted) mid_good w.behind_join w.few))

  -- ---- the train
  pub join-good : {e : Ended} → join r h s ≡ ok (ends e) → EndsGood links r.train e
  join-good q =
      let j = joined_to links r g s k.div_split-good.low h q in
      let w = j.helpers in
      let base-in = at-below path j.base j.at_base in
      let long = whole_long j.base j.node j.at_base j.next-is w.rest w.moved in
      let total : length (stack r s ++ w.rest) ≡ h.idx_join_new + (length path - j.base) = omega (arith, st.join_is) in
      subst (λ (y : Ended). EndsGood links r.train y) j.is (
        record {
          accepted = record {
            ests = g.ests;
            path = whole_accepted j.base j.node j.at_base j.next-is w.rest w.moved w.distinct;
            divs = subst (λ (n : ℕ). DivsAccepted n r.train.diverge_room j.divs.div_nodes) (sym total) (divs-accepted j.base base-in j.divs j.updated);
            room = g.room;
            fixed = omega (arith, j.free_in);
            free = omega (arith, j.free_in);
            front = omega (arith, w.front_in);
            back = omega (arith, w.back_in);
            search = g.search;
            fixed_max = g.fixed_max;
            train = g.train;
          };
          same = record { ests = refl; train = refl; search = refl; fixed_max = refl; room = refl };
        },
        record {
          low = omega (arith, k.stack-good.low, st.join_is);
          high = omega arith;
          point = divs-point j.base base-in j.divs j.updated;
        },
      )
