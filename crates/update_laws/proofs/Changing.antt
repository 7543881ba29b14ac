-- ChangeDiverge leaves an accepted train. Assumes nothing.
use mathlib.Core.Path.{◌≡◌, refl, sym, subst}
use mathlib.Core.Bool.{true, not}
use mathlib.Core.List.{List, ◌++◌}
use Prim.Native.Nat.{ℕ, ◌+◌, ◌-◌, ◌≤◌, ◌<◌}
use native.Mathlib.Omega.{arith}
use lib.Dec.{leb, eqb}
use lib.ListN.{length, take, drop}
use borrow.Author.Tests.{leb-true, eqb-true, eqb-false, not-true}
use Rattle.link_rules.specs.declared.link_idx.TrainIdx.{TrainIdx}
use Rattle.disp_structs.specs.Values.{same_est}
use Rattle.disp_structs.specs.declared.DivergeNode.{DivergeNode}
use Rattle.free_path.specs.Base.{ok, at, is_empty, walk_from}
use Rattle.update_definition.specs.State.{Round, Search, Turn, ends, Ended, again, view_of, blocked, diverging, with_free, with_div_nodes}
use Rattle.update_definition.specs.Look.{Here}
use Rattle.update_definition.specs.Moves.{trains_of, change_diverge}
use Rattle.update_definition.specs.Accepted.{Each, Accepted, DivsAccepted}
use Rattle.update_laws.specs.Turns.{SomeTrain}
use Rattle.update_laws.specs.Good.{Good, NewDivGood}
use Rattle.update_laws.specs.AfterRound.{DivPoint, EndsGood}
use Rattle.update_laws.proofs.Answers.{ok_same, bind_ok, need-ok, room-ok}
use Rattle.update_laws.proofs.Lists.{walk_ok}
use Rattle.update_laws.proofs.Pools.{view-trains}
use Rattle.update_laws.proofs.Views.{blocked-blocks}
use Rattle.update_laws.proofs.NewDivs.{sorted_upto, diverging-at, diverging-sorted, diverging-length}
use Rattle.update_laws.proofs.DivSplice.{Behind, spliced_accepted, spliced_point}
use Rattle.update_laws.proofs.DivNodes.{shifted_none, behind}

pub ends_same : {a b : Ended} → ◌≡◌ {A = Turn} (ends a) (ends b) → a ≡ b
ends_same h = cc

-- what ChangeDiverge puts together
pub record ChangedTo (r : Round) (h : Here) (s : Search) (e : Ended) : Type 0 where
  pub trains : List TrainIdx
  pub at_split : DivergeNode
  pub later : DivergeNode
  pub from : ℕ
  pub trains_are : trains_of s.train_idxs_blocking (view_of s.views h.est_curr.idx_next) ≡ ok trains
  pub split_at : at r.train.div_nodes s.div_idx_split ≡ ok at_split
  pub split-is : s.idx_split ≡ at_split.disp_node_idx
  pub behind_it : s.div_idx_split + 1 ≤ from
  pub later-at : at r.train.div_nodes from ≡ ok later
  pub other : later.disp_node_idx ≡ s.idx_split → ⊥
  pub few : length (take s.div_idx_split r.train.div_nodes ++ diverging s.idx_split trains ++ drop from r.train.div_nodes) ≤ r.train.diverge_room
  pub is : again (with_free (with_div_nodes r.train (take s.div_idx_split r.train.div_nodes ++ diverging s.idx_split trains ++ drop from r.train.div_nodes)) r.train.disp_node_idx_fixed) s.idx_split (s.div_idx_split + length trains) ≡ e

pub changed-to : (r : Round) (h : Here) (s : Search) {e : Ended} → change_diverge r h s ≡ ok (ends e) → ChangedTo r h s e
unfolding change_diverge
changed-to r h s {e} q =
    let divs = r.train.div_nodes in
    let a = need-ok (is_empty s.disp_path_new) q in
    let b = need-ok (eqb (length s.div_nodes_new) 1) a.1 in
    let c = need-ok (eqb h.idx_join_new s.idx_split) b.1 in
    let n = bind_ok (at r.train.disp_path s.idx_split) c.1 in
    let f = need-ok (same_est h.est_curr.idx_next_alt n.0.est_idx) n.2 in
    let d = bind_ok (at divs s.div_idx_split) f.1 in
    let i = need-ok (eqb s.idx_split d.0.disp_node_idx) d.2 in
    let j = bind_ok (walk_from (λ (x : DivergeNode). not (eqb x.disp_node_idx s.idx_split)) divs (s.div_idx_split + 1)) i.1 in
    let w = walk_ok (λ (x : DivergeNode). not (eqb x.disp_node_idx s.idx_split)) divs (s.div_idx_split + 1) j.1 in
    let t = bind_ok (trains_of s.train_idxs_blocking (view_of s.views h.est_curr.idx_next)) j.2 in
    let o = room-ok (leb (length (take s.div_idx_split divs ++ diverging s.idx_split t.0 ++ drop j.0 divs)) r.train.diverge_room) t.2 in
    record {
      trains = t.0;
      at_split = d.0;
      later = w.0;
      from = j.0;
      trains_are = t.1;
      split_at = d.1;
      split-is = eqb-true s.idx_split d.0.disp_node_idx i.0;
      behind_it = w.3;
      later-at = w.1;
      other = eqb-false w.0.disp_node_idx s.idx_split (not-true (eqb w.0.disp_node_idx s.idx_split) w.2);
      few = leb-true (length (take s.div_idx_split divs ++ diverging s.idx_split t.0 ++ drop j.0 divs)) r.train.diverge_room o.0;
      is = ends_same (ok_same o.1);
    }

module _ (links : ℕ) (r : Round) (g : Accepted links r.train) (s : Search) (k : Good links r s) (h : Here) where
  abbrev divs : List DivergeNode
  divs = r.train.div_nodes

  -- the diverge nodes at the split are changed for the trains ts
  module _ (ts : List TrainIdx) (some : Each SomeTrain ts) (d x : DivergeNode) (j : ℕ) (at_split : at divs s.div_idx_split ≡ ok d) (split-is : s.idx_split ≡ d.disp_node_idx)
      (later : s.div_idx_split + 1 ≤ j) (at_j : at divs j ≡ ok x) (other : x.disp_node_idx ≡ s.idx_split → ⊥)
      (few : length (take s.div_idx_split divs ++ diverging s.idx_split ts ++ drop j divs) ≤ r.train.diverge_room) where
    after-split : s.idx_split < x.disp_node_idx
    after-split = omega (arith, sorted_upto divs g.divs.sorted s.div_idx_split j d x (omega arith) at_split at_j, nonzero)
      where
        nonzero : (s.idx_split ≡ x.disp_node_idx) → ⊥
        nonzero q = other (sym q)

    rest_behind : Behind (s.idx_split + (length r.train.disp_path - s.idx_split)) s.idx_split (drop j divs)
    rest_behind = behind (length r.train.disp_path) r.train.diverge_room s.idx_split s.idx_split j divs (drop j divs) x g.divs (omega (arith, k.stack-good.high)) (omega arith) at_j after-split (shifted_none s.idx_split (drop j divs))

    mid_good : Each (NewDivGood s.idx_split s.idx_split) (diverging s.idx_split ts)
    mid_good i y p = let z = diverging-at s.idx_split ts some i y p in record { low = omega (arith, z.0); high = omega (arith, z.0); train = z.1 }

    long : s.idx_split + (length r.train.disp_path - s.idx_split) ≡ length r.train.disp_path
    long = omega (arith, k.stack-good.high)

    pub changed-accepted : DivsAccepted (length r.train.disp_path) r.train.diverge_room (take s.div_idx_split divs ++ diverging s.idx_split ts ++ drop j divs)
    changed-accepted = subst (λ (m : ℕ). DivsAccepted m r.train.diverge_room (take s.div_idx_split divs ++ diverging s.idx_split ts ++ drop j divs)) long
        (spliced_accepted (length r.train.disp_path) (s.idx_split + (length r.train.disp_path - s.idx_split)) r.train.diverge_room s.idx_split s.idx_split s.div_idx_split divs (diverging s.idx_split ts) (drop j divs)
        g.divs k.div_split-good.low k.div_split-good.high k.div_split-good.node k.stack-good.low (omega arith) (omega (arith, k.stack-good.high)) (diverging-sorted s.idx_split ts some) mid_good rest_behind few)

    pub changed-point : DivPoint (take s.div_idx_split divs ++ diverging s.idx_split ts ++ drop j divs) s.idx_split (s.div_idx_split + length ts)
    changed-point = subst (λ (m : ℕ). DivPoint (take s.div_idx_split divs ++ diverging s.idx_split ts ++ drop j divs) s.idx_split (s.div_idx_split + m)) (diverging-length s.idx_split ts)
        (spliced_point (length r.train.disp_path) (s.idx_split + (length r.train.disp_path - s.idx_split)) r.train.diverge_room s.idx_split s.idx_split s.div_idx_split divs (diverging s.idx_split ts) (drop j divs)
        g.divs k.div_split-good.low k.div_split-good.high k.div_split-good.node k.stack-good.low (omega arith) (omega (arith, k.stack-good.high)) (diverging-sorted s.idx_split ts some) mid_good rest_behind few)

  pub change_good : {e : Ended} → blocked s.views h.est_curr.idx_next ≡ true → change_diverge r h s ≡ ok (ends e) → EndsGood links r.train e
  change_good {e} bl q =
      let c = changed-to r h s q in
      let v = view_of s.views h.est_curr.idx_next in
      let some : Each SomeTrain c.trains = view-trains s.train_idxs_blocking v.idx_begin v.idx_end k.views-good.pool (blocked-blocks v (k.views-good.each h.est_curr.idx_next.0) bl).low c.trains_are in
      subst (λ (x : Ended). EndsGood links r.train x) c.is
      (done c.trains c.from
      (changed-accepted c.trains some c.at_split c.later c.from c.split_at c.split-is c.behind_it c.later-at c.other c.few)
      (changed-point c.trains some c.at_split c.later c.from c.split_at c.split-is c.behind_it c.later-at c.other c.few))
    where
      done : (ts : List TrainIdx) (j : ℕ) → DivsAccepted (length r.train.disp_path) r.train.diverge_room (take s.div_idx_split divs ++ diverging s.idx_split ts ++ drop j divs)
          → DivPoint (take s.div_idx_split divs ++ diverging s.idx_split ts ++ drop j divs) s.idx_split (s.div_idx_split + length ts)
          → EndsGood links r.train (again (with_free (with_div_nodes r.train (take s.div_idx_split divs ++ diverging s.idx_split ts ++ drop j divs)) r.train.disp_node_idx_fixed) s.idx_split (s.div_idx_split + length ts))
      done ts j a p = (
        record {
          accepted = record {
            ests = g.ests;
            path = g.path;
            divs = a;
            room = g.room;
            fixed = g.fixed;
            free = g.fixed;
            front = g.front;
            back = g.back;
            search = g.search;
            fixed_max = g.fixed_max;
            train = g.train;
          };
          same = record { ests = refl; train = refl; search = refl; fixed_max = refl; room = refl };
        },
        record { low = k.stack-good.low; high = k.stack-good.high; point = p },
      )
