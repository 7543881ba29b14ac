-- The new nodes of the search are accepted. Assumes nothing.
use mathlib.Core.Path.{◌≡◌, refl}
use mathlib.Core.Bool.{false}
use mathlib.Core.List.{List, [], ◌∷◌, ◌++◌}
use Prim.Native.Nat.{ℕ, ◌-◌, ◌<◌}
use native.Mathlib.Omega.{arith}
use lib.Ieee.{eq}
use lib.ListN.{length}
use Rattle.disp_structs.specs.declared.DispNode.{DispNode}
use Rattle.est_times.proofs.Counting.{clash}
use Rattle.free_path.specs.Base.{ok}
use Rattle.update_definition.specs.State.{Round, Search, Turn}
use Rattle.update_definition.specs.Look.{Here, current}
use Rattle.update_definition.specs.Moves.{alternate_node, saved_node, advance_node}
use Rattle.update_definition.specs.Accepted.{Each, Accepted, EstAccepted, NodeAccepted}
use Rattle.update_laws.specs.Turns.{Stands, Looks, Did, After}
use Rattle.update_laws.specs.Turns.Looks.{passes, blocks}
use Rattle.update_laws.specs.Turns.Did.{pops, shortens, gives_up, alternates, changes, saves, empties, advances, joins}
use Rattle.update_laws.specs.Good.{NodesGood}
use Rattle.update_laws.proofs.Answers.{before-ok}
use Rattle.update_laws.proofs.Lists.{at_some, at_last, each_append, each-one, each_take}

module _ (links : ℕ) (r : Round) (g : Accepted links r.train) where
  abbrev E : ℕ
  E = length r.train.est_times

  -- there is a link, since est 0 has one
  some-link : 0 < links
  some-link = let x = at_some r.train.est_times 0 g.ests.some in omega (arith, (g.ests.each 0 x.0 x.1).event.link)

  module _ (s : Search) (k : NodesGood links r s) (h : Here) (st : Stands r s h) where
    pub curr-accepted : NodeAccepted links E h.disp_node_curr
    curr-accepted = go s.disp_path_new k st.curr
      where
        go : (new : List DispNode) → Each (NodeAccepted links E) new → current r.train.disp_path new s.idx_split ≡ ok h.disp_node_curr → NodeAccepted links E h.disp_node_curr
        go [] e q = g.path.each (s.idx_split - 1) h.disp_node_curr (before-ok r.train.disp_path s.idx_split q).1
        go (a ∷ new) e q = e (length (a ∷ new) - 1) h.disp_node_curr (at_last (a ∷ new) q)

    est-accepted : EstAccepted links E h.est_curr
    est-accepted = g.ests.each h.disp_node_curr.est_idx.0 h.est_curr st.est

    pushed : (b : DispNode) → NodeAccepted links E b → Each (NodeAccepted links E) (s.disp_path_new ++ (b ∷ []))
    pushed b a = each_append (NodeAccepted links E) s.disp_path_new (b ∷ []) k (each-one (NodeAccepted links E) b a)

    pub did-nodes : {t : Turn} → Did r h s t → After (NodesGood links r) t
    unfolding eq
    did-nodes (pops w n ns q) = each_take (NodeAccepted links E) (length s.disp_path_new - 1) s.disp_path_new k
    did-nodes (shortens w q l) = k
    did-nodes (gives_up w q) = tt
    did-nodes (alternates ts p b n f c w off) = pushed (alternate_node h.disp_node_curr h.est_curr.idx_next_alt) (record {
      reach = w;
      time = curr-accepted.time;
      event = record { link = some-link; arrives = λ z. clash false z refl };
      est = est-accepted.alt;
    })
    did-nodes (changes d b q) = tt
    did-nodes (saves n m f l a w z) =
        let x = g.path.each s.idx_save n a in
        pushed (saved_node n h.est_curr.idx_next) (record { reach = x.reach; time = x.time; event = x.event; est = est-accepted.next })
    did-nodes (empties f l) = k
    did-nodes (advances f w) = pushed (advance_node h) (record {
      reach = w;
      time = refl;
      event = (g.ests.each h.est_curr.idx_next.0 h.est_next st.next).event;
      est = est-accepted.next;
    })
    did-nodes (joins d b q) = tt

-- a look has no new node
pub looks_nodes : (links : ℕ) (r : Round) (h : Here) {s u : Search} → Looks r h s u → NodesGood links r s → NodesGood links r u
looks_nodes links r h (passes d a b) k = k
looks_nodes links r h (blocks d ts a b c t f some) k = k
