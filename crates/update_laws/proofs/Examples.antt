-- Accepted holds of something: the train of slot 1 of document 01's sheet example, beside three links. Assumes nothing.
use mathlib.Core.Path.{◌≡◌, refl, sym, ap, ◌∙◌}
use mathlib.Core.Logic.{inl}
use mathlib.Core.Bool.{true}
use mathlib.Core.List.{[], ◌∷◌}
use Prim.Native.Nat.{ℕ, ◌≤◌, ◌<◌}
use native.Mathlib.Omega.{arith}
use lib.Ieee.{binary64, of_bits, neg, lt, le, eq}
use Rattle.disp_structs.specs.Floats.{in_reach}
use Rattle.disp_structs.specs.Values.{is_arrive}
use Rattle.disp_structs.specs.Train.{Train}
use Rattle.disp_structs.specs.declared.EstType.{EstType}
use Rattle.disp_structs.specs.declared.EstType.TheVariants.{Arrive, Clear, Fake}
use Rattle.disp_structs.specs.declared.EstTime.{EstTime}
use Rattle.disp_structs.specs.declared.DispNode.{DispNode}
use Rattle.disp_structs.specs.declared.DivergeNode.{DivergeNode}
use Rattle.est_times.specs.Cycles.{follow, via, reach, first_at}
use Rattle.free_path.specs.Base.{at, any}
use Rattle.free_path.specs.LinkOptType.{links_on_path, contains}
use Rattle.update_definition.specs.Accepted.{Accepted, EstAccepted, NodeAccepted, Leads}
use Rattle.update_laws.proofs.Answers.{ok_same}
use Rattle.update_laws.proofs.Lists.{each_none, each-cons, chain-one, chain_cons}

-- dist 0, next, prev, link and type
abbrev est : ℕ → ℕ → ℕ → EstType → EstTime
est next prev l t =
    record {
      dist_to_next = record { 0 = of_bits binary64 0 };
      idx_next = record { 0 = next };
      idx_next_alt = record { 0 = 0 };
      idx_prev = record { 0 = prev };
      idx_prev_alt = record { 0 = 0 };
      link_event = record { link_idx = record { 0 = l }; est_type = t };
    }

-- offset 0, time_pass +infinity, link, est and type
abbrev node : ℕ → ℕ → EstType → DispNode
node l e t =
    record {
      offset = record { 0 = of_bits binary64 0 };
      time_pass = record { 0 = of_bits binary64 0x7ff0_0000_0000_0000 };
      link_event = record { link_idx = record { 0 = l }; est_type = t };
      est_idx = record { 0 = e };
      disp_auth_idx_entry = 0;
    }

abbrev slot : Train
slot =
    record {
      est_times = est 1 0 0 Fake ∷ est 2 0 1 Arrive ∷ est 0 1 1 Clear ∷ [];
      disp_path = node 0 0 Fake ∷ node 1 1 Arrive ∷ node 1 2 Clear ∷ [];
      div_nodes = record { train_idx = record { 0 = 0 }; disp_node_idx = 0 } ∷ record { train_idx = record { 0 = 0 }; disp_node_idx = 3 } ∷ [];
      disp_node_idx_fixed = 0;
      disp_node_idx_free = 0;
      disp_node_idx_front = 0;
      disp_node_idx_back = 0;
      dist_disp_path_search = record { 0 = of_bits binary64 0 };
      dist_fixed_max = record { 0 = of_bits binary64 0 };
      train_idx = record { 0 = 1 };
      diverge_room = 2;
    }

est-accepted : (next prev l : ℕ) (t : EstType) → next < 3 → prev < 3 → l < 3 → (l ≡ 0 → t ≡ Fake) → EstAccepted 3 3 (est next prev l t)
unfolding in_reach le neg of_bits
est-accepted next prev l t a b c f = record {
  dist = refl;
  next = a;
  alt = omega arith;
  prev = b;
  prev_alt = omega arith;
  event = record { link = c; arrives = λ p q. arrive_some p (f q) };
}
  where
    arrive_some : is_arrive t ≡ true → t ≡ Fake → ⊥
    arrive_some p q = let z : ◌≡◌ {A = ℕ} 0 1 = cc in omega arith

node-accepted : (l e : ℕ) (t : EstType) → l < 3 → e < 3 → (l ≡ 0 → t ≡ Fake) → NodeAccepted 3 3 (node l e t)
unfolding in_reach le neg of_bits eq
node-accepted l e t c b f = record {
  reach = refl;
  time = refl;
  event = record { link = c; arrives = λ p q. arrive_some p (f q) };
  est = b;
}
  where
    arrive_some : is_arrive t ≡ true → t ≡ Fake → ⊥
    arrive_some p q = let z : ◌≡◌ {A = ℕ} 0 1 = cc in omega arith

zero_one : {A : Type 0} → ◌≡◌ {A = ℕ} 1 0 → A
zero_one h = absurd (omega arith)

pub slot-accepted : Accepted 3 slot
unfolding at any contains links_on_path in_reach le lt neg of_bits follow via reach first_at
slot-accepted = record {
  ests = record {
    some = omega arith;
    few = omega arith;
    each = each-cons (EstAccepted 3 3) (est 1 0 0 Fake) (est 2 0 1 Arrive ∷ est 0 1 1 Clear ∷ []) (est-accepted 1 0 0 Fake (omega arith) (omega arith) (omega arith) (λ q. refl))
        (each-cons (EstAccepted 3 3) (est 2 0 1 Arrive) (est 0 1 1 Clear ∷ []) (est-accepted 2 0 1 Arrive (omega arith) (omega arith) (omega arith) (λ q. zero_one q))
        (each-cons (EstAccepted 3 3) (est 0 1 1 Clear) [] (est-accepted 0 1 1 Clear (omega arith) (omega arith) (omega arith) (λ q. zero_one q)) (each_none (EstAccepted 3 3))));
    acyclic = refl;
  };
  path = record {
    some = omega arith;
    few = omega arith;
    each = each-cons (NodeAccepted 3 3) (node 0 0 Fake) (node 1 1 Arrive ∷ node 1 2 Clear ∷ []) (node-accepted 0 0 Fake (omega arith) (omega arith) (λ q. refl))
        (each-cons (NodeAccepted 3 3) (node 1 1 Arrive) (node 1 2 Clear ∷ []) (node-accepted 1 1 Arrive (omega arith) (omega arith) (λ q. zero_one q))
        (each-cons (NodeAccepted 3 3) (node 1 2 Clear) [] (node-accepted 1 2 Clear (omega arith) (omega arith) (λ q. zero_one q)) (each_none (NodeAccepted 3 3))));
    starts = λ n h. ap (λ (m : DispNode). m.est_idx.0) (ok_same (sym h));
    steps = chain_cons (Leads slot.est_times) (node 0 0 Fake) (node 1 1 Arrive) (node 1 2 Clear ∷ []) (record { record_of = est 1 0 0 Fake; stands = refl; some = λ q. zero_one q; leads = inl refl })
        (chain_cons (Leads slot.est_times) (node 1 1 Arrive) (node 1 2 Clear) [] (record { record_of = est 2 0 1 Arrive; stands = refl; some = λ q. absurd (omega arith); leads = inl refl }) (chain-one (Leads slot.est_times) (node 1 2 Clear)));
    ends = λ n x h p.
        let e : 2 ≡ n.est_idx.0 = ap (λ (m : DispNode). m.est_idx.0) (ok_same h) in
        let same : est 0 1 1 Clear ≡ x = ok_same (ap (at slot.est_times) e ∙ p) in
        sym (ap (λ (y : EstTime). y.idx_next.0) same);
    distinct = (refl, tt);
  };
  divs = record {
    some = omega arith;
    few = omega arith;
    first = refl;
    end = λ d h. sym (ap (λ (y : DivergeNode). y.disp_node_idx) (ok_same h));
    sorted = chain_cons (λ (a b : DivergeNode). a.disp_node_idx ≤ b.disp_node_idx) (record { train_idx = record { 0 = 0 }; disp_node_idx = 0 }) (record { train_idx = record { 0 = 0 }; disp_node_idx = 3 }) [] (omega arith)
        (chain-one (λ (a b : DivergeNode). a.disp_node_idx ≤ b.disp_node_idx) (record { train_idx = record { 0 = 0 }; disp_node_idx = 3 }));
    inner = λ i d l m h. absurd (omega arith);
  };
  room = omega arith;
  fixed = omega arith;
  free = omega arith;
  front = omega arith;
  back = omega arith;
  search = refl;
  fixed_max = refl;
  train = λ q. zero_one q;
}
