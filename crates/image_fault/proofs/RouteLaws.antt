-- What refusals 8 and 9 give of an accepted image: its path steps through acyclic est records. Assumes nothing.
use mathlib.Core.Path.{◌≡◌, refl, sym, ◌∙◌}
use mathlib.Core.Logic.{◌⊎◌, inl, inr, ⊎_elim}
use mathlib.Core.Bool.{Bool, true, not, ◌||◌}
use mathlib.Core.List.{List}
use Prim.Native.Nat.{ℕ, zero, suc, ◌+◌, ◌-◌, ◌≤◌, ◌<◌}
use native.Mathlib.Nat.{eq-or-lt_of_le}
use native.Mathlib.Omega.{arith}
use lib.Dec.{eqb, ltb, leb, lit<}
use borrow.Author.Tests.{eqb-true, eqb-false, not-true, eq-eqb, ne_eqb, ltb-true, leb-true}
use Rattle.link_rules.specs.declared.link_idx.LinkIdx.{LinkIdx}
use Rattle.disp_structs.specs.Values.{is_arrive}
use Rattle.disp_structs.specs.Listed.{listed}
use Rattle.disp_structs.proofs.ListedLaws.{listed_at}
use Rattle.est_times.specs.Cycles.{first_on_cycle}
use Rattle.est_times.specs.Walks.{Step, Steps}
use Rattle.std.proofs.Common.{Option, Some, None}
use Rattle.est_times.proofs.WalkLaws.{or_right, or_cases}
use Rattle.image.specs.Image.{est_count, path_count_of, diverge_count_of, est_at, node_at, diverge_at}
use Rattle.image_fault.specs.ImageFault.{first_unfit, nexts, alts, cycle_refused, cycle_fault, steps_to, comes_from, ends_at, arrives_on, arrived, first_arrival, on_route, inner_fits, diverge_fits, route_fault}
use Rattle.image_fault.specs.declared.Widths.{Widths}
use Rattle.image_fault.proofs.ScanLaws.{first_clean}
use Rattle.link_rules.proofs.TableLaws.{both}
use Rattle.image_fault.proofs.AcceptLaws.{Accepted, or_else_clean, clean_node, node-fits}

-- an Arrive on the link stands before i
arrived_yes : (bs : List ℕ) (x : LinkIdx) (j i : ℕ) → j < i → arrives_on x (node_at bs j).link_event ≡ true → arrived bs x i ≡ true
unfolding arrived
arrived_yes bs x j zero l h = absurd (omega arith)
arrived_yes bs x j (suc i) l h = go (eq-or-lt_of_le l) (λ m. arrived_yes bs x j i m h)
  where
    or_left : (s t : Bool) → s ≡ true → (s || t) ≡ true
    or_left s t e = rw e

    go : (suc j ≡ suc i) ⊎ (suc j < suc i) → (j < i → arrived bs x i ≡ true) → (arrived bs x i || arrives_on x (node_at bs i).link_event) ≡ true
    go (inl q) r = let e : j ≡ i = omega arith in or_right (arrived bs x i) (arrives_on x (node_at bs i).link_event) (rw e at h)
    go (inr m) r = or_left (arrived bs x i) (arrives_on x (node_at bs i).link_event) (r (omega arith))

module _ {w : Widths} (bs : List ℕ) (l : ℕ) (a : Accepted w bs l) where
  -- 8: next and alt form no cycle
  pub no_cycle : first_on_cycle (nexts bs) (alts bs) (est_count bs) ≡ None
  unfolding cycle_fault
  no_cycle = go (first_on_cycle (nexts bs) (alts bs) (est_count bs)) a.cycle
    where
      go : (c : Option ℕ) → (cycle_refused c).number ≡ 0 → c ≡ None
      go None h = refl
      go (Some i) h = absurd (omega arith)

  -- 9: each node of the path passes, and each diverge node
  pub on-route : (i : ℕ) → i < path_count_of bs → on_route bs i ≡ true
  unfolding route_fault
  on-route i h =
      first_clean 9 (lit< tt) (on_route bs) (path_count_of bs) 0
      (or_else_clean (first_unfit 9 (on_route bs) (path_count_of bs) 0) (first_unfit 9 (diverge_fits bs) (diverge_count_of bs) 0) a.route).0 i (omega arith) (omega arith)

  pub diverge-fits : (i : ℕ) → i < diverge_count_of bs → diverge_fits bs i ≡ true
  unfolding route_fault
  diverge-fits i h =
      first_clean 9 (lit< tt) (diverge_fits bs) (diverge_count_of bs) 0
      (or_else_clean (first_unfit 9 (on_route bs) (path_count_of bs) 0) (first_unfit 9 (diverge_fits bs) (diverge_count_of bs) 0) a.route).1 i (omega arith) (omega arith)

  comes : (i : ℕ) → i < path_count_of bs → comes_from bs i ≡ true
  unfolding on_route
  comes i h = (both (comes_from bs i) _ (on-route i h)).0

  -- the path starts at est 0
  pub starts : 0 < path_count_of bs → (node_at bs 0).est_idx.0 ≡ 0
  unfolding comes_from
  starts h = eqb-true (node_at bs 0).est_idx.0 0 (comes 0 h)

  -- and each node behind is a step from the node before it
  steps_on : (i : ℕ) → i + 1 < path_count_of bs
      → steps_to (est_at bs (node_at bs i).est_idx.0).idx_next (est_at bs (node_at bs i).est_idx.0).idx_next_alt (node_at bs (i + 1)).est_idx ≡ true
  unfolding comes_from
  steps_on i h =
      let e : i + 1 - 1 ≡ i = omega arith in
      rw (ne_eqb (i + 1) 0 (λ q. omega arith), e) at (comes (i + 1) h)

  est-below : (i : ℕ) → i < path_count_of bs → (node_at bs i).est_idx.0 < est_count bs
  est-below i h = (node-fits bs l i (clean_node bs l a.values i h)).est

  step_on : (i : ℕ) → i + 1 < path_count_of bs → Step (nexts bs) (alts bs) (est_count bs) (node_at bs i).est_idx.0 (node_at bs (i + 1)).est_idx.0
  unfolding steps_to
  step_on i h =
      let x = (node_at bs i).est_idx.0 in
      let y = (node_at bs (i + 1)).est_idx.0 in
      let r = both (not (eqb y 0)) _ (steps_on i h) in
      let lx = est-below i (omega arith) in
      record {
        from = lx;
        to = est-below (i + 1) h;
        some = eqb-false y 0 (not-true (eqb y 0) r.0);
        leads = ⊎_elim
            (λ (s : eqb y (est_at bs x).idx_next.0 ≡ true).
            inl (listed_at (est_count bs) (λ j. (est_at bs j).idx_next.0) x 0 lx ∙ sym (eqb-true y (est_at bs x).idx_next.0 s)))
            (λ (s : eqb y (est_at bs x).idx_next_alt.0 ≡ true).
            inr (listed_at (est_count bs) (λ j. (est_at bs j).idx_next_alt.0) x 0 lx ∙ sym (eqb-true y (est_at bs x).idx_next_alt.0 s)))
            (or_cases (eqb y (est_at bs x).idx_next.0) (eqb y (est_at bs x).idx_next_alt.0) r.1);
      }

  -- the ests of the path, in the words of est_times
  pub path-steps : Steps (nexts bs) (alts bs) (est_count bs) (listed (path_count_of bs) (λ i. (node_at bs i).est_idx.0)) (path_count_of bs)
  path-steps i h =
      rw (listed_at (path_count_of bs) (λ j. (node_at bs j).est_idx.0) i 0 (omega arith), listed_at (path_count_of bs) (λ j. (node_at bs j).est_idx.0) (i + 1) 0 h) (step_on i h)

  route_parts : (i : ℕ) → i < path_count_of bs → (ends_at bs i ≡ true) × (first_arrival bs i ≡ true)
  unfolding on_route
  route_parts i h = both (ends_at bs i) (first_arrival bs i) (both (comes_from bs i) _ (on-route i h)).1

  -- it ends where next is none
  pub ends : (n : ℕ) → n + 1 ≡ path_count_of bs → (est_at bs (node_at bs n).est_idx.0).idx_next.0 ≡ 0
  unfolding ends_at
  ends n q =
      let h = (route_parts n (omega arith)).0 in
      eqb-true (est_at bs (node_at bs n).est_idx.0).idx_next.0 0 (rw (eq-eqb (n + 1) (path_count_of bs) q) at h)

  -- no link is arrived at twice
  pub arrives_once : (j i : ℕ) → j < i → i < path_count_of bs → is_arrive (node_at bs j).link_event.est_type ≡ true → is_arrive (node_at bs i).link_event.est_type ≡ true
      → (node_at bs j).link_event.link_idx.0 ≡ (node_at bs i).link_event.link_idx.0 → ⊥
  unfolding first_arrival arrives_on
  arrives_once j i l h tj ti q =
      let x = (node_at bs i).link_event.link_idx in
      let f = not-true (arrived bs x i) (rw ti at (route_parts i h).1) in
      let on : arrives_on x (node_at bs j).link_event ≡ true = rw tj (eq-eqb (node_at bs j).link_event.link_idx.0 x.0 q) in
      let t = arrived_yes bs x j i l on in
      let z : ◌≡◌ {A = ℕ} 0 1 = cc in
      omega arith

  -- ---- the diverge nodes: first (0, 0), last at N, between them sorted by node, 1 to N - 1, trains not 0

  pub diverge-first : 0 < diverge_count_of bs → ((diverge_at bs 0).train_idx.0 ≡ 0) × ((diverge_at bs 0).disp_node_idx ≡ 0)
  unfolding diverge_fits
  diverge-first h =
      let r = both (eqb (diverge_at bs 0).train_idx.0 0) (eqb (diverge_at bs 0).disp_node_idx 0) (diverge-fits 0 h) in
      (eqb-true (diverge_at bs 0).train_idx.0 0 r.0, eqb-true (diverge_at bs 0).disp_node_idx 0 r.1)

  pub diverge-last : (n : ℕ) → 0 < n → n + 1 ≡ diverge_count_of bs → (diverge_at bs n).disp_node_idx ≡ path_count_of bs
  unfolding diverge_fits
  diverge-last n l q =
      eqb-true (diverge_at bs n).disp_node_idx (path_count_of bs)
      (rw (ne_eqb n 0 (λ z. omega arith), eq-eqb (n + 1) (diverge_count_of bs) q) at (diverge-fits n (omega arith)))

  pub diverge-inner : (i : ℕ) → 0 < i → i + 1 < diverge_count_of bs
      → ((diverge_at bs i).train_idx.0 ≡ 0 → ⊥) × (1 ≤ (diverge_at bs i).disp_node_idx) × ((diverge_at bs i).disp_node_idx < path_count_of bs)
      × ((diverge_at bs (i - 1)).disp_node_idx ≤ (diverge_at bs i).disp_node_idx)
  unfolding diverge_fits inner_fits
  diverge-inner i l h =
      let d = diverge_at bs i in
      let b = diverge_at bs (i - 1) in
      let k = rw (ne_eqb i 0 (λ z. omega arith), ne_eqb (i + 1) (diverge_count_of bs) (λ z. omega arith)) at (diverge-fits i (omega arith)) in
      let r1 = both (not (eqb d.train_idx.0 0)) _ k in
      let r2 = both (leb 1 d.disp_node_idx) _ r1.1 in
      let r3 = both (ltb d.disp_node_idx (path_count_of bs)) (leb b.disp_node_idx d.disp_node_idx) r2.1 in
      (eqb-false d.train_idx.0 0 (not-true (eqb d.train_idx.0 0) r1.0), leb-true 1 d.disp_node_idx r2.0, ltb-true d.disp_node_idx (path_count_of bs) r3.0, leb-true b.disp_node_idx d.disp_node_idx r3.1)
