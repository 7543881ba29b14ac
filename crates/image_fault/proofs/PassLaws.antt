-- Where the one pass finds that all fits, no refusal applies. Assumes nothing.
use mathlib.Core.Path.{◌≡◌, refl, sym, ap, subst, ◌∙◌}
use mathlib.Core.Bool.{Bool, true, false, not, cond, ◌&&◌}
use mathlib.Core.List.{List}
use Prim.Native.Nat.{ℕ, zero, suc, ◌+◌, ◌≤◌, ◌<◌}
use native.Mathlib.Omega.{arith}
use lib.Dec.{leb, ltb, eqb}
use lib.ListN.{length}
use borrow.Author.Tests.{eqb-true, eqb-false, leb-true, le-leb}
use Rattle.link_rules.specs.Octets.{le_at}
use Rattle.link_rules.specs.Network.{all_below}
use Rattle.link_rules.proofs.TableLaws.{all-at, both}
use Rattle.disp_structs.specs.Values.{is_arrive}
use Rattle.disp_structs.specs.declared.EstType.TheVariants.{Arrive, Clear, Fake}
use Rattle.est_times.specs.Cycles.{first_on_cycle}
use Rattle.std.proofs.Common.{Option, Some, None}
use Rattle.image.specs.Fields.{diverge_words}
use Rattle.image.specs.Image.{est_count, path_count_of, diverge_count_of, is_wide, est_place, node_place, type_of, est_from, node_from, node_at}
use Rattle.image_fault.specs.ImageFault.{first_unfit, counts_fit, parts_fit, train_fits, est_type_fits, node_type_fits, diverge_spare_fits, unused_zero, records_fit, image_fits, float_fits, time_fits, event_fits, est_links_fit, est_fits, node_fits, header_fits, diverge_train_fits, trains_fault, value_fault, nexts, alts, cycle_refused, cycle_fault, on_route, diverge_fits, route_fault, fault_with, own_answer}
use Rattle.image_fault.specs.declared.Widths.{Widths}
use Rattle.link_rules.specs.Refusals.{no_refusal, or_else, raised, Answer}
use Rattle.link_rules.proofs.RefusalLaws.{raised_none, raised_some}
use Rattle.link_rules.specs.declared.refusal.Refusal.{Refusal}
use Rattle.image_fault.specs.AllFit.{event_passes, acyclic, est_passes, node_passes, path_passes, head_passes, wide_passes, diverges_pass, records_pass, all_fit}
use Rattle.image_fault.proofs.ScanLaws.{step_fit}
use Rattle.image_fault.proofs.AcceptLaws.{node-fits, event-link}

-- ---- what a record that passes has

pub record EstPasses (bs : List ℕ) (l i : ℕ) : Type 0 where
  pub kind : est_type_fits bs i ≡ true
  pub values : est_fits bs l i ≡ true

-- ---- a number that is at most 2 is its first byte

byte_four : (bs : List ℕ) (at : ℕ) → le_at 4 bs at ≤ 2 → le_at 1 bs at ≡ le_at 4 bs at
unfolding le_at
byte_four bs at h = omega arith

byte_two : (bs : List ℕ) (at : ℕ) → le_at 2 bs at ≤ 2 → le_at 1 bs at ≡ le_at 2 bs at
unfolding le_at
byte_two bs at h = omega arith

arrive_is : (n : ℕ) → is_arrive (type_of n) ≡ eqb n 0
unfolding type_of
arrive_is n = go (eqb n 0) (eqb n 1)
  where
    go : (a b : Bool) → is_arrive (cond a Arrive (cond b Clear Fake)) ≡ a
    go true b = refl
    go false true = refl
    go false false = refl

-- ---- one record

record EventPasses (l link kind : ℕ) : Type 0 where
  few : kind ≤ 2
  below : ltb link l ≡ true
  some : not (eqb kind 0 && eqb link 0) ≡ true

event-passes : (l link kind : ℕ) → event_passes l link kind ≡ true → EventPasses l link kind
unfolding event_passes
event-passes l link kind h =
    let a = both (leb kind 2) _ h in
    let b = both (ltb link l) (not (eqb kind 0 && eqb link 0)) a.1 in
    record { few = leb-true kind 2 a.0; below = b.0; some = b.1 }

est-passes : (bs : List ℕ) (l i : ℕ) → est_passes bs l i ≡ true → EstPasses bs l i
unfolding est_passes est_type_fits est_fits est_links_fit event_fits est_from
est-passes bs l i h =
    let p = est_place i in
    let e = est_count bs in
    let a = both (leb (p + 32) (length bs)) _ h in
    let b = both (float_fits (le_at 8 bs p)) _ a.1 in
    let c = both (event_passes l (le_at 4 bs (p + 24)) (le_at 4 bs (p + 28))) _ b.1 in
    let d = both (ltb (le_at 4 bs (p + 8)) e) _ c.1 in
    let f = both (ltb (le_at 4 bs (p + 12)) e) _ d.1 in
    let g = both (ltb (le_at 4 bs (p + 16)) e) (ltb (le_at 4 bs (p + 20)) e) f.1 in
    let v = event-passes l (le_at 4 bs (p + 24)) (le_at 4 bs (p + 28)) c.0 in
    record {
      kind = le-leb (le_at 4 bs (p + 28)) 2 v.few;
      values = rw (b.0, d.0, f.0, g.0, g.1, v.below, arrive_is, byte_four bs (p + 28) v.few) v.some;
    }

module _ (bs : List ℕ) (l i : ℕ) (h : node_passes bs l i ≡ true) where
  node-event : EventPasses l (le_at 4 bs (node_place (est_count bs) i + 16)) (le_at 2 bs (node_place (est_count bs) i + 26))
  unfolding node_passes
  node-event =
      let p = node_place (est_count bs) i in
      let a = both (leb (p + 32) (length bs)) _ h in
      let b = both (float_fits (le_at 8 bs p)) _ a.1 in
      let c = both (time_fits (le_at 8 bs (p + 8))) _ b.1 in
      event-passes l (le_at 4 bs (p + 16)) (le_at 2 bs (p + 26)) (both (event_passes l (le_at 4 bs (p + 16)) (le_at 2 bs (p + 26))) _ c.1).0

  pub pass_arrive : eqb (le_at 2 bs (node_place (est_count bs) i + 26)) 0 ≡ is_arrive (node_at bs i).link_event.est_type
  unfolding node_from
  pass_arrive = rw (arrive_is, byte_two bs (node_place (est_count bs) i + 26) node-event.few)

  node-passes : (node_type_fits bs i ≡ true) × (node_fits bs l i ≡ true)
  unfolding node_passes node_type_fits node_fits event_fits node_from
  node-passes =
      let p = node_place (est_count bs) i in
      let a = both (leb (p + 32) (length bs)) _ h in
      let b = both (float_fits (le_at 8 bs p)) _ a.1 in
      let c = both (time_fits (le_at 8 bs (p + 8))) _ b.1 in
      let d = both (event_passes l (le_at 4 bs (p + 16)) (le_at 2 bs (p + 26))) _ c.1 in
      let f = both (ltb (le_at 4 bs (p + 20)) (est_count bs)) (eqb (le_at 4 bs (p + 28)) 0) d.1 in
      let v = node-event in
      (rw (le-leb (le_at 2 bs (p + 26)) 2 v.few, f.1), rw (b.0, c.0, f.0, v.below, arrive_is, byte_two bs (p + 26) v.few) v.some)

pub pass_link : (bs : List ℕ) (l i : ℕ) → node_passes bs l i ≡ true → (node_at bs i).link_event.link_idx.0 < l
pass_link bs l i h = event-link l (node_at bs i).link_event (node-fits bs l i (node-passes bs l i h).1).event

module _ (bs : List ℕ) (l i : ℕ) where
  pub path_pass : (t : Bool) → node_passes bs l i ≡ true → on_route bs i ≡ t → path_passes bs l i ≡ t
  unfolding path_passes
  path_pass t h k = rw (h, k)

  pub path_stop : node_passes bs l i ≡ false → path_passes bs l i ≡ false
  unfolding path_passes
  path_stop h = rw h

-- ---- each of n, one test for another

all_of : (test : ℕ → Bool) (n : ℕ) → ((i : ℕ) → i < n → test i ≡ true) → all_below n test ≡ true
unfolding all_below
all_of test zero h = refl
all_of test (suc n) h = rw (all_of test n (λ i l. h i (omega arith)), h n (omega arith))

first-none : (m : ℕ) (fits : ℕ → Bool) (k i : ℕ) → ((j : ℕ) → j < i + k → fits j ≡ true) → first_unfit m fits k i ≡ no_refusal
unfolding first_unfit
first-none m fits zero i h = refl
first-none m fits (suc k) i h = rw (step_fit m fits k i (h i (omega arith))) (first-none m fits k (i + 1) (λ j l. h j (omega arith)))

-- ---- 8

cycle_none : (c : Option ℕ) → eqb (cycle_refused c).number 0 ≡ true → cycle_refused c ≡ no_refusal
cycle_none None h = refl
cycle_none (Some i) h = absurd (omega (arith, eqb-true 8 0 h))

-- ---- answers

-- a refusal, or else none
pub raised_last : (f : Refusal) → raised (or_else f no_refusal) ≡ raised f
unfolding raised
raised_last f = go (eqb f.number 0) refl
  where
    go : (t : Bool) → eqb f.number 0 ≡ t → raised (cond t no_refusal f) ≡ raised f
    go true e = rw e
    go false e = refl

-- a call's own refusal, handed on as its answer
pub own_raised : {own : Answer} → (f : Refusal) → own ≡ raised f → own_answer own ≡ raised f
own_raised f h = ap own_answer h ∙ go (eqb f.number 0) refl
  where
    go : (t : Bool) → eqb f.number 0 ≡ t → own_answer (raised f) ≡ raised f
    go true e = let z = raised_none f (eqb-true f.number 0 e) in ap own_answer z ∙ sym z
    go false e = ap own_answer (raised_some f (eqb-false f.number 0 e))

-- ---- all of them

pub head_few : (w : Widths) (bs : List ℕ) → head_passes w bs ≡ true → est_count bs ≤ 512
unfolding head_passes counts_fit
head_few w bs h = leb-true (est_count bs) 512 (both (leb (est_count bs) 512) _ (both (leb 1 (est_count bs)) _ (both (counts_fit bs) _ h).0).1).0

-- a narrow record has no spare bytes
pub narrow_spare : (bs : List ℕ) (i : ℕ) → is_wide bs ≡ false → diverge_spare_fits bs i ≡ true
unfolding diverge_spare_fits diverge_words le_at
narrow_spare bs i e = rw e

module _ (w : Widths) (bs : List ℕ) (l : ℕ) (head : head_passes w bs ≡ true) (records : records_pass bs l ≡ true) where
  ests : all_below (est_count bs) (est_passes bs l) ≡ true
  unfolding records_pass
  ests = (both (all_below (est_count bs) (est_passes bs l)) _ records).0

  paths : all_below (path_count_of bs) (path_passes bs l) ≡ true
  unfolding records_pass
  paths = (both (all_below (path_count_of bs) (path_passes bs l)) _ (both (acyclic bs) _ (both (all_below (est_count bs) (est_passes bs l)) _ records).1).1).0

  diverges-pass : (all_below (diverge_count_of bs) (diverge_fits bs) ≡ true) × (cond (is_wide bs) (all_below (diverge_count_of bs) (wide_passes bs)) true ≡ true)
  unfolding records_pass diverges_pass
  diverges-pass =
      both (all_below (diverge_count_of bs) (diverge_fits bs)) _
      (both (all_below (path_count_of bs) (path_passes bs l)) _ (both (acyclic bs) _ (both (all_below (est_count bs) (est_passes bs l)) _ records).1).1).1

  diverges : all_below (diverge_count_of bs) (diverge_fits bs) ≡ true
  diverges = diverges-pass.0

  wides : is_wide bs ≡ true → (i : ℕ) → i < diverge_count_of bs → (diverge_spare_fits bs i ≡ true) × (diverge_train_fits bs i ≡ true)
  unfolding wide_passes
  wides e i h =
      both (diverge_spare_fits bs i) (diverge_train_fits bs i)
      (all-at (wide_passes bs) (diverge_count_of bs) i (subst (λ (v : Bool). cond v (all_below (diverge_count_of bs) (wide_passes bs)) true ≡ true) e diverges-pass.1) h)

  spare : (i : ℕ) → i < diverge_count_of bs → diverge_spare_fits bs i ≡ true
  spare i h = go (is_wide bs) refl
    where
      go : (v : Bool) → is_wide bs ≡ v → diverge_spare_fits bs i ≡ true
      go true e = (wides e i h).0
      go false e = narrow_spare bs i e

  trains : trains_fault bs ≡ no_refusal
  unfolding trains_fault
  trains = go (is_wide bs) refl
    where
      go : (v : Bool) → is_wide bs ≡ v → cond v (first_unfit 22 (diverge_train_fits bs) (diverge_count_of bs) 0) no_refusal ≡ no_refusal
      go true e = first-none 22 (diverge_train_fits bs) (diverge_count_of bs) 0 (λ i h. (wides e i (omega arith)).1)
      go false e = refl

  est : (i : ℕ) → i < est_count bs → EstPasses bs l i
  est i h = est-passes bs l i (all-at (est_passes bs l) (est_count bs) i ests h)

  path : (i : ℕ) → i < path_count_of bs → (node_passes bs l i ≡ true) × (on_route bs i ≡ true)
  unfolding path_passes
  path i h = both (node_passes bs l i) (on_route bs i) (all-at (path_passes bs l) (path_count_of bs) i paths h)

  node : (i : ℕ) → i < path_count_of bs → (node_type_fits bs i ≡ true) × (node_fits bs l i ≡ true)
  node i h = node-passes bs l i (path i h).0

  fits : image_fits w bs ≡ true
  unfolding head_passes image_fits records_fit
  fits =
      let a = both (counts_fit bs) _ head in
      let b = both (parts_fit bs) _ a.1 in
      let c = both (train_fits w bs) _ b.1 in
      let d = both (header_fits bs) (unused_zero bs) c.1 in
      rw (a.0, b.0, c.0, all_of (est_type_fits bs) (est_count bs) (λ i h. (est i h).kind), all_of (node_type_fits bs) (path_count_of bs) (λ i h. (node i h).0), all_of (diverge_spare_fits bs) (diverge_count_of bs) spare, d.1)

  values : value_fault bs l ≡ no_refusal
  unfolding head_passes value_fault
  values =
      let d = both (header_fits bs) (unused_zero bs) (both (train_fits w bs) _ (both (parts_fit bs) _ (both (counts_fit bs) _ head).1).1).1 in
      rw (first-none 7 (est_fits bs l) (est_count bs) 0 (λ i h. (est i (omega arith)).values), first-none 7 (node_fits bs l) (path_count_of bs) 0 (λ i h. (node i (omega arith)).1), d.0, trains)

  cycle : cycle_fault bs ≡ no_refusal
  unfolding records_pass acyclic cycle_fault
  cycle = cycle_none (first_on_cycle (nexts bs) (alts bs) (est_count bs)) (both (acyclic bs) _ (both (all_below (est_count bs) (est_passes bs l)) _ records).1).0

  route : route_fault bs ≡ no_refusal
  unfolding route_fault
  route =
      rw (first-none 9 (on_route bs) (path_count_of bs) 0 (λ i h. (path i (omega arith)).1), first-none 9 (diverge_fits bs) (diverge_count_of bs) 0 (λ i h. all-at (diverge_fits bs) (diverge_count_of bs) i diverges (omega arith)))

pub all_fit-none : (w : Widths) (f : Refusal) (bs : List ℕ) (l : ℕ) → all_fit w bs l ≡ true → fault_with w f bs l ≡ or_else f no_refusal
unfolding all_fit fault_with
all_fit-none w f bs l h =
    let a = both (leb 2 l) _ h in
    let b = both (leb l 4000) _ a.1 in
    let c = both (head_passes w bs) (records_pass bs l) b.1 in
    rw (a.0, b.0, fits w bs l c.0 c.1, values w bs l c.0 c.1, cycle w bs l c.0 c.1, route w bs l c.0 c.1)
