-- Laws of view and act: the candidate's image, its path, what is shown of a record, and what a call that is not refused says. Assumes nothing.
use mathlib.Core.Path.{◌≡◌, refl, sym, ap, ◌∙◌, subst}
use mathlib.Core.Bool.{Bool, true, false, cond, not, ◌||◌}
use mathlib.Core.List.{List, []}
use Prim.Native.Nat.{ℕ, zero, suc, ◌+◌, ◌-◌, min, max, ◌≤◌, ◌<◌}
use native.Mathlib.Omega.{arith}
use native.Mathlib.Numerals.{add-one}
use lib.Dec.{ltb, leb, eqb, lit<}
use lib.ListN.{length, get_or, take, drop, length-drop, drop_of_length-le}
use lib.Seq.{take_all, take-nil}
use borrow.Author.Tests.{ltb-true, ltb-false, eqb-true, eqb-false, eq-eqb}
use Rattle.link_rules.specs.LinkIdx.{no_train, occupied}
use Rattle.link_rules.specs.Network.{link_count, table_fits}
use Rattle.link_rules.specs.declared.link_idx.LinkIdx.{LinkIdx}
use Rattle.link_rules.specs.declared.refusal.Refusal.{Refusal}
use Rattle.link_rules.specs.Refusals.{no_refusal, refused, or_else, refused_unless, Refused, raised}
use Rattle.link_rules.specs.AdvanceRewind.{table_fault, entries_fault, marked, marked_by}
use Rattle.link_rules.proofs.RefusalLaws.{some_raised, unless_place, chain_place}
use Rattle.link_rules.proofs.MarkLaws.{refused_by}
use Rattle.link_rules.specs.Octets.{le_at}
use Rattle.disp_structs.specs.Values.{is_arrive}
use Rattle.disp_structs.specs.declared.LinkEvent.{LinkEvent}
use Rattle.image.specs.Image.{node_at}
use Rattle.image_fault.specs.ImageFault.{counts_fit, image_fits, arrives_on, arrived, fault_with, is_accepted}
use Rattle.image_fault.specs.declared.Widths.TheVariants.{Either}
use Rattle.image_fault.proofs.AcceptLaws.{or_else_clean, refused_clean, accepted_in}
use Rattle.wide_occupancy.specs.WideOccupancy.{largest, six_digits, large_train_fault}
use Rattle.yard_check.specs.Yard.{slot_count, image_in, yard_fits, yard_fault}
use Rattle.yard_check.proofs.YardLaws.{image-low, image-high}
use Rattle.candidate.specs.Candidate.{is_arrive_link, candidate_fault, sitting_fault, view_fault, act_fault, act_refusal, shown, link_taken, View, seen, seen_by, view_of}

-- ---- the candidate's image

-- no image is none that passes
pub none-accepted : (links : ℕ) → is_accepted [] links ≡ true → ⊥
unfolding is_accepted image_fits counts_fit le_at
none-accepted links h =
    let z : ◌≡◌ {A = Bool} false true = (accepted_in Either [] links (eqb-true (fault_with Either no_refusal [] links).number 0 h)).fits in
    let k : ◌≡◌ {A = ℕ} 0 1 = cc in absurd (omega arith)

-- an accepted image stands in one of the yard's slots
pub accepted-slot : (yard : List ℕ) (slot links : ℕ) → is_accepted (image_in yard slot) links ≡ true → (1 ≤ slot) × (slot ≤ slot_count yard)
accepted-slot yard slot links h = go (ltb slot 1) refl (ltb (slot_count yard) slot) refl
  where
    go : (u : Bool) → ltb slot 1 ≡ u → (v : Bool) → ltb (slot_count yard) slot ≡ v → (1 ≤ slot) × (slot ≤ slot_count yard)
    go true e v f = absurd (none-accepted links (subst (λ (img : List ℕ). is_accepted img links ≡ true) (image-low yard slot (ltb-true slot 1 e)) h))
    go false e true f = absurd (none-accepted links (subst (λ (img : List ℕ). is_accepted img links ≡ true) (image-high yard slot (ltb-true (slot_count yard) slot f)) h))
    go false e false f = (ltb-false slot 1 e, ltb-false (slot_count yard) slot f)

-- ---- a walk over the path

pub arrived-turn : (img : List ℕ) (l : LinkIdx) (i : ℕ) → (arrived img l i || arrives_on l (node_at img i).link_event) ≡ arrived img l (i + 1)
unfolding arrived
arrived-turn img l i = rw (add-one, arrived)

pub arrives_yes : (l : LinkIdx) (e : LinkEvent) → is_arrive e.est_type ≡ true → eqb e.link_idx.0 l.0 ≡ arrives_on l e
unfolding arrives_on
arrives_yes l e h = rw h

pub arrives-none : (l : LinkIdx) (e : LinkEvent) → is_arrive e.est_type ≡ false → false ≡ arrives_on l e
unfolding arrives_on
arrives-none l e h = rw h

-- a node of the path that is an Arrive has one of its Arrive links
pub node-arrives : (img : List ℕ) (i n : ℕ) → i < n → is_arrive (node_at img i).link_event.est_type ≡ true → arrived img (node_at img i).link_event.link_idx n ≡ true
unfolding arrived arrives_on
node-arrives img i zero h a = absurd (omega arith)
node-arrives img i (suc n) h a = go (λ k. node-arrives img i n k a) (eqb i n) refl
  where
    l : LinkIdx
    l = (node_at img i).link_event.link_idx

    or-true : (u v : Bool) → v ≡ true → (u || v) ≡ true
    or-true true v e = refl
    or-true false v e = e

    true-or : (u v : Bool) → u ≡ true → (u || v) ≡ true
    true-or u v e = rw e

    go : (i < n → arrived img l n ≡ true) → (u : Bool) → eqb i n ≡ u → (arrived img l n || arrives_on l (node_at img n).link_event) ≡ true
    go r true e =
        let q : n ≡ i = sym (eqb-true i n e) in
        or-true (arrived img l n) (arrives_on l (node_at img n).link_event) (rw (q, a) (eq-eqb l.0 l.0 refl))
    go r false e = true-or (arrived img l n) (arrives_on l (node_at img n).link_event) (r (omega (arith, eqb-false i n e)))

-- ---- what is shown

pub node_span : (bs : List ℕ) (k : ℕ) → take (min (k + 32) (length bs) - min k (length bs)) (drop (min k (length bs)) bs) ≡ take 32 (drop k bs)
node_span bs k = go (ltb (length bs) k) refl (ltb (length bs) (k + 32)) refl
  where
    go : (u : Bool) → ltb (length bs) k ≡ u → (v : Bool) → ltb (length bs) (k + 32) ≡ v → take (min (k + 32) (length bs) - min k (length bs)) (drop (min k (length bs)) bs) ≡ take 32 (drop k bs)
    go true e v f =
        let past : length bs < k = ltb-true (length bs) k e in
        let m : min k (length bs) ≡ length bs = omega arith in
        rw (m, drop_of_length-le bs {i = length bs} (omega arith), drop_of_length-le bs {i = k} (omega arith)) (take-nil (min (k + 32) (length bs) - length bs) ∙ sym (take-nil 32))
    go false e true f =
        let in-part : k ≤ length bs = ltb-false (length bs) k e in
        let short : length bs < k + 32 = ltb-true (length bs) (k + 32) f in
        let m : min k (length bs) ≡ k = omega arith in
        let w : min (k + 32) (length bs) ≡ length bs = omega arith in
        rw (m, w) (take_all (length bs - k) (drop k bs) (omega (arith, length-drop k bs)) ∙ sym (take_all 32 (drop k bs) (omega (arith, length-drop k bs))))
    go false e false f =
        let in-part : k ≤ length bs = ltb-false (length bs) k e in
        let whole : k + 32 ≤ length bs = ltb-false (length bs) (k + 32) f in
        let m : min (k + 32) (length bs) - min k (length bs) ≡ 32 = omega arith in
        let n : min k (length bs) ≡ k = omega arith in
        rw (m, n)

pub taken_yes : (occ : List ℕ) (e : LinkEvent) (t : ℕ) → is_arrive e.est_type ≡ true → t ≡ get_or occ e.link_idx.0 0 → not (eqb t 0) ≡ link_taken occ e
unfolding link_taken occupied
taken_yes occ e t h k = rw (h, k)

pub taken_none : (occ : List ℕ) (e : LinkEvent) → is_arrive e.est_type ≡ false → false ≡ link_taken occ e
unfolding link_taken
taken_none occ e h = rw h

module _ (tbl occ yard : List ℕ) (slot node : ℕ) (buffer : List ℕ) (f : Refusal) (e : f ≡ view_fault tbl occ yard slot node) where
  abbrev whole : Refusal → View
  whole g = seen_by g.number g (link_taken occ (node_at (image_in yard slot) node).link_event) buffer (shown (image_in yard slot) node buffer)

  pub view-refused : (f.number ≡ 0 → ⊥) → seen (record { fault = f; taken = false }) buffer ≡ view_of tbl occ yard slot node buffer
  unfolding view_of
  view-refused h = go f.number h ∙ ap whole e
    where
      go : (n : ℕ) → (n ≡ 0 → ⊥) → seen (record { fault = f; taken = false }) buffer ≡ seen_by n f (link_taken occ (node_at (image_in yard slot) node).link_event) buffer (shown (image_in yard slot) node buffer)
      go zero k = absurd (k refl)
      go (suc n) k = refl

  pub view-shown : (taken : Bool) (left img : List ℕ) → f.number ≡ 0 → img ≡ image_in yard slot → taken ≡ link_taken occ (node_at img node).link_event → left ≡ shown img node buffer
      → seen (record { fault = f; taken = taken }) left ≡ view_of tbl occ yard slot node buffer
  unfolding view_of
  view-shown taken left img h i t s = go f.number h ∙ ap whole e
    where
      go : (n : ℕ) → n ≡ 0 → seen (record { fault = f; taken = taken }) left ≡ seen_by n f (link_taken occ (node_at (image_in yard slot) node).link_event) buffer (shown (image_in yard slot) node buffer)
      go zero k = rw (t, s, i)
      go (suc n) k = absurd (omega arith)

-- ---- what a call that is not refused says

module _ (tbl occ yard : List ℕ) (slot : ℕ) where
  pub sitting_slot : (sitting_fault tbl occ yard slot).number ≡ 0 → is_accepted (image_in yard slot) (link_count tbl) ≡ true
  unfolding sitting_fault
  sitting_slot h =
      let a = (or_else_clean (table_fault tbl) _ h).1 in
      let b = (or_else_clean (entries_fault tbl (length occ)) _ a).1 in
      let c = (or_else_clean (large_train_fault six_digits occ no_train) _ b).1 in
      let d = (or_else_clean (yard_fault yard) _ c).1 in
      refused_clean (is_accepted (image_in yard slot) (link_count tbl)) 26 (lit< tt) d

  pub act_slot : (l : LinkIdx) → act_refusal tbl occ yard slot l ≡ 0 → is_accepted (image_in yard slot) (link_count tbl) ≡ true
  unfolding act_refusal
  act_slot l h = sitting_slot (or_else_clean (sitting_fault tbl occ yard slot) _ h).0

-- all refusals have place 0
sitting_place : (tbl occ yard : List ℕ) (slot : ℕ) → (sitting_fault tbl occ yard slot).place ≡ 0
unfolding sitting_fault
sitting_place tbl occ yard slot =
    let e = candidate_fault tbl yard slot in
    let d = or_else (yard_fault yard) e in
    let c = or_else (large_train_fault six_digits occ no_train) d in
    let b = or_else (entries_fault tbl (length occ)) c in
    chain_place (table_fits tbl) 1 b (chain_place (eqb (length occ) (link_count tbl)) 2 c (chain_place (leb (max no_train.0 (largest occ)) six_digits) 22 d
    (chain_place (yard_fits yard) 14 e (unless_place (is_accepted (image_in yard slot) (link_count tbl)) 26))))

act_place : (tbl occ yard : List ℕ) (slot : ℕ) (l : LinkIdx) → (act_fault tbl occ yard slot l).place ≡ 0
act_place tbl occ yard slot l = go (eqb (sitting_fault tbl occ yard slot).number 0)
  where
    go : (b : Bool) → (cond b (refused_unless (is_arrive_link (image_in yard slot) l) 27) (sitting_fault tbl occ yard slot)).place ≡ 0
    go true = unless_place (is_arrive_link (image_in yard slot) l) 27
    go false = sitting_place tbl occ yard slot

pub act-refused : (tbl occ yard : List ℕ) (slot : ℕ) (l : LinkIdx) (f : Refusal) (left : List ℕ) → raised (act_fault tbl occ yard slot l) ≡ Refused f
    → marked (Refused f) occ ≡ marked_by (act_refusal tbl occ yard slot l) occ left
unfolding act_refusal
act-refused tbl occ yard slot l f left e =
    let g = act_fault tbl occ yard slot l in
    let h = some_raised g f e in
    ap (λ (r : Refusal). marked (Refused r) occ) (sym h.0 ∙ ap (λ (p : ℕ). refused g.number p) (act_place tbl occ yard slot l))
    ∙ sym (refused_by g.number occ left h.1)
