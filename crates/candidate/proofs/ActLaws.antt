-- An act that is not refused is a mark or a release: an Arrive link of an accepted path is a link of the table, so that 27 stands instead of 3. Assumes nothing.
use mathlib.Core.Path.{◌≡◌, refl, sym, ap, ◌∙◌}
use mathlib.Core.Bool.{Bool, true, false, ◌&&◌, ◌||◌}
use mathlib.Core.List.{List}
use Prim.Native.Nat.{ℕ, zero, suc, max, ◌≤◌, ◌<◌}
use native.Mathlib.Omega.{arith}
use lib.Dec.{ltb, leb, eqb, lit<}
use lib.ListN.{length}
use borrow.Author.Tests.{eqb-true, eqb-false, ne_eqb, ltb-true, lt-ltb, leb-true, le-leb, not-true}
use Rattle.link_rules.specs.LinkIdx.{no_train}
use Rattle.link_rules.specs.Network.{link_count, table_fits}
use Rattle.link_rules.specs.Refusals.{no_refusal}
use Rattle.link_rules.specs.AdvanceRewind.{table_fault, entries_fault, is_link, update_links_blocked, marked_by}
use Rattle.link_rules.specs.declared.link_idx.LinkIdx.{LinkIdx}
use Rattle.disp_structs.specs.Values.{is_arrive}
use Rattle.disp_structs.specs.declared.LinkEvent.{LinkEvent}
use Rattle.image.specs.Image.{path_count_of, node_at}
use Rattle.image_fault.specs.ImageFault.{event_fits, arrives_on, arrived, fault_with, is_accepted}
use Rattle.image_fault.specs.declared.Widths.TheVariants.{Either}
use Rattle.image_fault.proofs.AcceptLaws.{or_else_clean, refused_clean, node-fits, clean_node, accepted_in}
use Rattle.link_rules.proofs.TableLaws.{both}
use Rattle.wide_occupancy.specs.WideOccupancy.{largest, six_digits, large_train_fault, mark_wide_of}
use Rattle.wide_occupancy.proofs.WideMarkLaws.{wide_by_tests}
use Rattle.yard_check.specs.Yard.{yard_fits, yard_fault, image_in}
use Rattle.yard_check.proofs.YardLaws.{fits}
use Rattle.candidate.specs.Candidate.{is_arrive_link, sitting_fault, act_refusal, train_given, act_of}
use Rattle.candidate.proofs.CandidateLaws.{accepted-slot}

-- ---- an Arrive link of an accepted path: below L, and not 0

event-arrives : (links : ℕ) (l : LinkIdx) (e : LinkEvent) → event_fits links e ≡ true → arrives_on l e ≡ true → (l.0 < links) × (l.0 ≡ 0 → ⊥)
unfolding event_fits arrives_on
event-arrives links l e h k =
    let a = both (ltb e.link_idx.0 links) _ h in
    let b = both (is_arrive e.est_type) _ k in
    let same : e.link_idx.0 ≡ l.0 = eqb-true e.link_idx.0 l.0 b.1 in
    let some : eqb e.link_idx.0 0 ≡ false = ap (λ (u : Bool). u && eqb e.link_idx.0 0) (sym b.0) ∙ not-true (is_arrive e.est_type && eqb e.link_idx.0 0) a.1 in
    (omega (arith, same, ltb-true e.link_idx.0 links a.0), λ z. eqb-false e.link_idx.0 0 some (same ∙ z))

module _ (img : List ℕ) (links : ℕ) (ok : is_accepted img links ≡ true) where
  node-event : (i : ℕ) → i < path_count_of img → event_fits links (node_at img i).link_event ≡ true
  unfolding is_accepted
  node-event i h = (node-fits img links i (clean_node img links (accepted_in Either img links (eqb-true (fault_with Either no_refusal img links).number 0 ok)).values i h)).event

  path-link : (l : LinkIdx) (n : ℕ) → n ≤ path_count_of img → arrived img l n ≡ true → (l.0 < links) × (l.0 ≡ 0 → ⊥)
  unfolding arrived
  path-link l zero h k = let z : ◌≡◌ {A = ℕ} 0 1 = cc in absurd (omega arith)
  path-link l (suc n) h k = go (arrived img l n) refl (λ e. path-link l n (omega arith) e) k
    where
      go : (u : Bool) → arrived img l n ≡ u → (arrived img l n ≡ true → (l.0 < links) × (l.0 ≡ 0 → ⊥)) → (u || arrives_on l (node_at img n).link_event) ≡ true → (l.0 < links) × (l.0 ≡ 0 → ⊥)
      go true e r q = r e
      go false e r q = event-arrives links l (node_at img n).link_event (node-event n (omega arith)) q

path-is-link : (tbl img : List ℕ) (l : LinkIdx) → is_accepted img (link_count tbl) ≡ true → is_arrive_link img l ≡ true → is_link tbl l ≡ true
unfolding is_link is_arrive_link
path-is-link tbl img l ok h =
    let a = path-link img (link_count tbl) ok l (path_count_of img) (omega arith) h in
    rw (ne_eqb l.0 0 a.1, lt-ltb l.0 (link_count tbl) a.0)

-- ---- the act

pub act_is_mark : (tbl occ yard : List ℕ) (slot : ℕ) (l : LinkIdx) (marks : Bool) → act_refusal tbl occ yard slot l ≡ 0 → act_of tbl occ yard slot l marks ≡ mark_wide_of tbl occ l (train_given slot marks)
unfolding act_refusal sitting_fault act_of mark_wide_of
act_is_mark tbl occ yard slot l marks h =
    let p = or_else_clean (sitting_fault tbl occ yard slot) _ h in
    let a = or_else_clean (table_fault tbl) _ p.0 in
    let b = or_else_clean (entries_fault tbl (length occ)) _ a.1 in
    let c = or_else_clean (large_train_fault six_digits occ no_train) _ b.1 in
    let d = or_else_clean (yard_fault yard) _ c.1 in
    let ok = refused_clean (is_accepted (image_in yard slot) (link_count tbl)) 26 (lit< tt) d.1 in
    let on = refused_clean (is_arrive_link (image_in yard slot) l) 27 (lit< tt) p.1 in
    let low : max 0 (largest occ) ≤ six_digits = leb-true (max 0 (largest occ)) six_digits (refused_clean (leb (max 0 (largest occ)) six_digits) 22 (lit< tt) c.0) in
    let few : slot ≤ 63 = omega (arith, (accepted-slot yard slot (link_count tbl) ok).1, (fits yard (refused_clean (yard_fits yard) 14 (lit< tt) d.0)).few) in
    ap (λ (n : ℕ). marked_by n occ (update_links_blocked tbl occ l (train_given slot marks)))
    (h
    ∙ sym (wide_by_tests tbl occ l (train_given slot marks) true true true true
    (refused_clean (table_fits tbl) 1 (lit< tt) a.0)
    (refused_clean (eqb (length occ) (link_count tbl)) 2 (lit< tt) b.0)
    (path-is-link tbl (image_in yard slot) l ok on)
    (le-leb (max (train_given slot marks).0 (largest occ)) six_digits (train-low marks few low))))
  where
    train-low : (m : Bool) → slot ≤ 63 → max 0 (largest occ) ≤ six_digits → max (train_given slot m).0 (largest occ) ≤ six_digits
    train-low true f k = omega arith
    train-low false f k = omega arith
