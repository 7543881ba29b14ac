-- What a candidate can learn: the same view and the same answer in sittings that agree, and a mark keeps the agreement. Assumes nothing.
use mathlib.Core.Path.{◌≡◌, refl, sym, ap, ap₂, ◌∙◌}
use mathlib.Core.Bool.{Bool, true, false, not, ◌&&◌}
use mathlib.Core.List.{List, [], ◌∷◌}
use Prim.Native.Nat.{ℕ, zero, suc, max, ◌≤◌, ◌<◌}
use native.Mathlib.Omega.{arith}
use lib.Dec.{ltb, eqb, lit<}
use lib.ListN.{length, get_or, set, length-set}
use lib.Seq.{get_or-set_same, get_or-set_other, set_out}
use borrow.Author.Tests.{ltb-true, ltb-false, eqb-true, eqb-false, eq-eqb, ne_eqb, le-leb}
use Rattle.link_rules.specs.LinkIdx.{hold, occupied}
use Rattle.link_rules.specs.Network.{link_count, link_at}
use Rattle.link_rules.specs.Refusals.{or_else, refused_unless}
use Rattle.link_rules.specs.AdvanceRewind.{hold_all, update_links_blocked, marked_by}
use Rattle.link_rules.specs.declared.link_idx.LinkIdx.{LinkIdx}
use Rattle.link_rules.specs.declared.link_idx.TrainIdx.{TrainIdx}
use Rattle.link_rules.specs.declared.refusal.Refusal.{Refusal}
use Rattle.disp_structs.specs.Values.{is_arrive}
use Rattle.disp_structs.specs.declared.LinkEvent.{LinkEvent}
use Rattle.image.specs.Image.{path_count_of, node_at}
use Rattle.image_fault.proofs.AcceptLaws.{or_else_clean, refused_clean}
use Rattle.wide_occupancy.specs.WideOccupancy.{largest, six_digits}
use Rattle.wide_occupancy.proofs.TrainLaws.{largest_bounds, bounded_largest}
use Rattle.wide_occupancy.proofs.WideMarkLaws.{upto_updated}
use Rattle.yard_check.proofs.YardLaws.{fits}
use Rattle.image_fault.specs.ImageFault.{is_accepted}
use Rattle.yard_check.specs.Yard.{image_in}
use Rattle.candidate.specs.Candidate.{is_arrive_link, candidate_fault, sitting_fault, view_fault, act_refusal, shown, link_taken, seen_by, view_of, act_of}
use Rattle.candidate.specs.Learns.{Sitting, Alike, SameView, SameAnswer, MarkKeeps, look, mark, Told, saw, heard, told, SameTold}
use Rattle.candidate.proofs.CandidateLaws.{accepted-slot, node-arrives, act_slot}

-- ---- refusals

-- of a sitting only the slot can be refused
slot_alone : (tbl occ yard : List ℕ) (slot : ℕ) → Sitting tbl occ yard → sitting_fault tbl occ yard slot ≡ candidate_fault tbl yard slot
unfolding sitting_fault
slot_alone tbl occ yard slot s = rw (s.accepted, eq-eqb (length occ) (link_count tbl) s.long, le-leb (max 0 (largest occ)) six_digits (omega (arith, s.low)), s.fits)

module _ (tbl : List ℕ) (slot : ℕ) (occ yard occ' yard' : List ℕ) (a : Alike tbl slot occ yard occ' yard') where
  abbrev img : List ℕ
  img = image_in yard slot

  sitting_same : sitting_fault tbl occ' yard' slot ≡ sitting_fault tbl occ yard slot
  sitting_same =
      slot_alone tbl occ' yard' slot a.other
      ∙ ap (λ (x : List ℕ). refused_unless (is_accepted x (link_count tbl)) 26) a.agree.image
      ∙ sym (slot_alone tbl occ yard slot a.one)

  view-fault-same : (node : ℕ) → view_fault tbl occ' yard' slot node ≡ view_fault tbl occ yard slot node
  unfolding view_fault
  view-fault-same node = ap₂ (λ (f : Refusal) (x : List ℕ). or_else f (refused_unless (ltb node (path_count_of x)) 27)) sitting_same a.agree.image

  act_refusal-same : (l : LinkIdx) → act_refusal tbl occ' yard' slot l ≡ act_refusal tbl occ yard slot l
  unfolding act_refusal
  act_refusal-same l = ap₂ (λ (f : Refusal) (x : List ℕ). (or_else f (refused_unless (is_arrive_link x l) 27)).number) sitting_same a.agree.image

  -- ---- the view

  node-inside : (node : ℕ) → (view_fault tbl occ yard slot node).number ≡ 0 → node < path_count_of img
  unfolding view_fault
  node-inside node h = ltb-true node (path_count_of img) (refused_clean (ltb node (path_count_of img)) 27 (lit< tt) (or_else_clean (sitting_fault tbl occ yard slot) _ h).1)

  taken-same : (node : ℕ) → node < path_count_of img → link_taken occ' (node_at img node).link_event ≡ link_taken occ (node_at img node).link_event
  unfolding link_taken is_arrive_link
  taken-same node h = go (is_arrive (node_at img node).link_event.est_type) refl
    where
      e : LinkEvent
      e = (node_at img node).link_event

      go : (u : Bool) → is_arrive e.est_type ≡ u → (is_arrive e.est_type && occupied occ' e.link_idx) ≡ (is_arrive e.est_type && occupied occ e.link_idx)
      go true k = ap (λ (b : Bool). is_arrive e.est_type && b) (a.agree.taken e.link_idx (node-arrives img node (path_count_of img) h k))
      go false k = rw k

  view-same : (node : ℕ) (buffer : List ℕ) → view_of tbl occ' yard' slot node buffer ≡ view_of tbl occ yard slot node buffer
  unfolding view_of
  view-same node buffer =
      ap₂ (λ (f : Refusal) (x : List ℕ). seen_by f.number f (link_taken occ' (node_at x node).link_event) buffer (shown x node buffer)) (view-fault-same node) a.agree.image
      ∙ go (view_fault tbl occ yard slot node).number refl
    where
      go : (n : ℕ) → (view_fault tbl occ yard slot node).number ≡ n
          → seen_by n (view_fault tbl occ yard slot node) (link_taken occ' (node_at img node).link_event) buffer (shown img node buffer)
          ≡ seen_by n (view_fault tbl occ yard slot node) (link_taken occ (node_at img node).link_event) buffer (shown img node buffer)
      go zero h = ap (λ (b : Bool). seen_by zero (view_fault tbl occ yard slot node) b buffer (shown img node buffer)) (taken-same node (node-inside node h))
      go (suc n) h = refl

  -- ---- the answer

  answer-same : (l : LinkIdx) (marks : Bool) → (act_of tbl occ' yard' slot l marks).answer ≡ (act_of tbl occ yard slot l marks).answer
  unfolding act_of
  answer-same l marks = go (act_refusal tbl occ yard slot l) (act_refusal tbl occ' yard' slot l) (act_refusal-same l) _ _
    where
      go : (n n' : ℕ) → n' ≡ n → (left left' : List ℕ) → (marked_by n' occ' left').answer ≡ (marked_by n occ left).answer
      go zero n' e left left' = rw e
      go (suc n) n' e left left' = rw e

pub same_view : SameView
same_view tbl slot occ yard occ' yard' a node buffer = view-same tbl slot occ yard occ' yard' a node buffer

pub same_answer : SameAnswer
same_answer tbl slot occ yard occ' yard' a l marks = answer-same tbl slot occ yard occ' yard' a l marks

-- ---- a mark

-- links are given a train; the same become taken in both
module _ (t : TrainIdx) (k : LinkIdx) where
  hold-same : (occ occ' : List ℕ) (l : LinkIdx) → length occ' ≡ length occ → occupied occ' k ≡ occupied occ k → occupied (hold occ' l t) k ≡ occupied (hold occ l t) k
  unfolding occupied
  hold-same occ occ' l n e = go (ltb l.0 (length occ)) refl (eqb k.0 l.0) refl
    where
      same : (x y : ℕ) → x ≡ y → not (eqb x 0) ≡ not (eqb y 0)
      same x y q = rw q

      go : (u : Bool) → ltb l.0 (length occ) ≡ u → (v : Bool) → eqb k.0 l.0 ≡ v
          → not (eqb (get_or (set occ' l.0 t.0) k.0 0) 0) ≡ not (eqb (get_or (set occ l.0 t.0) k.0 0) 0)
      go false f v g =
          let out : length occ ≤ l.0 = ltb-false l.0 (length occ) f in
          rw (set_out occ l.0 t.0 out, set_out occ' l.0 t.0 (omega (arith, out, n))) e
      go true f true g =
          let inside : l.0 < length occ = ltb-true l.0 (length occ) f in
          rw (eqb-true k.0 l.0 g)
          (same _ _ (get_or-set_same occ' l.0 t.0 0 (omega (arith, inside, n)) ∙ sym (get_or-set_same occ l.0 t.0 0 inside)))
      go true f false g =
          same _ _ (get_or-set_other occ' l.0 k.0 t.0 0 (eqb-false k.0 l.0 g)) ∙ e ∙ sym (same _ _ (get_or-set_other occ l.0 k.0 t.0 0 (eqb-false k.0 l.0 g)))

  held_same : (occ occ' : List ℕ) (ls : List LinkIdx) → length occ' ≡ length occ → occupied occ' k ≡ occupied occ k → occupied (hold_all occ' ls t) k ≡ occupied (hold_all occ ls t) k
  unfolding hold_all
  held_same occ occ' [] n e = e
  held_same occ occ' (l ∷ ls) n e =
      held_same (hold occ l t) (hold occ' l t) ls
      (length-set occ' l.0 t.0 ∙ n ∙ sym (length-set occ l.0 t.0))
      (hold-same occ occ' l n e)

length-held : (occ : List ℕ) (ls : List LinkIdx) (t : TrainIdx) → length (hold_all occ ls t) ≡ length occ
unfolding hold_all
length-held occ [] t = refl
length-held occ (l ∷ ls) t = length-held (hold occ l t) ls t ∙ length-set occ l.0 t.0

-- a mark for a train releases nothing
abbrev touched : List ℕ → LinkIdx → List LinkIdx
touched tbl l = (link_at tbl l).idx_flip ∷ (link_at tbl l).link_idxs_lockout

marks_alone : (tbl occ : List ℕ) (l : LinkIdx) (t : TrainIdx) → 1 ≤ t.0 → update_links_blocked tbl occ l t ≡ hold_all occ (touched tbl l) t
unfolding update_links_blocked
marks_alone tbl occ l t h = rw (ne_eqb t.0 0 (λ z. omega arith))

-- what is left is a sitting
sitting_kept : (tbl occ yard : List ℕ) (slot : ℕ) (l : LinkIdx) → Sitting tbl occ yard → Sitting tbl (act_of tbl occ yard slot l true).occupancy yard
unfolding act_of
sitting_kept tbl occ yard slot l s = go (act_refusal tbl occ yard slot l) refl
  where
    t : TrainIdx
    t = record { 0 = slot }

    go : (n : ℕ) → act_refusal tbl occ yard slot l ≡ n → Sitting tbl (marked_by n occ (update_links_blocked tbl occ l (record { 0 = slot }))).occupancy yard
    go zero h =
        let inside = accepted-slot yard slot (link_count tbl) (act_slot tbl occ yard slot l h) in
        record {
          accepted = s.accepted;
          long = ap length (marks_alone tbl occ l t inside.0) ∙ length-held occ (touched tbl l) t ∙ s.long;
          low = bounded_largest six_digits _ (upto_updated six_digits tbl occ l t (omega (arith, inside.1, (fits yard s.fits).few)) (largest_bounds six_digits occ s.low));
          fits = s.fits;
        }
    go (suc n) h = s

pub mark_keeps : MarkKeeps
unfolding act_of
mark_keeps tbl slot occ yard occ' yard' a l =
    record {
      one = sitting_kept tbl occ yard slot l a.one;
      other = sitting_kept tbl occ' yard' slot l a.other;
      agree = record { image = a.agree.image; taken = λ k h. go k h (act_refusal tbl occ yard slot l) refl (act_refusal tbl occ' yard' slot l) (act_refusal-same tbl slot occ yard occ' yard' a l) };
    }
  where
    t : TrainIdx
    t = record { 0 = slot }

    go : (k : LinkIdx) → is_arrive_link (image_in yard slot) k ≡ true → (n : ℕ) → act_refusal tbl occ yard slot l ≡ n → (n' : ℕ) → n' ≡ n
        → occupied (marked_by n' occ' (update_links_blocked tbl occ' l (record { 0 = slot }))).occupancy k ≡ occupied (marked_by n occ (update_links_blocked tbl occ l (record { 0 = slot }))).occupancy k
    go k h zero e n' q =
        let inside = accepted-slot yard slot (link_count tbl) (act_slot tbl occ yard slot l e) in
        rw (q, marks_alone tbl occ l t inside.0, marks_alone tbl occ' l t inside.0)
        (held_same t k occ occ' (touched tbl l) (a.other.long ∙ sym a.one.long) (a.agree.taken k h))
    go k h (suc n) e n' q = rw q (a.agree.taken k h)

pub same-told : SameTold
unfolding told
same-told tbl slot occ yard occ' yard' a [] = refl
same-told tbl slot occ yard occ' yard' a (look node buffer ∷ asks) =
    ap₂ (λ (x : Told) (xs : List Told). x ∷ xs) (ap saw (same_view tbl slot occ yard occ' yard' a node buffer)) (same-told tbl slot occ yard occ' yard' a asks)
same-told tbl slot occ yard occ' yard' a (mark l ∷ asks) =
    ap₂ (λ (x : Told) (xs : List Told). x ∷ xs) (ap heard (same_answer tbl slot occ yard occ' yard' a l true))
    (same-told tbl slot (act_of tbl occ yard slot l true).occupancy yard (act_of tbl occ' yard' slot l true).occupancy yard' (mark_keeps tbl slot occ yard occ' yard' a l) asks)
