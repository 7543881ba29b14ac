-- An index under a renumbering of links and slots: the entry of the renumbered link has the renumbered bits. Assumes nothing.
use mathlib.Core.Path.{◌≡◌, refl, sym, ap, ap₂, ◌∙◌}
use mathlib.Core.Bool.{Bool, true, false, ◌&&◌}
use mathlib.Core.List.{List}
use Prim.Native.Nat.{ℕ, zero, suc, ◌-◌, ◌≤◌}
use native.Mathlib.Omega.{arith}
use lib.Dec.{eqb}
use borrow.Author.Tests.{eqb-true}
use Rattle.link_rules.specs.Renumbering.{Renumbering, r_link}
use Rattle.link_rules.specs.Refusals.{no_refusal}
use Rattle.link_rules.specs.declared.link_idx.LinkIdx.{LinkIdx}
use Rattle.link_rules.specs.declared.refusal.Refusal.{Refusal}
use Rattle.link_rules.proofs.RenumberingLaws.{same_link_r, below}
use Rattle.image.specs.Image.{path_count_of, est_count, node_at, largest_of}
use Rattle.image.specs.ImageMatch.{ImagesMatch}
use Rattle.image.proofs.MatchLaws.{path-count, node_match}
use Rattle.image_fault.specs.ImageFault.{arrived, arrives_on, fault_with, is_accepted}
use Rattle.image_fault.specs.declared.Widths.TheVariants.{Either}
use Rattle.image_fault.proofs.AcceptLaws.{accepted_in, fits-counts}
use Rattle.image_fault.proofs.MatchLaws.{fault_match}
use Rattle.yard_check.specs.Yard.{slot_count, part_of}
use Rattle.yard_check.proofs.SlotLaws.{some}
use Rattle.yard_check.proofs.YardLaws.{fits}
use Rattle.link_index.specs.LinkIndex.{runs_over}
use Rattle.link_index.specs.StaysRight.{RenumberedBits}
use Rattle.yard_check.proofs.YardLaws.{image-is}
use Rattle.link_index.proofs.IndexLaws.{built-bits}

module _ (p q : ℕ → ℕ) (links top : ℕ) (rp : Renumbering (links - 1) p) (rq : Renumbering top q) (few : top ≤ largest_of true) where
  -- ---- images

  module _ (bs bs' : List ℕ) (m : ImagesMatch p q bs bs') where
    accepted-same : is_accepted bs' links ≡ is_accepted bs links
    unfolding is_accepted
    accepted-same = ap (λ (f : Refusal). eqb f.number 0) (fault_match p q links top rp rq bs bs' m Either no_refusal (λ e v. few))

    arrived-same : path_count_of bs ≤ est_count bs → (x : LinkIdx) (i : ℕ) → i ≤ path_count_of bs → arrived bs' (r_link p x) i ≡ arrived bs x i
    unfolding arrived arrives_on
    arrived-same c x zero h = refl
    arrived-same c x (suc i) h =
        rw (arrived-same c x i (omega arith), node_match p q bs bs' m i (omega arith), same_link_r (links - 1) p rp (node_at bs i).link_event.link_idx x)

    runs_same : (l : ℕ) → runs_over bs' links (p l) ≡ runs_over bs links l
    unfolding runs_over is_accepted
    runs_same l = go (is_accepted bs links) refl
      where
        x : LinkIdx
        x = record { 0 = l }

        go : (t : Bool) → is_accepted bs links ≡ t → (is_accepted bs' links && arrived bs' (r_link p x) (path_count_of bs')) ≡ (is_accepted bs links && arrived bs x (path_count_of bs))
        go false e =
            ap (λ (b : Bool). b && arrived bs' (r_link p x) (path_count_of bs')) (accepted-same ∙ e) ∙ sym (ap (λ (b : Bool). b && arrived bs x (path_count_of bs)) e)
        go true e =
            let ok = accepted_in Either bs links (eqb-true (fault_with Either no_refusal bs links).number 0 e) in
            let c = (fits-counts bs ok.fits).few-path in
            ap₂ (λ (a b : Bool). a && b) accepted-same (ap (arrived bs' (r_link p x)) (path-count p q bs bs' m) ∙ arrived-same c x (path_count_of bs) (omega arith))

-- ---- yards

pub renumbered_bits : RenumberedBits
renumbered_bits p q links top rp rq few yard yard' f m among l t h low high =
    let s = (fits yard f).few in
    let k : q t ≤ slot_count yard = among t high in
    let here = image-is yard t low high in
    let there = image-is yard' (q t) (some top (slot_count yard) q rq t low) (omega (arith, k, m.slots)) in
    built-bits yard' links (p l) (q t) (below links p rp l h) (omega (arith, k, s))
    ∙ (ap (λ (img : List ℕ). runs_over img links (p l)) there
    ∙ (runs_same p q links top rp rq few (part_of yard t) (part_of yard' (q t)) (m.images t low high) l
    ∙ (ap (λ (img : List ℕ). runs_over img links l) (sym here) ∙ sym (built-bits yard links l t h (omega (arith, high, s))))))
