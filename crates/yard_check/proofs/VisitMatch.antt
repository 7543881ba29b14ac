-- Demand 3 for the visit to one slot: over a second numbering the renumbered row, and images that match. Assumes nothing.
use mathlib.Core.Path.{◌≡◌, refl, sym, ap, ap₂, subst, ◌∙◌}
use mathlib.Core.Bool.{Bool, true, false, cond}
use mathlib.Core.List.{List}
use Prim.Native.Nat.{ℕ, zero, suc, ◌≤◌}
use native.Mathlib.Omega.{arith}
use lib.Dec.{eqb}
use lib.ListN.{length}
use borrow.Author.Tests.{le-ltb}
use Rattle.link_rules.specs.LinkIdx.{no_link, occupied}
use Rattle.link_rules.proofs.OctetLaws.{Bytes}
use Rattle.link_rules.proofs.RenumberingLaws.{eqb_renumbered}
use Rattle.image.specs.Image.{largest_of, largest_train}
use Rattle.image.specs.ImageMatch.{ImagesMatch}
use Rattle.image.proofs.MatchLaws.{path-count, header-high}
use Rattle.image_fault.specs.ImageFault.{fault_with}
use Rattle.link_rules.specs.Refusals.{no_refusal}
use Rattle.link_rules.specs.declared.refusal.Refusal.{Refusal}
use Rattle.image_fault.proofs.MatchLaws.{fault_match}
use Rattle.update_definition.specs.Fits.{TrainsWithin}
use Rattle.update_definition.specs.Update.{Status, Success, Blocked, Faulty, Refused}
use Rattle.update_definition.specs.UpdateImage.{UpdatedImage, given_fault, updated_image_in}
use Rattle.update_definition.specs.Renumbered.{r_status}
use Rattle.update_definition.specs.UpdateMatch.{GivenMatch, UpdatesMatch}
use Rattle.update_laws.proofs.ImageRenumbering.{update_match}
use Rattle.yard_check.specs.Yard.{part_of}
use Rattle.yard_check.specs.Check.{CheckArgs, Row, unvisited_row, status_row, is_finished, Visit, visit, visit_by, visited, slot_visit}
use Rattle.yard_check.specs.YardMatch.{r_row, ArgsMatch}

-- the renumbered row, and images that match
pub record VisitsMatch (p q : ℕ → ℕ) (v v' : Visit) : Type 0 where
  pub row : v'.row ≡ r_row q v.row
  pub image : ImagesMatch p q v.image v'.image

-- where the holder is 0
no-holder : (q : ℕ → ℕ) → q 0 ≡ 0 → (code place rounds strays faults met : ℕ)
    → ◌≡◌ {A = Row} (record { code = code; place = place; rounds = rounds; holder = 0; strays = strays; faults = faults; met = met })
    (record { code = code; place = place; rounds = rounds; holder = q 0; strays = strays; faults = faults; met = met })
no-holder q e code place rounds strays faults met =
    ap (λ (h : ℕ). record { code = code; place = place; rounds = rounds; holder = h; strays = strays; faults = faults; met = met }) (sym e)

-- where no train was met either
no-trains : (q : ℕ → ℕ) → q 0 ≡ 0 → (code place rounds strays faults : ℕ)
    → ◌≡◌ {A = Row} (record { code = code; place = place; rounds = rounds; holder = 0; strays = strays; faults = faults; met = 0 })
    (record { code = code; place = place; rounds = rounds; holder = q 0; strays = strays; faults = faults; met = q 0 })
no-trains q e code place rounds strays faults =
    ap (λ (h : ℕ). record { code = code; place = place; rounds = rounds; holder = h; strays = strays; faults = faults; met = h }) (sym e)

row_match : (q : ℕ → ℕ) → q 0 ≡ 0 → (s : Status) (rounds strays met : ℕ) → status_row (r_status q s) rounds strays (q met) ≡ r_row q (status_row s rounds strays met)
row_match q e Success rounds strays met = no-holder q e 3 0 rounds strays 0 (q met)
row_match q e (Blocked holder) rounds strays met = refl
row_match q e (Faulty n) rounds strays met = no-holder q e 5 0 rounds strays n (q met)
row_match q e (Refused r) rounds strays met = no-trains q e _ r.place rounds strays 0

row-strays : (s : Status) (rounds strays met : ℕ) → (status_row s rounds strays met).strays ≡ strays
row-strays Success rounds strays met = refl
row-strays (Blocked holder) rounds strays met = refl
row-strays (Faulty n) rounds strays met = refl
row-strays (Refused r) rounds strays met = refl

module _ (p q : ℕ → ℕ) (zero_stays : q 0 ≡ 0) (img img' : List ℕ) (m : ImagesMatch p q img img') (u u' : UpdatedImage) where
  visit-by : (n : ℕ) (f : Refusal) (is_done is_moved : Bool) → (u.answer.tally.strays ≡ 0 → UpdatesMatch p q u u') → (visit_by n f is_done is_moved u img).row.strays ≡ 0
      → VisitsMatch p q (visit_by n f is_done is_moved u img) (visit_by n f is_done is_moved u' img')
  visit-by (suc n) f is_done is_moved h s = record { row = no-trains q zero_stays _ f.place 0 0 0; image = m }
  visit-by zero f true is_moved h s = record { row = no-trains q zero_stays 1 0 0 0 0; image = m }
  visit-by zero f false true h s = record { row = no-trains q zero_stays 2 0 0 0 0; image = m }
  visit-by zero f false false h s =
      let k = h (sym (row-strays u.answer.status u.answer.tally.rounds u.answer.tally.strays u.answer.met.0) ∙ s) in
      record { row = rw k.answer (row_match q zero_stays u.answer.status u.answer.tally.rounds u.answer.tally.strays u.answer.met.0); image = k.images }

finished_match : (p q : ℕ → ℕ) (img img' : List ℕ) → ImagesMatch p q img img' → is_finished img' ≡ is_finished img
unfolding is_finished
finished_match p q img img' m = ap₂ eqb (header-high p q img img' m 2 36 (omega arith) (omega arith)) (path-count p q img img' m)

-- top is the largest train; it and the trains of the call are ones that the images hold
module _ (top : ℕ) (p q : ℕ → ℕ) (occ occ' : List ℕ) (a a' : CheckArgs) (g : ArgsMatch p q a a') (c : GivenMatch top p q occ occ' a.blocking a'.blocking) (empty : occupied occ no_link ≡ false) where
  module _ (t : ℕ) (img img' : List ℕ) (m : ImagesMatch p q img img') (b : Bytes img) (b' : Bytes img') (low : top ≤ largest_train img) (w : TrainsWithin (largest_train img) occ a.moved)
      (given : given_fault a.widths img occ a.moved ≡ no_refusal) (given' : given_fault a.widths img' occ' (q a.moved) ≡ no_refusal) where
    abbrev u : UpdatedImage
    u = updated_image_in a.widths img occ a.blocking a.moved a.local a.limit

    abbrev u' : UpdatedImage
    u' = updated_image_in a.widths img' occ' a'.blocking (q a.moved) a.local a.limit

    abbrev f : Refusal
    f = fault_with a.widths no_refusal img (length occ)

    fault-same : fault_with a.widths no_refusal img' (length occ') ≡ f
    fault-same = rw c.occupancies.long (fault_match p q (length occ) top c.links c.trains img img' m a.widths no_refusal (λ e v. subst (λ (x : Bool). top ≤ largest_of x) v low))

    second : visited occ' a' (q t) img' ≡ visit_by f.number f (is_finished img) (eqb t a.moved) u' img'
    unfolding visited
    second = rw (g.widths, g.moved, g.local, g.limit, fault-same, finished_match p q img img' m, eqb_renumbered top q c.trains t a.moved)

    pub visit_match : (visited occ a t img).row.strays ≡ 0 → VisitsMatch p q (visited occ a t img) (visited occ' a' (q t) img')
    unfolding visited
    visit_match s =
        subst (λ (v : Visit). VisitsMatch p q (visited occ a t img) v) (sym second)
        (visit-by p q c.trains.zero_stays img img' m u u' f.number f (is_finished img) (eqb t a.moved)
        (update_match top p q occ occ' a.blocking a'.blocking c a.moved a.local a.limit a.widths img img' m (given' ∙ sym given) low b b' w empty) s)

-- from slot 1 on every slot is visited
pub visited-slot : (yard occ : List ℕ) (a : CheckArgs) (t : ℕ) → a.begin ≡ 1 → 1 ≤ t → slot_visit yard occ a t ≡ visited occ a t (part_of yard t)
unfolding slot_visit
visited-slot yard occ a t e h =
    ap (λ (b : Bool). cond b (visit unvisited_row (part_of yard t)) (visited occ a t (part_of yard t))) (le-ltb t a.begin (omega arith))
