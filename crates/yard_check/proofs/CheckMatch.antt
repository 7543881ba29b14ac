-- Demand 3 for one check: over a second numbering the same answer, and reports and yards that match. Assumes nothing.
use mathlib.Core.Path.{◌≡◌, refl, sym, ap, subst, ◌∙◌}
use mathlib.Core.Bool.{Bool, true, false, not}
use mathlib.Core.List.{List}
use Prim.Native.Nat.{ℕ, zero, suc, ◌*◌, ◌-◌, ◌%◌, max, ◌≤◌, ◌<◌}
use native.Mathlib.Omega.{arith}
use lib.Dec.{leb, eqb}
use lib.ListN.{length, get_or}
use borrow.Author.Tests.{eq-eqb}
use Rattle.link_rules.specs.LinkIdx.{no_link, no_train, occupied}
use Rattle.link_rules.specs.Renumbering.{Renumbering}
use Rattle.link_rules.specs.Matching.{OccupanciesMatch}
use Rattle.link_rules.proofs.OctetLaws.{Bytes}
use Rattle.link_rules.proofs.RenumberingLaws.{below}
use Rattle.image.specs.Image.{is_wide, largest_train}
use Rattle.image.proofs.MatchLaws.{wide_match}
use Rattle.image_fault.specs.ImageFault.{fault_with}
use Rattle.link_rules.specs.Refusals.{no_refusal, refused_unless}
use Rattle.wide_occupancy.specs.WideOccupancy.{largest}
use Rattle.wide_occupancy.proofs.WideMarkRenumbering.{low_r}
use Rattle.link_rules.specs.declared.refusal.Refusal.{Refusal}
use Rattle.update_definition.specs.Fits.{TrainsUpTo, TrainsWithin}
use Rattle.update_definition.specs.Update.{Status, Success, Blocked, Faulty, Refused, holder_in}
use Rattle.update_definition.specs.UpdateImage.{UpdatedImage, updated_image_in}
use Rattle.update_definition.specs.UpdateMatch.{GivenMatch}
use Rattle.image_fault.specs.declared.Widths.{Widths}
use Rattle.image_fault.specs.declared.Widths.TheVariants.{Narrow, Either}
use Rattle.update_laws.proofs.UpdateCounts.{image-counts}
use Rattle.update_laws.proofs.UpdateLeaves.{left-holder, narrow-holder}
use Rattle.update_laws.proofs.BytesAccepted.{narrow-largest}
use Rattle.update_laws.proofs.ImageRenumbering.{call-fault_match}
use Rattle.yard_check.specs.Yard.{slot_count, part_of, yard_fits}
use Rattle.yard_check.specs.Check.{CheckArgs, wide_count, largest_held, wide_rows, row_size, held_fault, slots_fault, report_fault, check_fault, Row, row_at, status_row, is_blocked_row, is_erred_row, is_finished, Visit, visit_by, visited, slot_visit, slot_row, slot_image, yard_after, report_after, how_many, answer_by, answer_of, Checked, check_done, checked_by, checked_with}
use Rattle.yard_check.specs.YardMatch.{TrainsHeld, YardsMatch, r_row, ReportsMatch, AnswersMatch, NotRefused, ArgsMatch}
use Rattle.yard_check.specs.DemandThree.{largest_in, EntriesOfType, Plain}
use Rattle.yard_check.proofs.SlotLaws.{some, many_same, many_renumbered, leb_slots}
use Rattle.yard_check.proofs.WidthLaws.{held_in, largest-few, few-narrow, few-wide, narrow-image, entries_in, given-none}
use Rattle.yard_check.proofs.YardLaws.{fits, slots-after, part_bytes, part-done}
use Rattle.yard_check.proofs.VisitLaws.{images_fit}
use Rattle.yard_check.proofs.CheckLaws.{taken, taken-done, slots-within}
use Rattle.yard_check.proofs.RowLaws.{slot-met}
use Rattle.yard_check.proofs.ReportLaws.{holder_room, kept_row, report-length, report-row}
use Rattle.yard_check.proofs.VisitMatch.{VisitsMatch, visit_match, visited-slot}

-- ---- the holder of a row is one that the image holds

holder-row : (s : Status) (rounds strays met : ℕ) → (status_row s rounds strays met).holder ≤ holder_in s
holder-row Success rounds strays met = omega arith
holder-row (Blocked holder) rounds strays met = omega arith
holder-row (Faulty n) rounds strays met = omega arith
holder-row (Refused r) rounds strays met = omega arith

holder_by : (n : ℕ) (f : Refusal) (is_done is_moved : Bool) (u : UpdatedImage) (img : List ℕ) → (visit_by n f is_done is_moved u img).row.holder ≤ holder_in u.answer.status
holder_by (suc n) f is_done is_moved u img = omega arith
holder_by zero f true is_moved u img = omega arith
holder_by zero f false true u img = omega arith
holder_by zero f false false u img = holder-row u.answer.status u.answer.tally.rounds u.answer.tally.strays u.answer.met.0

-- a record has room for it
module _ (yard occ : List ℕ) (a : CheckArgs) (t : ℕ) (l : 1 ≤ t) (m : t ≤ slot_count yard) (b : Bytes (part_of yard t)) (w : TrainsWithin (largest_train (part_of yard t)) occ a.moved) where
  abbrev image : List ℕ
  image = part_of yard t

  abbrev update : Widths → UpdatedImage
  update v = updated_image_in v image occ a.blocking a.moved a.local a.limit

  abbrev holder_of : Widths → ℕ
  holder_of v = let f = fault_with v no_refusal image (length occ) in (visit_by f.number f (is_finished image) (eqb t a.moved) (update v) image).row.holder

  holder-up : (v : Widths) → holder_of v ≤ holder_in (update v).answer.status
  holder-up v = let f = fault_with v no_refusal image (length occ) in holder_by f.number f (is_finished image) (eqb t a.moved) (update v) image

  either_room : (x : Bool) → wide_rows Either yard ≡ x → holder_of Either < holder_room x
  either_room true e = omega (arith, holder-up Either, left-holder Either image occ a.blocking a.moved a.local a.limit b w, largest-few (is_wide image))
  either_room false e =
      omega (arith, holder-up Either, left-holder Either image occ a.blocking a.moved a.local a.limit b w, narrow-largest image (narrow-image yard t l m e))

  room_by : (v : Widths) → holder_of v < holder_room (wide_rows v yard)
  room_by Narrow = omega (arith, holder-up Narrow, narrow-holder image occ a.blocking a.moved a.local a.limit b w)
  room_by Either = either_room (wide_rows Either yard) refl

  pub holder-room : (visited occ a t image).row.holder < holder_room (wide_rows a.widths yard)
  unfolding visited
  holder-room = room_by a.widths

-- trains up to a larger one are permuted too
pub renumbers_more : (top more : ℕ) (q : ℕ → ℕ) → top ≤ more → Renumbering top q → Renumbering more q
renumbers_more top more q l r = record { one-to-one = r.one-to-one; zero_stays = r.zero_stays; above_stays = λ a h. r.above_stays a (omega arith) }

-- ---- the strays of a row fit the report

strays-row : (s : Status) (rounds strays met : ℕ) → (status_row s rounds strays met).strays ≤ strays
strays-row Success rounds strays met = omega arith
strays-row (Blocked holder) rounds strays met = omega arith
strays-row (Faulty n) rounds strays met = omega arith
strays-row (Refused r) rounds strays met = omega arith

strays_by : (n : ℕ) (f : Refusal) (is_done is_moved : Bool) (u : UpdatedImage) (img : List ℕ) → (visit_by n f is_done is_moved u img).row.strays ≤ u.answer.tally.strays
strays_by (suc n) f is_done is_moved u img = omega arith
strays_by zero f true is_moved u img = omega arith
strays_by zero f false true u img = omega arith
strays_by zero f false false u img = strays-row u.answer.status u.answer.tally.rounds u.answer.tally.strays u.answer.met.0

strays-few : (occ : List ℕ) (a : CheckArgs) (t : ℕ) (img : List ℕ) → Bytes img → a.limit < 65536 → (visited occ a t img).row.strays < 4294967296
unfolding visited
strays-few occ a t img b h =
    let f = fault_with a.widths no_refusal img (length occ) in
    let u = updated_image_in a.widths img occ a.blocking a.moved a.local a.limit in
    omega (arith, (image-counts a.widths img occ a.blocking a.moved a.local a.limit b).strays, strays_by f.number f (is_finished img) (eqb t a.moved) u img)

-- what the report keeps of a renumbered row
kept_renumbered : (wide : Bool) (q : ℕ → ℕ) (r : Row) → r.holder < holder_room wide → q r.holder < holder_room wide → r.met < holder_room wide → q r.met < holder_room wide
    → kept_row wide (r_row q r) ≡ r_row q (kept_row wide r)
kept_renumbered false q r h k l n =
    let a : q r.holder % 65536 ≡ q r.holder = omega arith in
    let b : r.holder % 65536 ≡ r.holder = omega arith in
    let c : q r.met % 4294967296 ≡ q r.met = omega arith in
    let d : r.met % 4294967296 ≡ r.met = omega arith in
    rw (a, b, c, d)
kept_renumbered true q r h k l n =
    let a : q r.holder % 4294967296 ≡ q r.holder = omega arith in
    let b : r.holder % 4294967296 ≡ r.holder = omega arith in
    let c : q r.met % 4294967296 ≡ q r.met = omega arith in
    let d : r.met % 4294967296 ≡ r.met = omega arith in
    rw (a, b, c, d)

-- a renumbered train has room where the trains have
within-room : (wide : Bool) (top : ℕ) (q : ℕ → ℕ) → top < holder_room wide → Renumbering top q → (x : ℕ) → x < holder_room wide → q x < holder_room wide
within-room false top q l r x h = below 65536 q (renumbers_more top 65535 q (omega arith) r) x h
within-room true top q l r x h = below 4294967296 q (renumbers_more top 4294967295 q (omega arith) r) x h

top-room : (w : Widths) (yard : List ℕ) → 1 ≤ slot_count yard → largest_in w yard < holder_room (wide_rows w yard)
top-room w yard l = go (wide_rows w yard) refl
  where
    go : (x : Bool) → wide_rows w yard ≡ x → largest_in w yard < holder_room x
    go false e = omega (arith, few-narrow w yard l e)
    go true e = omega (arith, few-wide w yard)

-- ---- answers

answers : (k : ℕ) (d : Bool) (n n' : ℕ) → AnswersMatch (answer_by k d n) (answer_by k d n')
answers zero d n n' = refl
answers (suc k) d n n' = refl

not-refused : (R : Type 0) → R → (k : ℕ) (d : Bool) (n : ℕ) → NotRefused R (answer_by k d n)
not-refused R r zero d n = r
not-refused R r (suc k) d n = r

-- ---- the check

-- the same answer, reports that match where it was not refused, and yards that match
pub record ChecksMatch (p q : ℕ → ℕ) (wide : Bool) (slots : ℕ) (c c' : Checked) : Type 0 where
  pub answer : AnswersMatch c.answer c'.answer
  pub report : NotRefused (ReportsMatch q wide slots c.report c'.report) c.answer
  pub yards : YardsMatch p q c.yard c'.yard

-- the widths under a renumbering
module _ (top : ℕ) (p q : ℕ → ℕ) (yard yard' : List ℕ) (trains : Renumbering top q) (among : (t : ℕ) → t ≤ slot_count yard → q t ≤ slot_count yard) (m : YardsMatch p q yard yard') where
  abbrev is_wide_in : List ℕ → ℕ → Bool
  is_wide_in y t = is_wide (part_of y t)

  pub wide-same : wide_count yard' ≡ wide_count yard
  wide-same =
      rw m.slots
      (sym (many_renumbered top (slot_count yard) q trains among (is_wide_in yard'))
      ∙ many_same (λ t. is_wide_in yard' (q t)) (is_wide_in yard) (slot_count yard) (λ t l k. wide_match p q (part_of yard t) (part_of yard' (q t)) (m.images t l k)))

  pub rows_same : (w : Widths) → wide_rows w yard' ≡ wide_rows w yard
  rows_same Narrow = refl
  rows_same Either = ap (λ (n : ℕ). not (eqb n 0)) wide-same

  pub largest-same : (w : Widths) → largest_in w yard' ≡ largest_in w yard
  largest-same Narrow = refl
  largest-same Either = rw (wide-same, m.slots)

-- 22 under a renumbering
held_match : (w : Widths) (p q : ℕ → ℕ) (yard yard' occ occ' : List ℕ) → Renumbering (length occ - 1) p → Renumbering (largest_in w yard) q → OccupanciesMatch p q occ occ'
    → largest_in w yard' ≡ largest_in w yard → held_fault w yard' occ' ≡ held_fault w yard occ
held_match Narrow p q yard yard' occ occ' links trains o e = refl
held_match Either p q yard yard' occ occ' links trains o e =
    let z = low_r (largest_held yard) q trains p occ occ' links o no_train in
    rw e (ap (λ (x : Bool). refused_unless x 22) (ap (λ (k : ℕ). leb (max k (largest occ')) (largest_held yard)) (sym trains.zero_stays) ∙ z))

module _ (p q : ℕ → ℕ) (yard yard' occ occ' : List ℕ) (a a' : CheckArgs) (report report' : List ℕ)
    (links : Renumbering (length occ - 1) p) (trains : Renumbering (largest_in a.widths yard) q)
    (among : (t : ℕ) → t ≤ slot_count yard → q t ≤ slot_count yard) (ok : yard_fits yard ≡ true) (ok' : yard_fits yard' ≡ true) (m : YardsMatch p q yard yard')
    (o : OccupanciesMatch p q occ occ') (b : Bytes yard) (b' : Bytes yard') (u : EntriesOfType a.widths occ) (g : ArgsMatch p q a a') (long : length report' ≡ length report) where
  abbrev S : ℕ
  S = slot_count yard

  abbrev top : ℕ
  top = largest_in a.widths yard

  abbrev wide : Bool
  wide = wide_rows a.widths yard

  held : TrainsHeld top yard
  held = held_in a.widths yard

  abbrev f : Refusal
  f = check_fault yard occ a (length report)

  calls : GivenMatch top p q occ occ' a.blocking a'.blocking
  calls = record { links = links; trains = trains; occupancies = o; order = g.blocking }

  -- the same refusal, or none in both
  pub fault-same : check_fault yard' occ' a' (length report') ≡ f
  unfolding check_fault slots_fault report_fault
  fault-same =
      rw (
        g.widths,
        g.moved,
        g.limit,
        g.begin,
        held_match a.widths p q yard yard' occ occ' links trains o (largest-same top p q yard yard' trains among m a.widths),
        rows_same top p q yard yard' trains among m a.widths,
        call-fault_match top p q occ occ' a.blocking a'.blocking calls a.moved a.limit,
        ok,
        ok',
        m.slots,
        leb_slots top S q trains among a.moved,
        long,
      )

  module _ (clean : f.number ≡ 0) where
    report-long : length report ≡ row_size wide * S
    report-long = (taken yard occ a (length report) clean).report-long

    w : TrainsUpTo top occ
    w = entries_in a.widths yard occ (taken yard occ a (length report) clean).held u

    clean' : (check_fault yard' occ' a' (length report')).number ≡ 0
    clean' = ap (λ (x : Refusal). x.number) fault-same ∙ clean

    module _ (begins : a.begin ≡ 1) (empty : get_or occ 0 0 ≡ 0) (strays : (t : ℕ) → 1 ≤ t → t ≤ S → (slot_row yard occ a t).strays ≡ 0) where
      abbrev row : ℕ → Row
      row t = slot_row yard occ a t

      abbrev row' : ℕ → Row
      row' t = slot_row yard' occ' a' t

      zero_empty : occupied occ no_link ≡ false
      unfolding occupied
      zero_empty = ap not (eq-eqb (get_or occ 0 0) 0 empty)

      -- the renumbered slot
      slot : (t : ℕ) → 1 ≤ t → t ≤ S → (1 ≤ q t) × (q t ≤ slot_count yard')
      slot t l k = (some top S q trains t l, omega (arith, among t k, m.slots))

      slots_match : (t : ℕ) → 1 ≤ t → t ≤ S → VisitsMatch p q (slot_visit yard occ a t) (slot_visit yard' occ' a' (q t))
      slots_match t l k =
          let here = visited-slot yard occ a t begins l in
          let there = visited-slot yard' occ' a' (q t) (g.begin ∙ begins) (slot t l k).0 in
          rw (here, there)
          (visit_match top p q occ occ' a a' g calls zero_empty t (part_of yard t) (part_of yard' (q t)) (m.images t l k)
          (part_bytes yard (fits yard ok) t l k b) (part_bytes yard' (fits yard' ok') (q t) (slot t l k).0 (slot t l k).1 b')
          (held t l k) (slots-within top yard occ a.moved (fits yard ok) (taken yard occ a (length report) clean).moved held w t l k)
          (given-none yard occ a (length report) clean t l k)
          (rw (g.widths, g.moved) at (given-none yard' occ' a' (length report') clean' (q t) (slot t l k).0 (slot t l k).1))
          (rw (here, slot_row) at (strays t l k)))

      -- as many rows of a kind that does not see the numbering
      many : (test : Row → Bool) → ((r : Row) → test (r_row q r) ≡ test r) → how_many (λ t. test (row' t)) S ≡ how_many (λ t. test (row t)) S
      many test h =
          sym (many_renumbered top S q trains among (λ t. test (row' t)))
          ∙ many_same (λ t. test (row' (q t))) (λ t. test (row t)) S (λ t l k. ap test (slots_match t l k).row ∙ h (row t))

      holder-low : (t : ℕ) → 1 ≤ t → t ≤ S → (row t).holder < holder_room wide
      holder-low t l k =
          subst (λ (v : Visit). v.row.holder < holder_room wide) (sym (visited-slot yard occ a t begins l))
          (holder-room yard occ a t l k (part_bytes yard (fits yard ok) t l k b) (slots-within top yard occ a.moved (fits yard ok) (taken yard occ a (length report) clean).moved held w t l k))

      room : top < holder_room wide
      room = top-room a.widths yard (fits yard ok).some

      met-low : (t : ℕ) → 1 ≤ t → t ≤ S → (row t).met < holder_room wide
      met-low t l k = omega (arith, room, slot-met top occ w a t yard)

      reports : ReportsMatch q wide S (report_after wide row report S) (report_after (wide_rows a'.widths yard') row' report' (slot_count yard'))
      reports =
          let same : wide_rows a'.widths yard' ≡ wide = ap (λ (v : Widths). wide_rows v yard') g.widths ∙ rows_same top p q yard yard' trains among m a.widths in
          rw same
          (record {
            long = report-length wide row' report' (slot_count yard') ∙ (long ∙ sym (report-length wide row report S));
            rows = λ t l k.
                let low = holder-low t l k in
                let few = met-low t l k in
                report-row wide row' report' (slot_count yard') (omega (arith, ap (λ (n : ℕ). row_size wide * n) m.slots, long, report-long)) (q t) (slot t l k).0 (slot t l k).1
                ∙ (ap (kept_row wide) (slots_match t l k).row
                ∙ (kept_renumbered wide q (row t) low (within-room wide top q room trains (row t).holder low) few (within-room wide top q room trains (row t).met few)
                ∙ ap (r_row q) (sym (report-row wide row report S (omega (arith, report-long)) t l k))));
          })

      abbrev img : ℕ → List ℕ
      img t = slot_image yard occ a t

      abbrev img' : ℕ → List ℕ
      img' t = slot_image yard' occ' a' t

      yards : YardsMatch p q (yard_after yard img S) (yard_after yard' img' (slot_count yard'))
      yards =
          let ft = fits yard ok in
          let ft' = fits yard' ok' in
          let fit = images_fit yard occ a in
          let fit' = images_fit yard' occ' a' in
          let same = slots-after yard ft img fit S (omega arith) in
          let same' = slots-after yard' ft' img' fit' (slot_count yard') (omega arith) in
          record {
            slots = same' ∙ (m.slots ∙ sym same);
            images = λ t l k.
                let n : t ≤ S = omega (arith, same) in
                rw (part-done yard ft img fit S (omega arith) t l n n, part-done yard' ft' img' fit' (slot_count yard') (omega arith) (q t) (slot t l n).0 (slot t l n).1 (slot t l n).1)
                (slots_match t l n).image;
          }

      done_match : ChecksMatch p q wide S (check_done yard occ a report) (check_done yard' occ' a' report')
      unfolding answer_of
      done_match =
          record {
            answer = rw (m.slots, many is_erred_row (λ r. refl), many is_blocked_row (λ r. refl)) (answers (how_many (λ t. is_erred_row (row t)) S) _ _ _);
            report = not-refused _ reports (how_many (λ t. is_erred_row (row t)) S) _ _;
            yards = yards;
          }

  -- a report that shows no stray has counted none
  none-counted : a.limit < 65536 → f.number ≡ 0 → a.begin ≡ 1 → ((t : ℕ) → 1 ≤ t → t ≤ S → (row_at wide (checked_with yard occ a report).report t).strays ≡ 0)
      → (t : ℕ) → 1 ≤ t → t ≤ S → (slot_row yard occ a t).strays ≡ 0
  none-counted few clean begins shown t l k =
      let shows : (kept_row wide (slot_row yard occ a t)).strays ≡ 0 =
      ap (λ (r : Row). r.strays) (sym (report-row wide (slot_row yard occ a) report S (omega (arith, report-long clean)) t l k) ∙ ap (λ (c : Checked). row_at wide c.report t) (sym (taken-done yard occ a report clean))) ∙ shown t l k in
      omega (arith, shows, ap (λ (v : Visit). v.row.strays) (visited-slot yard occ a t begins l), strays-few occ a t (part_of yard t) (part_bytes yard (fits yard ok) t l k b) few)

  module _ (few : a.limit < 65536) (plain : f.number ≡ 0 → Plain yard occ a report) where
    abbrev done : Checked
    done = check_done yard occ a report

    abbrev done' : Checked
    done' = check_done yard' occ' a' report'

    by : (n : ℕ) (x : Refusal) → (n ≡ 0 → ChecksMatch p q wide S done done') → ChecksMatch p q wide S (checked_by n x done yard report) (checked_by n x done' yard' report')
    by zero x h = h refl
    by (suc n) x h = record { answer = refl; report = tt; yards = m }

    -- the theorem, refused checks included
    pub check_match : ChecksMatch p q wide S (checked_with yard occ a report) (checked_with yard' occ' a' report')
    unfolding checked_with
    check_match =
        subst (λ (x : Refusal). ChecksMatch p q wide S (checked_by f.number f done yard report) (checked_by x.number x done' yard' report')) (sym fault-same)
        (by f.number f (λ e. let k = plain e in done_match e k.begin k.zero_empty (none-counted few e k.begin k.strays)))
