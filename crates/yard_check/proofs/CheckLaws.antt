-- What a check leaves and answers: refusals, lengths, images that pass 6 to 9; and its visits one after the other, as a loop makes them. Assumes nothing.
use mathlib.Core.Path.{◌≡◌, refl, sym, ap, ◌∙◌}
use mathlib.Core.Bool.{Bool, true, false, cond, ◌&&◌}
use mathlib.Core.List.{List}
use Prim.Native.Nat.{ℕ, zero, suc, ◌+◌, ◌*◌, ◌-◌, ◌≤◌, ◌<◌}
use native.Mathlib.Omega.{arith}
use lib.Dec.{leb, eqb}
use lib.ListN.{length, drop, take-append-drop}
use lib.Seq.{drop-drop}
use borrow.Author.Tests.{eqb-true, leb-true, eq-eqb, ne_eqb, lt-ltb, le-ltb}
use Rattle.link_rules.proofs.OctetLaws.{Bytes}
use Rattle.image_fault.specs.ImageFault.{fault_with}
use Rattle.link_rules.specs.Refusals.{no_refusal, refused}
use Rattle.link_rules.specs.declared.refusal.Refusal.{Refusal}
use Rattle.link_rules.proofs.TableLaws.{both}
use Rattle.image_fault.proofs.AcceptLaws.{or_else_clean}
use Rattle.image.specs.Image.{largest_train}
use Rattle.update_definition.specs.Fits.{TrainsUpTo, TrainsWithin}
use Rattle.update_definition.specs.UpdateImage.{UpdatedImage, call_fault, updated_image_in}
use Rattle.update_laws.proofs.BytesAccepted.{narrow-held}
use Rattle.update_laws.proofs.UpdateLeaves.{left-accepted}
use Rattle.yard_check.specs.Yard.{slot_count, part_begin, part_end, part_of, with_part, yard_fits, yard_fault}
use Rattle.yard_check.specs.YardMatch.{TrainsHeld}
use Rattle.yard_check.specs.Check.{CheckArgs, wide_rows, row_size, held_fault, slots_fault, report_fault, check_fault, Row, unvisited_row, refused_row, finished_row, moved_row, updated_row, is_erred_row, row_at, is_finished, visit, visit_by, visited, slot_visit, slot_row, slot_image, yard_after, how_many, first_not, Refused, answer_by, answer_of, Checked, check, check_done, checked_by, checked_with}
use Rattle.yard_check.proofs.VisitLaws.{slot_keeps, slot-refused, images_fit, trains_stay, images-bytes}
use Rattle.yard_check.proofs.YardLaws.{Fits, fits, part-long, part_bytes, left, slots-after, part-done, part-later, after-fits, after-bytes}
use Rattle.yard_check.proofs.ReportLaws.{report-length, report-row}

-- ---- refusals

-- a check that is not refused: the yard passes 14, every image holds the trains, moved is a slot, begin is one or S + 1, the report has room
pub record Taken (yard occ : List ℕ) (a : CheckArgs) (long : ℕ) : Type 0 where
  pub call : (call_fault occ a.blocking a.moved a.limit).number ≡ 0
  pub yard-fits : yard_fits yard ≡ true
  pub held : (held_fault a.widths yard occ).number ≡ 0
  pub moved : a.moved ≤ slot_count yard
  pub begin-low : 1 ≤ a.begin
  pub begin-high : a.begin ≤ slot_count yard + 1
  pub report-long : long ≡ row_size (wide_rows a.widths yard) * slot_count yard

pub clean-test : (n : ℕ) (x : Bool) → (cond x no_refusal (refused (suc n) 0)).number ≡ 0 → x ≡ true
clean-test n true k = refl
clean-test n false k = absurd (omega arith)

pub taken : (yard occ : List ℕ) (a : CheckArgs) (long : ℕ) → (check_fault yard occ a long).number ≡ 0 → Taken yard occ a long
unfolding check_fault slots_fault report_fault
taken yard occ a long h =
    let S = slot_count yard in
    let x = or_else_clean (call_fault occ a.blocking a.moved a.limit) _ h in
    let y = or_else_clean (yard_fault yard) _ x.1 in
    let k = or_else_clean (held_fault a.widths yard occ) _ y.1 in
    let wide = wide_rows a.widths yard in
    let z = or_else_clean (slots_fault S a) (report_fault wide S long) k.1 in
    let s = both (leb a.moved S) _ (clean-test 14 (leb a.moved S && (leb 1 a.begin && leb a.begin (S + 1))) z.0) in
    let b = both (leb 1 a.begin) (leb a.begin (S + 1)) s.1 in
    record {
      call = x.0;
      yard-fits = clean-test 13 (yard_fits yard) y.0;
      held = k.0;
      moved = leb-true a.moved S s.0;
      begin-low = leb-true 1 a.begin b.0;
      begin-high = leb-true a.begin (S + 1) b.1;
      report-long = eqb-true long (row_size wide * S) (clean-test 15 (eqb long (row_size wide * S)) z.1);
    }

-- the answer of a check that is not refused
never : (rows : ℕ → Row) (slots begin : ℕ) (r : Refusal) → answer_of rows slots begin ≡ Refused r → ⊥
unfolding answer_of
never rows slots begin r = go (how_many (λ t. is_erred_row (rows t)) slots) _ _
  where
    go : (k : ℕ) (d : Bool) (m : ℕ) → answer_by k d m ≡ Refused r → ⊥
    go zero d m e = let z : ◌≡◌ {A = ℕ} 0 1 = cc in omega arith
    go (suc k) d m e = let z : ◌≡◌ {A = ℕ} 0 1 = cc in omega arith

module _ (yard occ : List ℕ) (a : CheckArgs) (report : List ℕ) where
  abbrev f : Refusal
  f = check_fault yard occ a (length report)

  abbrev after : Checked
  after = checked_with yard occ a report

  abbrev done : Checked
  done = check_done yard occ a report

  pub by : (P : Checked → Type 0) → ((n : ℕ) → f.number ≡ suc n → P (check (Refused f) yard report)) → (f.number ≡ 0 → P done) → P after
  unfolding checked_with
  by P halt ok = go f.number refl
    where
      go : (n : ℕ) → f.number ≡ n → P (checked_by n f done yard report)
      go zero e = ok e
      go (suc n) e = halt n e

  -- a check that is not refused
  pub taken-done : f.number ≡ 0 → after ≡ done
  unfolding checked_with
  taken-done e = ap (λ (n : ℕ). checked_by n f done yard report) e

  -- a refused check leaves the yard and the report
  pub refused-leaves : (r : Refusal) → after.answer ≡ Refused r → (after.yard ≡ yard) × (after.report ≡ report)
  refused-leaves r =
      by (λ (c : Checked). c.answer ≡ Refused r → (c.yard ≡ yard) × (c.report ≡ report))
      (λ k e h. (refl, refl))
      (λ e h. absurd (never (slot_row yard occ a) (slot_count yard) a.begin r h))

  -- the lengths are kept
  pub yard-length : length after.yard ≡ length yard
  yard-length =
      by (λ (c : Checked). length c.yard ≡ length yard) (λ k e. refl)
      (λ e. (left yard (fits yard (taken yard occ a (length report) e).yard-fits) (slot_image yard occ a) (images_fit yard occ a) (slot_count yard) (omega arith)).long)

  pub report-kept : length after.report ≡ length report
  report-kept = by (λ (c : Checked). length c.report ≡ length report) (λ k e. refl) (λ e. report-length (wide_rows a.widths yard) (slot_row yard occ a) report (slot_count yard))

  -- a yard past 14 stays past it, with as many slots, and of bytes
  module _ (ok : yard_fits yard ≡ true) where
    abbrev F : Fits yard
    F = fits yard ok

    pub fits_kept : yard_fits after.yard ≡ true
    fits_kept =
        by (λ (c : Checked). yard_fits c.yard ≡ true) (λ k e. ok)
        (λ e. after-fits yard F (slot_image yard occ a) (images_fit yard occ a) (trains_stay yard occ a) (slot_count yard) (omega arith) ∙ ok)

    pub slots_kept : slot_count after.yard ≡ slot_count yard
    slots_kept =
        by (λ (c : Checked). slot_count c.yard ≡ slot_count yard) (λ k e. refl)
        (λ e. slots-after yard F (slot_image yard occ a) (images_fit yard occ a) (slot_count yard) (omega arith))

    pub bytes-kept : Bytes yard → Bytes after.yard
    bytes-kept b =
        by (λ (c : Checked). Bytes c.yard) (λ k e. b)
        (λ e. after-bytes yard F (slot_image yard occ a) (images_fit yard occ a) (images-bytes yard occ a F b) b (slot_count yard) (omega arith))

-- ---- a visit, case by case

module _ (occ : List ℕ) (a : CheckArgs) (t : ℕ) (img : List ℕ) where
  abbrev fault : Refusal
  fault = fault_with a.widths no_refusal img (length occ)

  abbrev u : UpdatedImage
  u = updated_image_in a.widths img occ a.blocking a.moved a.local a.limit

  pub visit-refused : (n : ℕ) → fault.number ≡ suc n → visited occ a t img ≡ visit (refused_row fault 0 0) img
  unfolding visited
  visit-refused n e = ap (λ (k : ℕ). visit_by k fault (is_finished img) (eqb t a.moved) u img) e

  pub visit_finished : fault.number ≡ 0 → is_finished img ≡ true → visited occ a t img ≡ visit finished_row img
  unfolding visited
  visit_finished e d = rw (e, d)

  pub visit-moved : fault.number ≡ 0 → is_finished img ≡ false → t ≡ a.moved → visited occ a t img ≡ visit moved_row img
  unfolding visited
  visit-moved e d m = rw (e, d, eq-eqb t a.moved m)

  pub visit_updated : fault.number ≡ 0 → is_finished img ≡ false → (t ≡ a.moved → ⊥)
      → visited occ a t img ≡ visit (updated_row u.answer) u.image
  unfolding visited
  visit_updated e d m = rw (e, d, ne_eqb t a.moved m)

-- ---- the slots in order

module _ (yard occ : List ℕ) (a : CheckArgs) (f : Fits yard) where
  -- a slot's own image put back changes nothing
  pub part-back : (t : ℕ) → 1 ≤ t → t ≤ slot_count yard → with_part yard t (part_of yard t) ≡ yard
  unfolding with_part part_of
  part-back t l m =
      let b = part_begin yard t in
      let e = part_end yard t in
      let k : b + (e - b) ≡ e = omega (arith, part-long yard f t l m) in
      let d : drop (e - b) (drop b yard) ≡ drop e yard = drop-drop (e - b) b yard ∙ ap (λ (n : ℕ). drop n yard) k in
      rw (← d, take-append-drop (e - b) (drop b yard)) (take-append-drop b yard)

  -- below begin nothing changes; from begin on each slot is visited as the visits before it left it
  pub slot_unvisited : (t : ℕ) → t < a.begin → slot_visit yard occ a t ≡ visit unvisited_row (part_of yard t)
  unfolding slot_visit
  slot_unvisited t h = ap (λ (b : Bool). cond b (visit unvisited_row (part_of yard t)) (visited occ a t (part_of yard t))) (lt-ltb t a.begin h)

  pub slot_turn : (n : ℕ) → n < slot_count yard → a.begin ≤ suc n → slot_visit yard occ a (suc n) ≡ visited occ a (suc n) (part_of (yard_after yard (slot_image yard occ a) n) (suc n))
  unfolding slot_visit
  slot_turn n h l =
      ap (λ (b : Bool). cond b (visit unvisited_row (part_of yard (suc n))) (visited occ a (suc n) (part_of yard (suc n)))) (le-ltb (suc n) a.begin l)
      ∙ ap (visited occ a (suc n)) (sym (part-later yard f (slot_image yard occ a) (images_fit yard occ a) n (omega arith) (suc n) (omega arith) (omega arith) (omega arith)))

  pub yard-before : (n : ℕ) → n < a.begin → n ≤ slot_count yard → yard_after yard (slot_image yard occ a) n ≡ yard
  unfolding yard_after
  yard-before zero h l = refl
  yard-before (suc n) h l = rw (yard-before n (omega arith) (omega arith), slot_image, slot_unvisited (suc n) h) (part-back (suc n) (omega arith) l)

  -- an image that passes 6 to 9 and 22 passes them again
  pub accepted-after : Bytes yard → ((t : ℕ) → 1 ≤ t → t ≤ slot_count yard → TrainsWithin (largest_train (part_of yard t)) occ a.moved) → ((t : ℕ) → 1 ≤ t → t ≤ slot_count yard → (fault_with a.widths no_refusal (part_of yard t) (length occ)).number ≡ 0)
      → (t : ℕ) → 1 ≤ t → t ≤ slot_count yard → (fault_with a.widths no_refusal (part_of (yard_after yard (slot_image yard occ a) (slot_count yard)) t) (length occ)).number ≡ 0
  accepted-after b w ok t l m =
      rw (part-done yard f (slot_image yard occ a) (images_fit yard occ a) (slot_count yard) (omega arith) t l m m)
      (slot_keeps yard occ a t (λ (x : List ℕ). (fault_with a.widths no_refusal x (length occ)).number ≡ 0) (ok t l m)
      (left-accepted a.widths (part_of yard t) occ a.blocking a.moved a.local a.limit (part_bytes yard f t l m b) (largest_train (part_of yard t)) (omega arith) (w t l m) (ok t l m)))

-- a slot's number is a train that every image holds
slot_held : (img : List ℕ) → 63 ≤ largest_train img
slot_held img = omega (arith, narrow-held img)

-- the trains of a check that is not refused, whose moved train is a slot, are ones that each image holds
pub slots-within : (top : ℕ) (yard occ : List ℕ) (moved : ℕ) → Fits yard → moved ≤ slot_count yard → TrainsHeld top yard → TrainsUpTo top occ
    → (t : ℕ) → 1 ≤ t → t ≤ slot_count yard → TrainsWithin (largest_train (part_of yard t)) occ moved
slots-within top yard occ moved f h k w t l m =
    record { entries = λ i. omega (arith, w i, k t l m); moved-low = omega (arith, h, f.few, slot_held (part_of yard t)) }

-- top is the largest train, which every image holds
pub accepted-kept : (top : ℕ) (yard occ : List ℕ) (a : CheckArgs) (report : List ℕ) → yard_fits yard ≡ true → Bytes yard → TrainsHeld top yard → TrainsUpTo top occ
    → ((t : ℕ) → 1 ≤ t → t ≤ slot_count yard → (fault_with a.widths no_refusal (part_of yard t) (length occ)).number ≡ 0)
    → (t : ℕ) → 1 ≤ t → t ≤ slot_count yard → (fault_with a.widths no_refusal (part_of (checked_with yard occ a report).yard t) (length occ)).number ≡ 0
accepted-kept top yard occ a report ok b k w h =
    by yard occ a report (λ (c : Checked). (t : ℕ) → 1 ≤ t → t ≤ slot_count yard → (fault_with a.widths no_refusal (part_of c.yard t) (length occ)).number ≡ 0) (λ k e. h)
    (λ e. accepted-after yard occ a (fits yard ok) b (slots-within top yard occ a.moved (fits yard ok) (taken yard occ a (length report) e).moved k w) h)

-- a train refused within a check keeps its image: a slot whose record says refused has the part that it had, after a refused check too
pub refused-slot_keeps : (yard occ : List ℕ) (a : CheckArgs) (report : List ℕ) (t : ℕ) → 1 ≤ t → t ≤ slot_count yard
    → 16 ≤ (row_at (wide_rows a.widths yard) (checked_with yard occ a report).report t).code → part_of (checked_with yard occ a report).yard t ≡ part_of yard t
refused-slot_keeps yard occ a report t l m =
    by yard occ a report (λ (c : Checked). 16 ≤ (row_at (wide_rows a.widths yard) c.report t).code → part_of c.yard t ≡ part_of yard t) (λ k e h. refl)
    (λ e h.
    let k = taken yard occ a (length report) e in
    let row = report-row (wide_rows a.widths yard) (slot_row yard occ a) report (slot_count yard) (omega (arith, k.report-long)) t l m in
    let low : 16 ≤ (slot_row yard occ a t).code = omega (arith, h, ap (λ (r : Row). r.code) row) in
    part-done yard (fits yard k.yard-fits) (slot_image yard occ a) (images_fit yard occ a) (slot_count yard) (omega arith) t l m m ∙ slot-refused yard occ a t low)

-- ---- the next begin, slot by slot: it moves on where it stands at a finished slot (dispatch.rs 78-80)

and-false : (a b : Bool) → b ≡ false → (a && b) ≡ false
and-false true b h = h
and-false false b h = refl

first-end : (test : ℕ → Bool) (t : ℕ) → first_not test 0 t ≡ t
unfolding first_not
first-end test t = refl

first_pass : (test : ℕ → Bool) (k t : ℕ) → test t ≡ true → first_not test (suc k) t ≡ first_not test k (t + 1)
unfolding first_not
first_pass test k t e = rw (e, first_not)

first_stop : (test : ℕ → Bool) (k t : ℕ) → test t ≡ false → first_not test (suc k) t ≡ t
unfolding first_not
first_stop test k t e = rw (e, first_not)

pub next-turn : (test : ℕ → Bool) (k t : ℕ) → first_not test (suc k) t ≡ cond (test (t + k) && eqb (first_not test k t) (t + k)) (t + k + 1) (first_not test k t)
next-turn test zero t = go (test t) refl
  where
    go : (b : Bool) → test t ≡ b → first_not test 1 t ≡ cond (test (t + 0) && eqb (first_not test 0 t) (t + 0)) (t + 0 + 1) (first_not test 0 t)
    go true e = let x : t + 0 ≡ t = omega arith in rw (x, first_pass test 0 t e, first-end test t, first-end test (t + 1), e, eq-eqb t t refl)
    go false e = let x : t + 0 ≡ t = omega arith in rw (x, first_stop test 0 t e, first-end test t, e)
next-turn test (suc k) t = go (test t) refl (next-turn test k (t + 1))
  where
    go : (b : Bool) → test t ≡ b → first_not test (suc k) (t + 1) ≡ cond (test (t + 1 + k) && eqb (first_not test k (t + 1)) (t + 1 + k)) (t + 1 + k + 1) (first_not test k (t + 1))
        → first_not test (suc (suc k)) t ≡ cond (test (t + suc k) && eqb (first_not test (suc k) t) (t + suc k)) (t + suc k + 1) (first_not test (suc k) t)
    go true e r =
        let x : t + 1 + k ≡ t + suc k = omega arith in
        rw (first_pass test (suc k) t e, first_pass test k t e) (rw x at r)
    go false e r = rw (first_stop test (suc k) t e, first_stop test k t e) (sym (ap (λ (b : Bool). cond b (t + suc k + 1) t) (and-false (test (t + suc k)) _ (ne_eqb t (t + suc k) (λ h. omega arith)))))
