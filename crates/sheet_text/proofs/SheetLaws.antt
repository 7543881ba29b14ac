-- The parts of the sheet's text, as its code goes through them. Assumes nothing.
use mathlib.Core.Path.{◌≡◌, refl, sym, ap, subst, subst⁻¹, ◌∙◌}
use mathlib.Core.Bool.{Bool, true, false, not}
use mathlib.Core.List.{List, ◌++◌}
use Prim.Native.Nat.{ℕ, zero, suc, ◌+◌, ◌*◌, ◌-◌, ◌≤◌}
use native.Mathlib.Omega.{arith}
use native.Mathlib.Numerals.{add-one}
use lib.Dec.{eqb}
use lib.ListN.{length, replicate}
use borrow.Author.Tests.{eq-eqb, ne_eqb}
use Rattle.link_rules.specs.Octets.{le_at}
use Rattle.image_reader.specs.Reader.{free_of}
use Rattle.image_fault.specs.ImageFault.{image_fault}
use Rattle.link_rules.specs.declared.refusal.Refusal.{Refusal}
use Rattle.yard_check.specs.Yard.{slot_count, part_of}
use Rattle.yard_check.specs.Check.{CheckArgs, row_size, check_fault, Row, is_finished_row, is_blocked_row, is_erred_row, row_from, how_many, first_not, slot_row, Erred, Done, answer_by, answer_of, Checked, check_done, checked_by, checked_with, checked}
use Rattle.yard_check.specs.Checks.{answered_of, checked_of}
use Rattle.yard_check.specs.YardMatch.{NotRefused}
use Rattle.yard_check.specs.declared.check.Answer as Code
use Rattle.yard_check.specs.declared.check.Answer.TheVariants as Answers
use Rattle.text.specs.Text.{Text, Put}
use Rattle.sheet_text.specs.Sheet.{refused_word, code_word, refused_line, first_line, free_column, slot_line, slot_lines, check_lines, occupancy_count, bundle_fits, bundle_occupancy, bundle_blocking, bundle_yard, report_slots, checked_bundle, sheet_text}
use Rattle.yard_check.proofs.YardLaws.{fits}
use Rattle.yard_check.proofs.CheckLaws.{taken, taken-done, slots_kept}
use Rattle.text.proofs.TextLaws.{then, put_is, nothing}

pub word-refused : (c : ℕ) → (c ≡ 0 → ⊥) → (c ≡ 1 → ⊥) → (c ≡ 2 → ⊥) → (c ≡ 3 → ⊥) → (c ≡ 4 → ⊥) → (c ≡ 5 → ⊥) → code_word c ≡ refused_word (c - 16)
unfolding code_word
word-refused c n0 n1 n2 n3 n4 n5 = rw (ne_eqb c 0 n0, ne_eqb c 1 n1, ne_eqb c 2 n2, ne_eqb c 3 n3, ne_eqb c 4 n4, ne_eqb c 5 n5)

-- ---- free, 0 for a bad image

module _ (img : List ℕ) (links : ℕ) where
  pub free-good : (image_fault img links).number ≡ 0 → free_column img links ≡ free_of img
  unfolding free_column
  free-good h = rw (eq-eqb (image_fault img links).number 0 h)

  pub free_bad : ((image_fault img links).number ≡ 0 → ⊥) → free_column img links ≡ 0
  unfolding free_column
  free_bad h = rw (ne_eqb (image_fault img links).number 0 h)

-- ---- the lines, slot by slot

module _ (yard report : List ℕ) (links : ℕ) where
  pub lines_none : {t : Text} → Put (slot_lines yard report links 0) t t
  unfolding slot_lines
  lines_none = nothing

  one_more : (i free : ℕ) → free ≡ free_column (part_of yard (i + 1)) links
      → slot_lines yard report links (i + 1) ≡ slot_lines yard report links i ++ slot_line (i + 1) (row_from false report (row_size false * i)) free
  unfolding slot_lines
  one_more i free e = let k : suc i - 1 ≡ i = omega arith in rw (e, add-one i, slot_lines, k)

  pub lines_turn : (i free : ℕ) {t u v : Text} → free ≡ free_column (part_of yard (i + 1)) links → Put (slot_lines yard report links i) t u
      → Put (slot_line (i + 1) (row_from false report (row_size false * i)) free) u v → Put (slot_lines yard report links (i + 1)) t v
  lines_turn i free e p q = put_is (one_more i free e) (then p q)

-- ---- the lines of a check

module _ (yard report : List ℕ) (links : ℕ) where
  pub refused_lines : {x : Code.Answer} {r : Refusal} {t u : Text} → x ≡ Answers.Refused r → Put (refused_line r.number) t u
      → Put (check_lines (checked_of x yard report) links) t u
  unfolding check_lines
  refused_lines e p = put_is (ap (λ (z : Code.Answer). check_lines (checked_of z yard report) links) e) p

  pub erred_lines : {x : Code.Answer} {k n : ℕ} {t u v : Text} → x ≡ Answers.Erred k → n ≡ slot_count yard → Put (first_line (Erred k) n) t u
      → Put (slot_lines yard report links n) u v → Put (check_lines (checked_of x yard report) links) t v
  unfolding check_lines
  erred_lines {x} {k} e s p q =
      put_is (ap (λ (z : Code.Answer). check_lines (checked_of z yard report) links) e)
      (then (put_is (ap (first_line (Erred k)) (sym s)) p) (put_is (ap (slot_lines yard report links) (sym s)) q))

  pub done_lines : {x : Code.Answer} {d : Bool} {next n : ℕ} {t u v : Text} → x ≡ Answers.Done d next → n ≡ slot_count yard → Put (first_line (Done d next) n) t u
      → Put (slot_lines yard report links n) u v → Put (check_lines (checked_of x yard report) links) t v
  unfolding check_lines
  done_lines {x} {d} {next} e s p q =
      put_is (ap (λ (z : Code.Answer). check_lines (checked_of z yard report) links) e)
      (then (put_is (ap (first_line (Done d next)) (sym s)) p) (put_is (ap (slot_lines yard report links) (sym s)) q))

-- ---- a check that is not refused has at most 63 slots

pub of_erred : {P : Type 0} {x : Code.Answer} {k : ℕ} → x ≡ Answers.Erred k → NotRefused P (answered_of x) → P
of_erred {P} e p = subst (λ (z : Code.Answer). NotRefused P (answered_of z)) e p

pub of_done : {P : Type 0} {x : Code.Answer} {d : Bool} {next : ℕ} → x ≡ Answers.Done d next → NotRefused P (answered_of x) → P
of_done {P} e p = subst (λ (z : Code.Answer). NotRefused P (answered_of z)) e p

not-refused : (P : Type 0) (k : ℕ) (d : Bool) (next : ℕ) → P → NotRefused P (answer_by k d next)
not-refused P zero d next p = p
not-refused P (suc k) d next p = p

answered : (P : Type 0) (rows : ℕ → Row) (slots begin : ℕ) → P → NotRefused P (answer_of rows slots begin)
unfolding answer_of
answered P rows slots begin p =
    not-refused P (how_many (λ t. is_erred_row (rows t)) slots) (not (eqb (how_many (λ t. is_blocked_row (rows t)) slots) 0))
    (first_not (λ t. is_finished_row (rows t)) (slots + 1 - begin) begin) p

module _ (yard occ : List ℕ) (a : CheckArgs) (report : List ℕ) where
  abbrev f : Refusal
  f = check_fault yard occ a (length report)

  few : f.number ≡ 0 → slot_count (check_done yard occ a report).yard ≤ 63
  few e =
      let ok = (taken yard occ a (length report) e).yard-fits in
      let same = ap (λ (c : Checked). slot_count c.yard) (sym (taken-done yard occ a report e)) ∙ slots_kept yard occ a report ok in
      subst⁻¹ (λ (n : ℕ). n ≤ 63) same (fits yard ok).few

  abbrev Few : Checked → Type 0
  Few c = NotRefused (slot_count c.yard ≤ 63) c.answer

  pub slots-few : (c : Checked) → c ≡ checked_with yard occ a report → Few c
  unfolding checked_with
  slots-few c is = subst⁻¹ Few is (go f.number refl)
    where
      go : (n : ℕ) → f.number ≡ n → Few (checked_by n f (check_done yard occ a report) yard report)
      go zero e = answered (slot_count (check_done yard occ a report).yard ≤ 63) (slot_row yard occ a) (slot_count yard) a.begin (few e)
      go (suc n) e = tt

-- ---- the check of a bundle's parts

module _ (b occ blocking yard report : List ℕ) where
  pub bundle-checked : (moved begin limit flag : ℕ) → occ ≡ bundle_occupancy b → blocking ≡ bundle_blocking b → yard ≡ bundle_yard b → moved ≡ le_at 2 b 24 → begin ≡ le_at 2 b 26
      → flag ≡ le_at 2 b 30 → limit ≡ le_at 2 b 28 → report ≡ replicate (row_size false * report_slots (bundle_yard b)) 0
      → checked yard occ blocking moved begin (eqb flag 1) limit report ≡ checked_bundle b
  unfolding checked_bundle
  bundle-checked moved begin limit flag e1 e2 e3 e4 e5 e6 e7 e8 = rw (e1, e2, e3, e4, e5, e6, e7, e8)

-- ---- 17 first

pub sheet_fits : (b : List ℕ) → bundle_fits b ≡ true → sheet_text b ≡ check_lines (checked_bundle b) (occupancy_count b)
unfolding sheet_text
sheet_fits b h = rw (h, sheet_text)

pub sheet_bad : (b : List ℕ) → bundle_fits b ≡ false → sheet_text b ≡ refused_line 17
unfolding sheet_text
sheet_bad b h = rw (h, sheet_text)
