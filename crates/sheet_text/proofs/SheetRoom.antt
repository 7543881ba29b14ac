-- Every sheet fits into 4,096 bytes: a first line and at most 63 lines of at most 61 bytes, where the bundle is of bytes. Assumes nothing.
use mathlib.Core.Path.{◌≡◌, refl, sym, ap, subst⁻¹, ◌∙◌}
use mathlib.Core.Bool.{Bool, true, false, cond, not, ◌&&◌, ◌||◌}
use mathlib.Core.List.{List}
use Prim.Native.Nat.{ℕ, zero, suc, ◌+◌, ◌*◌, ◌-◌, ◌^◌, max, ◌≤◌, ◌<◌}
use native.Mathlib.Omega.{arith}
use lib.Dec.{ltb, leb, eqb}
use lib.ListN.{length, get_or, length-append}
use borrow.Author.Tests.{ltb-true, ltb-false, leb-true, eqb-true}
use Rattle.link_rules.specs.Octets.{le_at}
use Rattle.link_rules.proofs.OctetLaws.{Bytes, le_lt}
use Rattle.disp_structs.specs.Listed.{listed}
use Rattle.disp_structs.proofs.ListedLaws.{listed-length, listed_at}
use Rattle.search.proofs.ListedLaws.{get_d_out}
use Rattle.image.specs.Image.{path_count_of, path_header}
use Rattle.image_reader.specs.Reader.{free_of}
use Rattle.image_fault.specs.ImageFault.{image_fault, dist_fits, indices_fit, header_fits}
use Rattle.link_rules.specs.Refusals.{no_refusal, refused, or_else}
use Rattle.link_rules.specs.declared.refusal.Refusal.{Refusal}
use Rattle.link_rules.proofs.TableLaws.{both}
use Rattle.image_fault.proofs.AcceptLaws.{accepted, fits-counts, clean_header}
use Rattle.image_fault.specs.declared.Widths.{Widths}
use Rattle.image_fault.specs.declared.Widths.TheVariants.{Narrow, Either}
use Rattle.wide_occupancy.specs.WideOccupancy.{largest}
use Rattle.update_definition.specs.Fits.{TrainsUpTo}
use Rattle.update_definition.specs.UpdateImage.{links_below, call_fault}
use Rattle.yard_check.specs.Yard.{slot_count, part_of, yard_fits, yard_fault}
use Rattle.yard_check.specs.Check.{CheckArgs, largest_held, wide_rows, row_size, held_fault, slots_fault, report_fault, report_after, check_fault, Row, is_finished_row, is_blocked_row, is_erred_row, row_at, slot_row, how_many, first_not, answer_by, answer_of, Checked, check_done, checked_by, checked_with}
use Rattle.sheet_text.specs.Sheet.{bundle_fits, checked_bundle, bundle_occupancy, occupancy_count, code_word, refused_word, refused_line, first_line, free_column, slot_line, slot_lines, check_text, check_lines, sheet_text}
use Rattle.text.specs.Ascii.{ascii, column}
use Rattle.yard_check.proofs.SlotLaws.{many_few}
use Rattle.yard_check.proofs.YardLaws.{fits}
use Rattle.yard_check.proofs.RowLaws.{slot-met}
use Rattle.yard_check.proofs.ReportLaws.{report-row}
use Rattle.yard_check.proofs.CheckLaws.{taken, taken-done, slots_kept}
use Rattle.text.proofs.DecimalLaws.{decimal-length}

-- ---- numbers

column-long : (k n : ℕ) → n < 10 ^ suc k → length (column n) ≤ suc (suc k)
column-long k n h = omega (arith, decimal-length k n h)

-- ---- the line of a slot

either-long : (t : Bool) (xs ys : List ℕ) → length xs ≤ 13 → length ys ≤ 13 → length (cond t xs ys) ≤ 13
either-long true xs ys h k = h
either-long false xs ys h k = k

word-long : (c : ℕ) → c < 65536 → length (code_word c) ≤ 13
unfolding code_word ascii listed
word-long c h =
    let last : length (refused_word (c - 16)) ≤ 13 = omega (arith, decimal-length 4 (c - 16) (omega arith)) in
    either-long (eqb c 0) (ascii "unvisited") _ (omega arith)
    (either-long (eqb c 1) (ascii "finished") _ (omega arith)
    (either-long (eqb c 2) (ascii "moved") _ (omega arith)
    (either-long (eqb c 3) (ascii "success") _ (omega arith)
    (either-long (eqb c 4) (ascii "blocked") _ (omega arith)
    (either-long (eqb c 5) (ascii "faulty") (refused_word (c - 16)) (omega arith) last)))))

-- what 2 and 4 bytes hold; the train met is an entry of the occupancy
record Small (r : Row) : Type 0 where
  code : r.code < 65536
  rounds : r.rounds < 65536
  holder : r.holder < 65536
  strays : r.strays < 4294967296
  faults : r.faults < 4294967296
  met : r.met < 65536

line_long : (t free : ℕ) (r : Row) → t ≤ 63 → free ≤ 512 → Small r → length (slot_line t r free) ≤ 61
unfolding slot_line
line_long t free r h l s =
    let a = decimal-length 1 t (omega arith) in
    let b = word-long r.code s.code in
    let c = column-long 4 r.rounds (omega (arith, s.rounds)) in
    let d = column-long 4 r.holder (omega (arith, s.holder)) in
    let e = column-long 9 r.strays (omega (arith, s.strays)) in
    let f = column-long 9 r.faults (omega (arith, s.faults)) in
    let g = column-long 2 free (omega arith) in
    let i = column-long 4 r.met (omega (arith, s.met)) in
    simp length-append (omega arith)

-- free of an image that passes 6 to 9 is at most N
free-within : (img : List ℕ) (links : ℕ) → (image_fault img links).number ≡ 0 → free_of img ≤ 512
unfolding header_fits indices_fit path_header
free-within img links z =
    let a = accepted img links z in
    let c = fits-counts img a.fits in
    let h1 = both (dist_fits (le_at 8 img 48)) _ (clean_header img links a.values) in
    let h2 = both (dist_fits (le_at 8 img 56)) _ h1.1 in
    let i1 = both (leb (le_at 2 img 34) (path_count_of img)) _ h2.1 in
    let i2 = both (leb (free_of img) (path_count_of img)) _ i1.1 in
    omega (arith, leb-true (free_of img) (path_count_of img) i2.0)

free-few : (img : List ℕ) (links : ℕ) → free_column img links ≤ 512
unfolding free_column
free-few img links = go (eqb (image_fault img links).number 0) refl
  where
    go : (t : Bool) → eqb (image_fault img links).number 0 ≡ t → cond t (free_of img) 0 ≤ 512
    go true e = free-within img links (eqb-true (image_fault img links).number 0 e)
    go false e = omega arith

lines_long : (yard report : List ℕ) (links n : ℕ) → n ≤ 63 → ((t : ℕ) → 1 ≤ t → t ≤ n → Small (row_at false report t)) → length (slot_lines yard report links n) ≤ 61 * n
unfolding slot_lines
lines_long yard report links zero h s = omega arith
lines_long yard report links (suc n) h s =
    let r = lines_long yard report links n (omega arith) (λ t l k. s t l (omega arith)) in
    let q = line_long (suc n) (free_column (part_of yard (suc n)) links) (row_at false report (suc n)) h (free-few (part_of yard (suc n)) links) (s (suc n) (omega arith) (omega arith)) in
    simp length-append (omega arith)

-- ---- the first line

first-near : (test : ℕ → Bool) (k t : ℕ) → first_not test k t ≤ t + k
unfolding first_not
first-near test zero t = omega arith
first-near test (suc k) t = go (test t) (first-near test k (t + 1))
  where
    go : (x : Bool) → first_not test k (t + 1) ≤ t + 1 + k → elim x [ true ↦ first_not test k (t + 1) | false ↦ t ] ≤ t + suc k
    go true h = omega arith
    go false h = omega arith

first-long : (rows : ℕ → Row) (slots begin : ℕ) (lines : List ℕ) → slots ≤ 63 → begin ≤ 64 → length lines ≤ 3843
    → length (check_text (answer_of rows slots begin) (first_line (answer_of rows slots begin) slots) lines) ≤ 4096
unfolding answer_of ascii listed
first-long rows slots begin lines h l k =
    go (how_many (λ t. is_erred_row (rows t)) slots) (not (eqb (how_many (λ t. is_blocked_row (rows t)) slots) 0))
    (first_not (λ t. is_finished_row (rows t)) (slots + 1 - begin) begin)
    (omega (arith, many_few (λ t. is_erred_row (rows t)) slots))
    (omega (arith, first-near (λ t. is_finished_row (rows t)) (slots + 1 - begin) begin))
  where
    go : (e : ℕ) (d : Bool) (next : ℕ) → e ≤ 63 → next ≤ 128 → length (check_text (answer_by e d next) (first_line (answer_by e d next) slots) lines) ≤ 4096
    go zero true next he hn = let a = column-long 1 slots (omega arith) in let b = column-long 2 next (omega arith) in simp length-append (omega arith)
    go zero false next he hn = let a = column-long 1 slots (omega arith) in let b = column-long 2 next (omega arith) in simp length-append (omega arith)
    go (suc e) d next he hn = let a = column-long 1 slots (omega arith) in let b = column-long 1 (suc e) (omega arith) in simp length-append (omega arith)

-- ---- a check: the numbers that refuse it, and its rows

refused-long : (n : ℕ) → n ≤ 22 → length (refused_line n) ≤ 4096
unfolding ascii listed
refused-long n h = let a = column-long 1 n (omega arith) in simp length-append (omega arith)

one_of : (t : Bool) (a b : Refusal) → a.number ≤ 22 → b.number ≤ 22 → (cond t a b).number ≤ 22
one_of true a b h k = h
one_of false a b h k = k

or_few : (a b : Refusal) → a.number ≤ 22 → b.number ≤ 22 → (or_else a b).number ≤ 22
or_few a b h k = one_of (eqb a.number 0) b a k h

call-few : (occ blocking : List ℕ) (moved limit : ℕ) → (call_fault occ blocking moved limit).number ≤ 22
unfolding call_fault
call-few occ blocking moved limit =
    or_few (cond (leb 2 (length occ) && leb (length occ) 4000) no_refusal (refused 2 0)) _ (one_of (leb 2 (length occ) && leb (length occ) 4000) no_refusal (refused 2 0) (omega arith) (omega arith))
    (or_few (cond (leb (length blocking) 4000 && links_below (length occ) blocking) no_refusal (refused 4 0)) (cond (eqb moved 0 || eqb limit 0) (refused 5 0) no_refusal)
    (one_of (leb (length blocking) 4000 && links_below (length occ) blocking) no_refusal (refused 4 0) (omega arith) (omega arith))
    (one_of (eqb moved 0 || eqb limit 0) (refused 5 0) no_refusal (omega arith) (omega arith)))

held-few : (w : Widths) (yard occ : List ℕ) → (held_fault w yard occ).number ≤ 22
held-few Narrow yard occ = omega arith
held-few Either yard occ = one_of (leb (max 0 (largest occ)) (largest_held yard)) no_refusal (refused 22 0) (omega arith) (omega arith)

fault-few : (yard occ : List ℕ) (a : CheckArgs) (long : ℕ) → (check_fault yard occ a long).number ≤ 22
unfolding check_fault slots_fault report_fault
fault-few yard occ a long =
    let S = slot_count yard in
    or_few (call_fault occ a.blocking a.moved a.limit) _ (call-few occ a.blocking a.moved a.limit)
    (or_few (yard_fault yard) _ (one_of (yard_fits yard) no_refusal (refused 14 0) (omega arith) (omega arith))
    (or_few (held_fault a.widths yard occ) _ (held-few a.widths yard occ)
    (or_few (slots_fault S a) (report_fault (wide_rows a.widths yard) S long) (one_of (leb a.moved S && (leb 1 a.begin && leb a.begin (S + 1))) no_refusal (refused 15 0) (omega arith) (omega arith))
    (one_of (eqb long (row_size (wide_rows a.widths yard) * S)) no_refusal (refused 16 0) (omega arith) (omega arith)))))

-- over u16 entries
module _ (yard occ : List ℕ) (u : TrainsUpTo 65535 occ) (a : CheckArgs) (narrow : a.widths ≡ Narrow) (report : List ℕ) (links : ℕ) where
  abbrev f : Refusal
  f = check_fault yard occ a (length report)

  abbrev rows : ℕ → Row
  rows t = slot_row yard occ a t

  abbrev done : Checked
  done = check_done yard occ a report

  few_columns : wide_rows a.widths yard ≡ false
  few_columns = ap (λ (w : Widths). wide_rows w yard) narrow

  row_small : (t : ℕ) → row_size false * slot_count yard ≤ length report → 1 ≤ t → t ≤ slot_count yard → Small (row_at false done.report t)
  row_small t h l k =
      subst⁻¹ (λ (w : Bool). Small (row_at false (report_after w rows report (slot_count yard)) t)) few_columns
      (subst⁻¹ Small (report-row false rows report (slot_count yard) h t l k)
      (record { code = omega arith; rounds = omega arith; holder = omega arith; strays = omega arith; faults = omega arith; met = omega (arith, slot-met 65535 occ u a t yard) }))

  done-long : f.number ≡ 0 → length (check_lines done links) ≤ 4096
  unfolding check_lines
  done-long e =
      let k = taken yard occ a (length report) e in
      let few = (fits yard k.yard-fits).few in
      let same : slot_count done.yard ≡ slot_count yard = ap (λ (c : Checked). slot_count c.yard) (sym (taken-done yard occ a report e)) ∙ slots_kept yard occ a report k.yard-fits in
      let long = lines_long done.yard done.report links (slot_count yard) few (λ t l m. row_small t (omega (arith, k.report-long, ap (λ (w : Bool). row_size w * slot_count yard) few_columns)) l m) in
      rw same (first-long rows (slot_count yard) a.begin (slot_lines done.yard done.report links (slot_count yard)) few (omega (arith, k.begin-high)) (omega arith))

  check-long : length (check_lines (checked_with yard occ a report) links) ≤ 4096
  unfolding checked_with check_lines
  check-long = go f.number refl
    where
      go : (n : ℕ) → f.number ≡ n → length (check_lines (checked_by n f done yard report) links) ≤ 4096
      go zero e = done-long e
      go (suc n) e = refused-long f.number (fault-few yard occ a (length report))

-- an occupancy of u16 entries
occupancy-low : (b : List ℕ) → Bytes b → TrainsUpTo 65535 (bundle_occupancy b)
occupancy-low b h i = go (ltb i (occupancy_count b)) refl
  where
    entry : (j : ℕ) → le_at 2 b (32 + 2 * j) < 65536
    entry j = le_lt 2 b (32 + 2 * j) h

    go : (t : Bool) → ltb i (occupancy_count b) ≡ t → get_or (bundle_occupancy b) i 0 ≤ 65535
    go true e = omega (arith, listed_at (occupancy_count b) (λ j. le_at 2 b (32 + 2 * j)) i 0 (ltb-true i (occupancy_count b) e), entry i)
    go false e = omega (arith, get_d_out (bundle_occupancy b) i 0 (omega (arith, ltb-false i (occupancy_count b) e, listed-length (occupancy_count b) (λ j. le_at 2 b (32 + 2 * j)))))

-- the room that the program lends
pub sheet_room : (b : List ℕ) → Bytes b → length (sheet_text b) ≤ 4096
unfolding sheet_text checked_bundle
sheet_room b h = go (bundle_fits b)
  where
    go : (t : Bool) → length {A = ℕ} (elim t [ true ↦ check_lines (checked_bundle b) (occupancy_count b) | false ↦ refused_line 17 ]) ≤ 4096
    go true = check-long _ _ (occupancy-low b h) _ refl _ (occupancy_count b)
    go false = refused-long 17 (omega arith)
