-- What 24 tells of the second yard in a half check, and the half check by its refusal. Assumes nothing.
use mathlib.Core.Path.{◌≡◌, refl, sym, ap, ◌∙◌}
use mathlib.Core.Bool.{true, ◌&&◌, ◌||◌}
use mathlib.Core.List.{List}
use Prim.Native.Nat.{ℕ, zero, suc, ◌+◌, ◌*◌, ◌≤◌, ◌<◌}
use native.Mathlib.Numerals.{add-one}
use native.Mathlib.Omega.{arith}
use lib.Dec.{ltb, leb, eqb, lit<}
use lib.ListN.{length}
use borrow.Author.Tests.{eqb-true, leb-true, ltb-true, eq-eqb, ne_eqb, le-leb, lt-ltb}
use Rattle.link_rules.specs.Network.{all_below}
use Rattle.link_rules.specs.Refusals.{refused_unless}
use Rattle.link_rules.specs.declared.refusal.Refusal.{Refusal}
use Rattle.link_rules.proofs.TableLaws.{all-at, both}
use Rattle.image_fault.proofs.AcceptLaws.{or_else_clean, refused_clean}
use Rattle.update_definition.specs.UpdateImage.{call_fault}
use Rattle.yard_check.specs.Yard.{yard_size, slot_count, part_begin, part_of, yard_fits, yard_fault}
use Rattle.yard_check.specs.Check.{CheckArgs, Refused}
use Rattle.yard_check.specs.Pair.{part_lies, second_lies, late_fault, pair_fault, PairChecked, pair_of, pair_done, pair_by, pair_checked}
use Rattle.yard_check.proofs.YardLaws.{Fits, fits, part-long, part_length_lem}
use Rattle.carry.specs.Carry.{wide_end, wide_size, offset_fits, second_header_fits, carried_fits, zero_from, begun_fits, second_fits}
use Rattle.carry.specs.CarriedFar.{Header}
use Rattle.carry.specs.HalfCheck.{half_fits, early_fault, half_fault, half_checked}
use Rattle.carry.proofs.LayoutLaws.{end_zero, end-suc, length-is, or_first}
use Rattle.carry.proofs.CarryLaws.{cut_long, all_of}

-- ---- the second yard

-- a count from 1 to S - 1, and the header
pub record HalfTaken (yard wide : List ℕ) (count : ℕ) : Type 0 where
  pub low : 1 ≤ count
  pub high : count < slot_count yard
  pub header : Header yard wide

pub half_taken : (yard wide : List ℕ) (count : ℕ) → half_fits yard count wide ≡ true → HalfTaken yard wide count
unfolding half_fits second_fits begun_fits second_header_fits offset_fits
half_taken yard wide count h =
    let S = slot_count yard in
    let a = both (leb 1 count) (second_fits yard count wide) h in
    let low = leb-true 1 count a.0 in
    let b = both (ltb count S) _ a.1 in
    let c = both (eqb (length wide) (wide_size yard)) (eqb count 0 || begun_fits yard count wide) b.1 in
    let d : begun_fits yard count wide ≡ true = rw (ne_eqb count 0 (λ q. omega (arith, low, q))) at c.1 in
    let e = (both (second_header_fits yard wide) (all_below count (carried_fits yard wide) && zero_from (wide_end yard count) wide) d).0 in
    let f = both (eqb (yard_size wide) (wide_size yard)) _ e in
    let g = both (eqb (slot_count wide) S) (all_below S (offset_fits yard wide)) f.1 in
    record {
      low = low;
      high = ltb-true count S b.0;
      header = record {
        long = eqb-true (length wide) (wide_size yard) c.0;
        size = eqb-true (yard_size wide) (wide_size yard) f.0;
        slots = eqb-true (slot_count wide) S g.0;
        offsets = λ n l. ap (part_begin wide) (sym (add-one n)) ∙ eqb-true (part_begin wide (n + 1)) (wide_end yard n) (all-at (offset_fits yard wide) S n g.1 l);
      };
    }

-- its parts have 64 bytes or more
pub wide_room : (yard : List ℕ) → Fits yard → (n : ℕ) → n < slot_count yard → wide_end yard n + 64 ≤ wide_end yard (suc n)
wide_room yard f n l = omega (arith, end-suc yard n, length-is yard (suc n), part_length_lem yard f (suc n) (omega arith) l, part-long yard f (suc n) (omega arith) l)

-- so it lies as the check of two yards asks
pub half_lies : (yard wide : List ℕ) (count : ℕ) → Fits yard → HalfTaken yard wide count → second_lies yard wide count ≡ true
unfolding second_lies
half_lies yard wide count f k =
    let S = slot_count yard in
    let h = k.header in
    rw (
      le-leb 1 count k.low,
      lt-ltb count S k.high,
      eq-eqb (slot_count wide) S h.slots,
      eq-eqb (yard_size wide) (length wide) (h.size ∙ sym h.long),
      eq-eqb (part_begin wide 1) (8 + 4 * S) (h.offsets 0 f.some ∙ end_zero yard),
    )
    (all_of (λ i. part_lies wide (i + 1)) S (λ i l.
    ap (part_lies wide) (add-one i) ∙ le-leb 64 (length (part_of wide (suc i))) (omega (arith, cut_long yard wide h i l, wide_room yard f i l))))

-- ---- by the refusal

module _ (yard wide : List ℕ) (count : ℕ) (occ : List ℕ) (a : CheckArgs) where
  -- 2, 4, 5, 14 and 24 do not stand
  pub record EarlyPassed : Type 0 where
    pub call : (call_fault occ a.blocking a.moved a.limit).number ≡ 0
    pub yard-fits : yard_fits yard ≡ true
    pub half : half_fits yard count wide ≡ true

  pub early_passed : (early_fault yard wide count occ a).number ≡ 0 → EarlyPassed
  unfolding early_fault
  early_passed h =
      let x = or_else_clean (call_fault occ a.blocking a.moved a.limit) _ h in
      let y = or_else_clean (yard_fault yard) (refused_unless (half_fits yard count wide) 24) x.1 in
      record {
        call = x.0;
        yard-fits = refused_clean (yard_fits yard) 14 (lit< tt) y.0;
        half = refused_clean (half_fits yard count wide) 24 (lit< tt) y.1;
      }

  early_none : EarlyPassed → (early_fault yard wide count occ a).number ≡ 0
  unfolding early_fault
  early_none e = rw (eq-eqb (call_fault occ a.blocking a.moved a.limit).number 0 e.call, e.yard-fits, e.half)

  -- then what is left of the refusals is that of the check of two yards
  pub same-fault : EarlyPassed → (long : ℕ) → pair_fault yard wide count occ a long ≡ half_fault yard wide count occ a long
  unfolding pair_fault
  same-fault e long =
      rw (
        eq-eqb (call_fault occ a.blocking a.moved a.limit).number 0 e.call,
        e.yard-fits,
        half_lies yard wide count (fits yard e.yard-fits) (half_taken yard wide count e.half),
        eq-eqb (early_fault yard wide count occ a).number 0 (early_none e),
      )

  module _ (report : List ℕ) where
    abbrev fault : Refusal
    fault = half_fault yard wide count occ a (length report)

    abbrev done : PairChecked
    done = pair_done yard wide count occ a report

    pub half_by : (P : PairChecked → Type 0) → P (pair_of (Refused fault) yard wide report) → (fault.number ≡ 0 → P done) → P (half_checked yard wide count occ a report)
    unfolding half_checked
    half_by P halt ok = go fault.number refl
      where
        go : (n : ℕ) → fault.number ≡ n → P (pair_by n fault done yard wide report)
        go zero e = ok e
        go (suc n) e = halt

    pub half_halted : (fault.number ≡ 0 → ⊥) → half_checked yard wide count occ a report ≡ pair_of (Refused fault) yard wide report
    half_halted n = half_by (λ (c : PairChecked). c ≡ pair_of (Refused fault) yard wide report) refl (λ q. absurd (n q))

    pub half_done : fault.number ≡ 0 → half_checked yard wide count occ a report ≡ done
    unfolding half_checked
    half_done e = ap (λ (n : ℕ). pair_by n fault done yard wide report) e

    pub half_refused : (f : Refusal) → f ≡ early_fault yard wide count occ a → (f.number ≡ 0 → ⊥) → pair_of (Refused f) yard wide report ≡ half_checked yard wide count occ a report
    half_refused f e n =
        let k : f ≡ fault = e ∙ sym (or_first (early_fault yard wide count occ a) (late_fault yard wide count occ a (length report)) (λ q. n (ap (λ (x : Refusal). x.number) e ∙ q))) in
        ap (λ (x : Refusal). pair_of (Refused x) yard wide report) k ∙ sym (half_halted (λ q. n (ap (λ (x : Refusal). x.number) k ∙ q)))

    pub half_pair : (early_fault yard wide count occ a).number ≡ 0 → pair_checked yard wide count occ a report ≡ half_checked yard wide count occ a report
    unfolding pair_checked half_checked
    half_pair e = ap (λ (f : Refusal). pair_by f.number f done yard wide report) (same-fault (early_passed e) (length report))
