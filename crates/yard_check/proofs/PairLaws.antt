-- The check over the images of two yards: what its refusals tell, and the two loops over the slots. Assumes nothing.
use mathlib.Core.Path.{◌≡◌, refl, sym, ap, ◌∙◌}
use mathlib.Core.Bool.{Bool, true, false, cond, not, ◌&&◌}
use mathlib.Core.List.{List}
use Prim.Native.Nat.{ℕ, zero, suc, ◌+◌, ◌*◌, ◌-◌, ◌^◌, max, ◌≤◌, ◌<◌}
use native.Mathlib.Nat.{two-pow-succ}
use native.Mathlib.Numerals.{add-one}
use native.Mathlib.Omega.{arith}
use lib.Dec.{ltb, leb, eqb}
use lib.ListN.{length, drop, length-take}
use borrow.Author.Tests.{eqb-true, leb-true, ltb-true, le-leb, lt-leb, lt-ltb}
use Rattle.link_rules.specs.LinkIdx.{no_train}
use Rattle.link_rules.specs.Network.{all_below}
use Rattle.link_rules.specs.Refusals.{no_refusal, refused_unless}
use Rattle.link_rules.specs.declared.refusal.Refusal.{Refusal}
use Rattle.link_rules.proofs.TableLaws.{all-at, both}
use Rattle.image.specs.Image.{is_wide, largest_train}
use Rattle.image_fault.proofs.AcceptLaws.{or_else_clean}
use Rattle.update_definition.specs.Fits.{TrainsUpTo}
use Rattle.update_definition.specs.UpdateImage.{call_fault, given_fault}
use Rattle.update_laws.proofs.BytesAccepted.{narrow-held}
use Rattle.wide_occupancy.specs.WideOccupancy.{largest, large_train_fault}
use Rattle.wide_occupancy.proofs.TrainLaws.{largest_bounds}
use Rattle.link_rules.specs.Refusals.{raised}
use Rattle.link_rules.specs.Refusals as Raised
use Rattle.link_rules.proofs.RefusalLaws.{some_raised}
use Rattle.yard_check.specs.Yard.{yard_size, slot_count, part_begin, part_end, part_of, yard_fits, yard_fault}
use Rattle.yard_check.specs.Check.{CheckArgs, slots_fault, report_fault, Row, is_finished_row, is_blocked_row, is_erred_row, Visit, slot_visit, slot_image, yard_after, report_after, Refused, answer_by, answer_of, slot_set}
use Rattle.yard_check.specs.Checks.{tally_after, NextTurn, Lies, slot_seen, Spans, span_image, Agree, SpanVisited}
use Rattle.yard_check.specs.Pair.{pair_image, pair_visit, pair_row, part_lies, second_lies, pair_largest, late_fault, pair_fault, PairChecked, pair_of, pair_done, pair_by, pair_checked}
use Rattle.yard_check.specs.declared.check.Span.{Span}
use Rattle.yard_check.specs.declared.check.Counts.{Counts}
use Rattle.yard_check.proofs.SlotLaws.{many_few}
use Rattle.yard_check.proofs.YardLaws.{fits}
use Rattle.yard_check.proofs.CheckLaws.{clean-test, slot_unvisited}
use Rattle.yard_check.proofs.WidthLaws.{held_by, given-held}
use Rattle.yard_check.proofs.TurnLaws.{tally_start}

-- ---- refusals

-- 24: what the test of the second yard tells
pub record SecondTaken (yard second : List ℕ) (count : ℕ) : Type 0 where
  pub low : 1 ≤ count
  pub high : count < slot_count yard
  pub slots : slot_count second ≡ slot_count yard
  pub lies : Lies second

part_cut : (yard : List ℕ) (t : ℕ) → 64 ≤ length (part_of yard t) → part_begin yard t + 64 ≤ part_end yard t
unfolding part_of
part_cut yard t h = omega (arith, length-take (part_end yard t - part_begin yard t) (drop (part_begin yard t) yard))

pub second-taken : (yard second : List ℕ) (count : ℕ) → slot_count yard ≤ 63 → second_lies yard second count ≡ true → SecondTaken yard second count
unfolding second_lies
second-taken yard second count few h =
    let S = slot_count yard in
    let all = all_below S (λ i. part_lies second (i + 1)) in
    let a = both (leb 1 count) _ h in
    let b = both (ltb count S) _ a.1 in
    let c = both (eqb (slot_count second) S) _ b.1 in
    let d = both (eqb (yard_size second) (length second)) _ c.1 in
    let e = both (eqb (part_begin second 1) (8 + 4 * S)) all d.1 in
    let same = eqb-true (slot_count second) S c.0 in
    let high = ltb-true count S b.0 in
    record {
      low = leb-true 1 count a.0;
      high = high;
      slots = same;
      lies = record {
        size = eqb-true (yard_size second) (length second) d.0;
        some = omega (arith, same, high);
        few = omega (arith, same, few);
        first = omega (arith, same, eqb-true (part_begin second 1) (8 + 4 * S) e.0);
        part = λ t l m.
            let k : t - 1 + 1 ≡ t = omega arith in
            let p : part_lies second t ≡ true = rw k at (all-at (λ i. part_lies second (i + 1)) S (t - 1) e.1 (omega (arith, same))) in
            part_cut second t (leb-true 64 (length (part_of second t)) p);
      };
    }

-- a check that is not refused
pub record PairTaken (yard second : List ℕ) (count : ℕ) (occ : List ℕ) (a : CheckArgs) (long : ℕ) : Type 0 where
  pub call : (call_fault occ a.blocking a.moved a.limit).number ≡ 0
  pub yard-fits : yard_fits yard ≡ true
  pub second-lies : SecondTaken yard second count
  pub held : TrainsUpTo (pair_largest yard second count) occ
  pub moved : a.moved ≤ slot_count yard
  pub begin-low : 1 ≤ a.begin
  pub begin-high : a.begin ≤ slot_count yard + 1
  pub report-long : long ≡ 24 * slot_count yard

pub pair_taken : (yard second : List ℕ) (count : ℕ) (occ : List ℕ) (a : CheckArgs) (long : ℕ) → (pair_fault yard second count occ a long).number ≡ 0 → PairTaken yard second count occ a long
unfolding pair_fault late_fault slots_fault report_fault
pair_taken yard second count occ a long h =
    let S = slot_count yard in
    let x = or_else_clean (call_fault occ a.blocking a.moved a.limit) _ h in
    let y = or_else_clean (yard_fault yard) _ x.1 in
    let z = or_else_clean (refused_unless (second_lies yard second count) 24) (late_fault yard second count occ a long) y.1 in
    let k = or_else_clean (large_train_fault (pair_largest yard second count) occ no_train) _ z.1 in
    let q = or_else_clean (slots_fault S a) (report_fault true S long) k.1 in
    let s = both (leb a.moved S) _ (clean-test 14 (leb a.moved S && (leb 1 a.begin && leb a.begin (S + 1))) q.0) in
    let b = both (leb 1 a.begin) (leb a.begin (S + 1)) s.1 in
    let ok = clean-test 13 (yard_fits yard) y.0 in
    let top = pair_largest yard second count in
    record {
      call = x.0;
      yard-fits = ok;
      second-lies = second-taken yard second count (fits yard ok).few (clean-test 23 (second_lies yard second count) z.0);
      held = largest_bounds top occ (omega (arith, leb-true (max 0 (largest occ)) top (clean-test 21 (leb (max 0 (largest occ)) top) k.0)));
      moved = leb-true a.moved S s.0;
      begin-low = leb-true 1 a.begin b.0;
      begin-high = leb-true a.begin (S + 1) b.1;
      report-long = eqb-true long (24 * S) (clean-test 15 (eqb long (24 * S)) q.1);
    }

-- ---- by the refusal

module _ (yard second : List ℕ) (count : ℕ) (occ : List ℕ) (a : CheckArgs) (report : List ℕ) where
  abbrev fault : Refusal
  fault = pair_fault yard second count occ a (length report)

  abbrev done : PairChecked
  done = pair_done yard second count occ a report

  pub pair-by : (P : PairChecked → Type 0) → P (pair_of (Refused fault) yard second report) → (fault.number ≡ 0 → P done) → P (pair_checked yard second count occ a report)
  unfolding pair_checked
  pair-by P halt ok = go fault.number refl
    where
      go : (n : ℕ) → fault.number ≡ n → P (pair_by n fault done yard second report)
      go zero e = ok e
      go (suc n) e = halt

  pub pair_refused : (f : Refusal) → raised fault ≡ Raised.Refused f → pair_of (Refused f) yard second report ≡ pair_checked yard second count occ a report
  pair_refused f e =
      let some = some_raised fault f e in
      ap (λ (x : Refusal). pair_of (Refused x) yard second report) (sym some.0) ∙ pair-by (λ (c : PairChecked). pair_of (Refused fault) yard second report ≡ c) refl (λ n. absurd (some.1 n))

  pub pair-done : fault.number ≡ 0 → done ≡ pair_checked yard second count occ a report
  unfolding pair_checked
  pair-done e = ap (λ (n : ℕ). pair_by n fault done yard second report) (sym e)

-- ---- the loops

set-few : (f : ℕ → Bool) (n : ℕ) → slot_set f n < 2 ^ (n + 1)
unfolding slot_set
set-few f zero = omega arith
set-few f (suc n) =
    let e : 2 ^ (suc n + 1) ≡ 2 ^ (n + 1) + 2 ^ (n + 1) = ap (λ (m : ℕ). 2 ^ m) (add-one (suc n)) ∙ (two-pow-succ (suc n) ∙ ap (λ (m : ℕ). 2 ^ m + 2 ^ m) (sym (add-one n))) in
    let k : 2 ^ suc n ≡ 2 ^ (n + 1) = ap (λ (m : ℕ). 2 ^ m) (sym (add-one n)) in
    omega (arith, e, k, bit-within (f (suc n)) (2 ^ suc n), set-few f n)
  where
    bit-within : (b : Bool) (p : ℕ) → cond b p 0 ≤ p
    bit-within true p = omega arith
    bit-within false p = omega arith

module _ (yard second : List ℕ) (count : ℕ) (occ : List ℕ) (a : CheckArgs) (report : List ℕ) (clean : (pair_fault yard second count occ a (length report)).number ≡ 0) where
  K : PairTaken yard second count occ a (length report)
  K = pair_taken yard second count occ a (length report) clean

  F : Lies yard
  F = fits yard K.yard-fits

  pub count-few : count < 63
  count-few = omega (arith, K.second-lies.high, F.few)

  pub slots-few : slot_count yard ≤ 63
  slots-few = F.few

  abbrev low : Span
  low = record { from = 0; until = count; wide = true }

  abbrev none : Counts
  none = record { erred = 0; blocked = 0; next = a.begin; changed = 0 }

  -- every image holds the trains
  pub image-held : (t : ℕ) → 1 ≤ t → t ≤ slot_count yard → pair_largest yard second count ≤ largest_train (pair_image yard second count t)
  image-held t l m =
      let test : ℕ → Bool = λ i. is_wide (pair_image yard second count (i + 1)) in
      let k : t - 1 + 1 ≡ t = omega arith in
      held_by (all_below (slot_count yard) test) (pair_image yard second count t)
      (λ e. rw k at (all-at test (slot_count yard) (t - 1) e (omega arith)))

  image-given : (t : ℕ) → 1 ≤ t → t ≤ slot_count yard → given_fault a.widths (pair_image yard second count t) occ a.moved ≡ no_refusal
  image-given t l m =
      given-held a.widths (pair_image yard second count t) occ a.moved (λ e.
      (λ i. omega (arith, K.held i, image-held t l m), omega (arith, K.moved, F.few, narrow-held (pair_image yard second count t))))

  given-low : (t : ℕ) → 0 < t → t ≤ count → given_fault a.widths (part_of second t) occ a.moved ≡ no_refusal
  given-low t l m =
      ap (λ (b : Bool). given_fault a.widths (cond b (part_of second t) (part_of yard t)) occ a.moved) (sym (le-leb t count m))
      ∙ image-given t (omega arith) (omega (arith, K.second-lies.high))

  given-high : (t : ℕ) → count < t → t ≤ slot_count yard → given_fault a.widths (part_of yard t) occ a.moved ≡ no_refusal
  given-high t l m =
      ap (λ (b : Bool). given_fault a.widths (cond b (part_of second t) (part_of yard t)) occ a.moved) (sym (lt-leb t count l))
      ∙ image-given t (omega arith) m

  pub low_spans : Spans second occ a low none
  low_spans =
      record {
        lies = K.second-lies.lies;
        up = omega (arith, K.second-lies.low);
        inside = omega (arith, K.second-lies.high, K.second-lies.slots);
        call = K.call;
        given = given-low;
        turn = record { erred = omega arith; blocked = omega arith; changed = omega arith; slot = omega arith };
      }

  abbrev rows : ℕ → Row
  rows = pair_row yard second count occ a

  -- room and room' have the room that the loops are lent
  abbrev seen : (room room' t : ℕ) → Bool
  seen room room' t = cond (leb t count) (slot_seen room second occ a t) (slot_seen room' yard occ a t)

  rows-below : (t : ℕ) → t < a.begin → is_finished_row (rows t) ≡ false
  unfolding pair_visit
  rows-below t h = go (leb t count)
    where
      go : (b : Bool) → is_finished_row (cond b (slot_visit second occ a t) (slot_visit yard occ a t)).row ≡ false
      go true = ap (λ (x : Visit). is_finished_row x.row) (slot_unvisited second occ a K.second-lies.lies t h)
      go false = ap (λ (x : Visit). is_finished_row x.row) (slot_unvisited yard occ a F t h)

  module _ (room room' : ℕ) where
    low-agree : Agree second occ a low room rows (seen room room')
    unfolding pair_visit
    low-agree =
        record {
          row = λ t l m. ap (λ (b : Bool). (cond b (slot_visit second occ a t) (slot_visit yard occ a t)).row) (sym (le-leb t count m));
          changed = λ t l m. ap (λ (b : Bool). cond b (slot_seen room second occ a t) (slot_seen room' yard occ a t)) (sym (le-leb t count m));
          below = rows-below;
        }

    high-agree : (n : ℕ) → Agree yard occ a (record { from = count; until = n; wide = true }) room' rows (seen room room')
    unfolding pair_visit
    high-agree n =
        record {
          row = λ t l m. ap (λ (b : Bool). (cond b (slot_visit second occ a t) (slot_visit yard occ a t)).row) (sym (lt-leb t count l));
          changed = λ t l m. ap (λ (b : Bool). cond b (slot_seen room second occ a t) (slot_seen room' yard occ a t)) (sym (lt-leb t count l));
          below = rows-below;
        }

    second-images : (n : ℕ) → yard_after second (span_image second occ a 0) n ≡ yard_after second (slot_image second occ a) n
    unfolding yard_after
    second-images zero = refl
    second-images (suc n) = rw (second-images n, lt-ltb 0 (suc n) (omega arith))

    module _ (y : Counts) (second' report' : List ℕ) (v : SpanVisited second occ a low room none report y second' report') where
      tally-low : y ≡ tally_after rows (seen room room') a.begin count
      tally-low = v.tally rows (seen room room') low-agree (tally_start rows (seen room room') a.begin K.begin-low)

      report-low : report' ≡ report_after true rows report count
      unfolding report_after
      report-low = v.report-left rows (seen room room') report low-agree refl

      turn-high : NextTurn y (count + 1)
      turn-high =
          rw tally-low
          (record {
            erred = omega (arith, many_few (λ t. is_erred_row (rows t)) count);
            blocked = omega (arith, many_few (λ t. is_blocked_row (rows t)) count);
            changed = set-few (seen room room') count;
            slot = omega (arith, count-few);
          })

      module _ (n : ℕ) (e : n ≡ slot_count yard) where
        abbrev high : Span
        high = record { from = count; until = n; wide = true }

        pub high_spans : Spans yard occ a high y
        high_spans =
            record {
              lies = F;
              up = omega (arith, K.second-lies.high, e);
              inside = omega (arith, e);
              call = K.call;
              given = λ t l m. given-high t l (omega (arith, m, e));
              turn = turn-high;
            }

        pub pair_visited : (x : Counts) (yard' report'' : List ℕ) → SpanVisited yard occ a high room' y report' x yard' report''
            → pair_of (answer_by x.erred (not (eqb x.blocked 0)) x.next) yard' second' report'' ≡ pair_done yard second count occ a report
        unfolding answer_of
        pair_visited x yard' report'' w =
            rw (
              w.tally rows (seen room room') (high-agree n) tally-low,
              w.yard-left,
              w.report-left rows (seen room room') report (high-agree n) report-low,
              v.yard-left ∙ second-images count,
              e,
            )
