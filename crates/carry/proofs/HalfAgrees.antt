-- Where no train is above 65,535, a half check gives the numbers that the check of the all-narrow yard gives. Assumes nothing.
use mathlib.Core.Path.{◌≡◌, refl, sym, ap, ap₂, ◌∙◌}
use mathlib.Core.Bool.{Bool, true, false, cond, ◌&&◌}
use mathlib.Core.List.{List}
use Prim.Native.Nat.{ℕ, zero, suc, ◌+◌, ◌*◌, ◌-◌, ◌%◌, max, ◌≤◌, ◌<◌}
use native.Mathlib.Omega.{arith}
use lib.Dec.{ltb, leb, eqb}
use lib.ListN.{length}
use borrow.Author.Tests.{eqb-true, eqb-false, leb-true, leb-false, eq-eqb, le-leb, lt-ltb}
use Rattle.link_rules.specs.LinkIdx.{no_train}
use Rattle.link_rules.specs.Network.{all_below}
use Rattle.link_rules.specs.Refusals.{no_refusal, or_else, refused_unless}
use Rattle.link_rules.specs.declared.refusal.Refusal.{Refusal}
use Rattle.link_rules.proofs.OctetLaws.{Bytes}
use Rattle.disp_structs.specs.Train.{Train}
use Rattle.disp_structs.proofs.ListedLaws.{listed-length}
use Rattle.image.specs.Image.{path_count_of, is_wide, largest_of, largest_train, node_at}
use Rattle.image.specs.Codec.{decoded, encoded}
use Rattle.image_reader.specs.Reader.{free_of}
use Rattle.image_fault.specs.ImageFault.{fault_with, image_fault}
use Rattle.image_fault.specs.declared.Widths.TheVariants.{Narrow, Either}
use Rattle.image_fault.proofs.AcceptLaws.{or_else_none, accepted-narrow}
use Rattle.update_definition.specs.Fits.{TrainsWithin}
use Rattle.update_definition.specs.UpdateImage.{call_fault}
use Rattle.update_laws.proofs.BytesAccepted.{narrow-held}
use Rattle.wide_occupancy.specs.WideOccupancy.{largest, large_train_fault}
use Rattle.wide_occupancy.proofs.TrainLaws.{bounded_largest}
use Rattle.conversion.proofs.RoundTrips.{widened-kept, widened_clean}
use Rattle.conversion.proofs.Agreement.{narrow_agrees, widened_agrees}
use Rattle.yard_check.specs.Yard.{slot_count, part_of, yard_fits, yard_fault}
use Rattle.yard_check.specs.Check.{CheckArgs, slots_fault, report_fault, check_fault, Row, unvisited_row, updated_row, is_finished_row, is_blocked_row, is_erred_row, row_at, is_finished, Visit, visit, visited, slot_visit, slot_row, slot_image, yard_after, report_after, first_not, Answer, Refused, Erred, Done, answer_of, check_done, checked_with}
use Rattle.yard_check.specs.Checks.{Lies}
use Rattle.yard_check.specs.YardMatch.{NotRefused}
use Rattle.yard_check.specs.Pair.{pair_image, pair_visit, pair_row, pair_largest, late_fault, pair_done, later_image}
use Rattle.yard_check.proofs.SlotLaws.{many_same}
use Rattle.yard_check.proofs.YardLaws.{Fits, fits, ImagesFit, part_bytes, slots-after, part-done}
use Rattle.yard_check.proofs.VisitLaws.{slot-length, images_fit}
use Rattle.yard_check.proofs.ReportLaws.{kept_row, report-row}
use Rattle.yard_check.proofs.CheckLaws.{taken, taken-done, visit_finished, visit-moved, visit_updated, accepted-after, next-turn}
use Rattle.yard_check.proofs.CheckMatch.{holder-room}
use Rattle.yard_check.proofs.TurnLaws.{check-refused}
use Rattle.yard_check.proofs.PairLaws.{second-taken}
use Rattle.carry.specs.Carry.{widened}
use Rattle.carry.specs.CarriedFar.{CarriedFar}
use Rattle.carry.specs.HalfCheck.{half_fits, early_fault, half_fault, half_checked, half_args}
use Rattle.carry.specs.CarryPromises.{HalfOf, HalfAlike, HalfChecksAgree}
use Rattle.carry.proofs.LayoutLaws.{or_first}
use Rattle.carry.proofs.CarryLaws.{not_belied}
use Rattle.carry.proofs.HalfLaws.{half_taken, half_lies, half_halted, half_done}
use Rattle.carry.proofs.HalfKeeps.{widths-same}

-- ---- the visit to one image, narrow and written wide

-- the same row, and the image that is left written wide
record VisitsAlike (v v' : Visit) : Type 0 where
  row : v'.row ≡ v.row
  image : v'.image ≡ encoded true (decoded v.image)

module _ (occ blocking : List ℕ) (moved begin : ℕ) (local : Bool) (limit : ℕ) (w : TrainsWithin 65535 occ moved) where
  abbrev an : CheckArgs
  an = record { widths = Narrow; blocking = blocking; moved = moved; begin = begin; local = local; limit = limit }

  abbrev ae : CheckArgs
  ae = half_args blocking moved begin local limit

  visit-narrow : (t : ℕ) (img : List ℕ) → is_wide img ≡ false → visited occ ae t img ≡ visited occ an t img
  unfolding visited
  visit-narrow t img n = rw (widths-same img (length occ) n, narrow_agrees img occ blocking moved local limit w n)

  module _ (t : ℕ) (img : List ℕ) (b : Bytes img) (ok : (image_fault img (length occ)).number ≡ 0) where
    abbrev big : List ℕ
    big = encoded true (decoded img)

    finished_same : is_finished big ≡ is_finished img
    unfolding is_finished decoded
    finished_same =
        let same = (widened-kept img (length occ) b ok).0 in
        let f : free_of big ≡ free_of img = ap (λ (x : Train). x.disp_node_idx_free) same in
        let n : path_count_of big ≡ path_count_of img = sym (listed-length (path_count_of big) (node_at big)) ∙ (ap (λ (x : Train). length x.disp_path) same ∙ listed-length (path_count_of img) (node_at img)) in
        rw (f, n)

    visit-wide : VisitsAlike (visited occ an t img) (visited occ ae t big)
    visit-wide = go (is_finished img) refl (eqb t moved) refl
      where
        ok' : (fault_with Either no_refusal big (length occ)).number ≡ 0
        ok' = widened_clean img (length occ) b ok

        go : (x : Bool) → is_finished img ≡ x → (y : Bool) → eqb t moved ≡ y → VisitsAlike (visited occ an t img) (visited occ ae t big)
        go true d y m = rw (visit_finished occ an t img ok d, visit_finished occ ae t big ok' (finished_same ∙ d)) (record { row = refl; image = refl })
        go false d true m =
            let e = eqb-true t moved m in
            rw (visit-moved occ an t img ok d e, visit-moved occ ae t big ok' (finished_same ∙ d) e) (record { row = refl; image = refl })
        go false d false m =
            let e = eqb-false t moved m in
            let u = widened_agrees img occ blocking moved local limit w b ok in
            rw (visit_updated occ an t img ok d e, visit_updated occ ae t big ok' (finished_same ∙ d) e) (record { row = ap updated_row u.answer; image = u.image })

-- ---- the answer, from the same rows

first-same : (f g : ℕ → Bool) (k t : ℕ) → ((u : ℕ) → t ≤ u → u < t + k → f u ≡ g u) → first_not f k t ≡ first_not g k t
unfolding first_not
first-same f g zero t h = refl
first-same f g (suc k) t h =
    next-turn f k t
    ∙ (ap₂ (λ (x : Bool) (n : ℕ). cond (x && eqb n (t + k)) (t + k + 1) n) (h (t + k) (omega arith) (omega arith)) (first-same f g k t (λ u l m. h u l (omega arith))) ∙ sym (next-turn g k t))

answers-same : (rows rows' : ℕ → Row) (slots begin : ℕ) → 1 ≤ begin → ((t : ℕ) → 1 ≤ t → t ≤ slots → rows' t ≡ rows t) → answer_of rows' slots begin ≡ answer_of rows slots begin
unfolding answer_of
answers-same rows rows' slots begin low h =
    rw (
      many_same (λ t. is_erred_row (rows' t)) (λ t. is_erred_row (rows t)) slots (λ t l m. ap is_erred_row (h t l m)),
      many_same (λ t. is_blocked_row (rows' t)) (λ t. is_blocked_row (rows t)) slots (λ t l m. ap is_blocked_row (h t l m)),
      first-same (λ t. is_finished_row (rows' t)) (λ t. is_finished_row (rows t)) (slots + 1 - begin) begin (λ u l m. ap is_finished_row (h u (omega arith) (omega arith))),
    )

-- what both widths of a record keep of a row
kept_same : (r : Row) → r.holder < 65536 → kept_row true r ≡ kept_row false r
kept_same r h =
    let a : r.holder % 4294967296 ≡ r.holder = omega arith in
    let b : r.holder % 65536 ≡ r.holder = omega arith in
    rw (a, b)

any-answer : (R : Type 0) (x : Answer) → R → NotRefused R x
any-answer R (Refused r) p = tt
any-answer R (Erred n) p = p
any-answer R (Done d b) p = p

top-low : (x : Bool) → 65535 ≤ largest_of x
unfolding largest_of
top-low true = omega arith
top-low false = omega arith

-- ---- the slots

module _ (j : ℕ) (narrow yard wide occ blocking : List ℕ) (moved begin : ℕ) (local : Bool) (limit : ℕ) (w : TrainsWithin 65535 occ moved) (b : Bytes narrow) (ok : yard_fits narrow ≡ true)
    (far : CarriedFar (length occ) (suc j) yard wide) (inside : suc j < slot_count yard) (half : HalfOf (length occ) (suc j) narrow yard wide) where
  abbrev k : ℕ
  k = suc j

  abbrev xn : CheckArgs
  xn = an occ blocking moved begin local limit w

  abbrev xe : CheckArgs
  xe = ae occ blocking moved begin local limit w

  F0 : Fits narrow
  F0 = fits narrow ok

  part-octets : (t : ℕ) → 1 ≤ t → t ≤ slot_count narrow → Bytes (part_of narrow t)
  part-octets t l m = part_bytes narrow F0 t l m b

  within : (t : ℕ) → TrainsWithin (largest_train (part_of narrow t)) occ moved
  within t = record { entries = λ i. omega (arith, w.entries i, narrow-held (part_of narrow t)); moved-low = omega (arith, w.moved-low, narrow-held (part_of narrow t)) }

  k_in : k ≤ slot_count narrow
  k_in = omega (arith, inside, half.slots)

  slot-low : (t : ℕ) → 1 ≤ t → t ≤ k → VisitsAlike (slot_visit narrow occ xn t) (slot_visit wide occ xe t)
  unfolding slot_visit
  slot-low t l m = rw (half.carried t l m) (go (ltb t begin))
    where
      s : t ≤ slot_count narrow
      s = omega (arith, k_in)

      go : (x : Bool) → VisitsAlike (cond x (visit unvisited_row (part_of narrow t)) (visited occ xn t (part_of narrow t))) (cond x (visit unvisited_row (widened narrow t)) (visited occ xe t (widened narrow t)))
      go true = record { row = refl; image = refl }
      go false = visit-wide occ blocking moved begin local limit w t (part_of narrow t) (part-octets t l s) (half.accepted t l s)

  slot-high : (t : ℕ) → k < t → t ≤ slot_count narrow → slot_visit yard occ xe t ≡ slot_visit narrow occ xn t
  unfolding slot_visit
  slot-high t l m =
      rw (half.others t l m, visit-narrow occ blocking moved begin local limit w t (part_of narrow t) (accepted-narrow (part_of narrow t) (length occ) (half.accepted t (omega arith) m)))

  row_same : (t : ℕ) → 1 ≤ t → t ≤ slot_count narrow → pair_row yard wide k occ xe t ≡ slot_row narrow occ xn t
  unfolding pair_visit
  row_same t l m = go (leb t k) refl
    where
      go : (x : Bool) → leb t k ≡ x → (cond x (slot_visit wide occ xe t) (slot_visit yard occ xe t)).row ≡ slot_row narrow occ xn t
      go true e = (slot-low t l (leb-true t k e)).row
      go false e = ap (λ (v : Visit). v.row) (slot-high t (omega (arith, leb-false t k e)) m)

  -- a narrow record has room for the holder
  slot-holder : (t : ℕ) → 1 ≤ t → t ≤ slot_count narrow → (slot_row narrow occ xn t).holder < 65536
  unfolding slot_visit
  slot-holder t l m = go (ltb t begin)
    where
      go : (x : Bool) → (cond x (visit unvisited_row (part_of narrow t)) (visited occ xn t (part_of narrow t))).row.holder < 65536
      go true = omega arith
      go false = holder-room narrow occ xn t l m (part-octets t l m) (within t)

  -- ---- the refusals

  half-fits : half_fits yard k wide ≡ true
  unfolding half_fits
  half-fits = rw (le-leb 1 k (omega arith)) (not_belied (length occ) j yard wide far inside)

  F : Fits yard
  F = fits yard far.first

  W : Lies wide
  W = (second-taken yard wide k F.few (half_lies yard wide k F (half_taken yard wide k half-fits))).lies

  same-slots : slot_count wide ≡ slot_count yard
  same-slots = far.header.slots

  abbrev call : Refusal
  call = call_fault occ blocking moved limit

  held_none : (large_train_fault (pair_largest yard wide k) occ no_train).number ≡ 0
  held_none =
      rw (le-leb (max 0 (largest occ)) (pair_largest yard wide k) (omega (arith, bounded_largest 65535 occ w.entries, top-low (all_below (slot_count yard) (λ i. is_wide (pair_image yard wide k (i + 1)))))))

  module _ (report wide_report : List ℕ) (long : length report ≡ 20 * slot_count narrow) (wide-long : length wide_report ≡ 24 * slot_count narrow) where
    abbrev f0 : Refusal
    f0 = check_fault narrow occ xn (length report)

    abbrev fh : Refusal
    fh = half_fault yard wide k occ xe (length wide_report)

    late : late_fault yard wide k occ xe (length wide_report) ≡ or_else (slots_fault (slot_count narrow) xn) no_refusal
    unfolding late_fault slots_fault report_fault
    late =
        or_else_none (large_train_fault (pair_largest yard wide k) occ no_train) (or_else (slots_fault (slot_count yard) xe) (report_fault true (slot_count yard) (length wide_report))) held_none
        ∙ rw (half.slots, eq-eqb (length wide_report) (24 * slot_count narrow) wide-long)

    same-fault : (n : ℕ) → call.number ≡ n → fh ≡ f0
    unfolding early_fault check_fault report_fault
    same-fault zero e =
        let early : (early_fault yard wide k occ xe).number ≡ 0 = rw (eq-eqb call.number 0 e, far.first, half-fits) in
        or_else_none (early_fault yard wide k occ xe) (late_fault yard wide k occ xe (length wide_report)) early
        ∙ (late ∙ sym (rw (eq-eqb call.number 0 e, ok, eq-eqb (length report) (20 * slot_count narrow) long)))
    same-fault (suc n) e =
        let h : (call.number ≡ 0 → ⊥) = λ q. omega (arith, e, q) in
        let early : early_fault yard wide k occ xe ≡ call = or_first call (or_else (yard_fault yard) (refused_unless (half_fits yard k wide) 24)) h in
        or_first (early_fault yard wide k occ xe) (late_fault yard wide k occ xe (length wide_report)) (λ q. h (ap (λ (f : Refusal). f.number) (sym early) ∙ q))
        ∙ (early ∙ sym (or_first call _ h))

    -- ---- what is left

    abbrev N : List ℕ
    N = yard_after narrow (slot_image narrow occ xn) (slot_count narrow)

    abbrev L : ℕ → List ℕ
    L = later_image yard k occ xe

    fit : ImagesFit yard L
    fit t l m = go (ltb k t)
      where
        go : (x : Bool) → length (cond x (slot_image yard occ xe t) (part_of yard t)) ≡ length (part_of yard t)
        go true = slot-length yard occ xe t
        go false = refl

    slots_N : slot_count N ≡ slot_count narrow
    slots_N = slots-after narrow F0 (slot_image narrow occ xn) (images_fit narrow occ xn) (slot_count narrow) (omega arith)

    part_N : (t : ℕ) → 1 ≤ t → t ≤ slot_count narrow → part_of N t ≡ slot_image narrow occ xn t
    part_N t l m = part-done narrow F0 (slot_image narrow occ xn) (images_fit narrow occ xn) (slot_count narrow) (omega arith) t l m m

    images-left : HalfOf (length occ) k N (yard_after yard L (slot_count yard)) (yard_after wide (slot_image wide occ xe) k)
    images-left =
        record {
          slots = slots-after yard F L fit (slot_count yard) (omega arith) ∙ (half.slots ∙ sym slots_N);
          accepted = λ t l m. accepted-after narrow occ xn F0 b (λ u x y. within u) half.accepted t l (omega (arith, slots_N));
          carried = λ t l m.
              part-done wide W (slot_image wide occ xe) (images_fit wide occ xe) k (omega (arith, same-slots, inside)) t l (omega (arith, same-slots, inside)) m
              ∙ ((slot-low t l m).image ∙ ap (λ (x : List ℕ). encoded true (decoded x)) (sym (part_N t l (omega (arith, k_in)))));
          others = λ t l m.
              let s : t ≤ slot_count narrow = omega (arith, slots_N) in
              part-done yard F L fit (slot_count yard) (omega arith) t (omega arith) (omega (arith, half.slots)) (omega (arith, half.slots))
              ∙ (ap (λ (x : Bool). cond x (slot_image yard occ xe t) (part_of yard t)) (lt-ltb k t l) ∙ (ap (λ (v : Visit). v.image) (slot-high t l s) ∙ sym (part_N t (omega arith) s)));
        }

    abbrev rows : ℕ → Row
    rows = pair_row yard wide k occ xe

    rows_left : (t : ℕ) → 1 ≤ t → t ≤ slot_count N → row_at true (report_after true rows wide_report (slot_count yard)) t ≡ row_at false (report_after false (slot_row narrow occ xn) report (slot_count narrow)) t
    rows_left t l m =
        let s : t ≤ slot_count narrow = omega (arith, slots_N) in
        report-row true rows wide_report (slot_count yard) (omega (arith, wide-long, half.slots)) t l (omega (arith, half.slots))
        ∙ (ap (kept_row true) (row_same t l s)
        ∙ (kept_same (slot_row narrow occ xn t) (slot-holder t l s)
        ∙ sym (report-row false (slot_row narrow occ xn) report (slot_count narrow) (omega (arith, long)) t l s)))

    done_alike : f0.number ≡ 0 → HalfAlike (length occ) k (check_done narrow occ xn report) (pair_done yard wide k occ xe wide_report)
    done_alike e =
        record {
          answer = ap (λ (n : ℕ). answer_of rows n begin) half.slots ∙ answers-same (slot_row narrow occ xn) rows (slot_count narrow) begin (taken narrow occ xn (length report) e).begin-low row_same;
          rows = any-answer _ (answer_of rows (slot_count yard) begin) rows_left;
          images = images-left;
        }

    pub alike : HalfAlike (length occ) k (checked_with narrow occ xn report) (half_checked yard wide k occ xe wide_report)
    alike = go f0.number refl
      where
        same : fh ≡ f0
        same = same-fault call.number refl

        go : (n : ℕ) → f0.number ≡ n → HalfAlike (length occ) k (checked_with narrow occ xn report) (half_checked yard wide k occ xe wide_report)
        go zero e = rw (taken-done narrow occ xn report e, half_done yard wide k occ xe wide_report (ap (λ (f : Refusal). f.number) same ∙ e)) (done_alike e)
        go (suc n) e =
            let h : (f0.number ≡ 0 → ⊥) = λ q. omega (arith, e, q) in
            let r = sym (check-refused narrow occ xn report f0 refl h) in
            let r' = half_halted yard wide k occ xe wide_report (λ q. h (ap (λ (f : Refusal). f.number) (sym same) ∙ q)) in
            rw (r, r') (record { answer = ap Refused same; rows = tt; images = half })

pub half_checks_agree : HalfChecksAgree
half_checks_agree k narrow yard wide occ blocking moved begin local limit report wide_report b ok far inside half w long wide-long =
    alike k narrow yard wide occ blocking moved begin local limit w b ok far inside half report wide_report long wide-long
