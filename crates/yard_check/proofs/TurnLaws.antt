-- One slot after the other, as the loop of a check visits them. Assumes nothing.
use mathlib.Core.Path.{◌≡◌, refl, sym, ap, ap₂, subst, ◌∙◌}
use mathlib.Core.Logic.{⊎_elim}
use mathlib.Core.Bool.{Bool, true, false, cond, not, ◌&&◌}
use mathlib.Core.List.{List, ◌++◌}
use Prim.Native.Nat.{ℕ, zero, suc, ◌+◌, ◌*◌, ◌-◌, ◌^◌, ◌≤◌, ◌<◌}
use native.Mathlib.Numerals.{add-one}
use native.Mathlib.Omega.{arith}
use lib.Dec.{ltb, eqb}
use lib.ListN.{length, take, drop}
use borrow.Rule.Slice.PartMut.{Post-is}
use borrow.Author.Tests.{lt-ltb, le-ltb}
use Rattle.image.proofs.Writers.{side}
use Rattle.link_rules.specs.declared.refusal.Refusal.{Refusal}
use Rattle.update_free_path.proofs.FaultLaws.{call-links}
use Rattle.link_rules.specs.Refusals.{raised}
use Rattle.link_rules.specs.Refusals as Raised
use Rattle.link_rules.proofs.RefusalLaws.{some_raised}
use Rattle.yard_check.specs.Yard.{slot_count, part_from, part_until, part_of, with_part}
use Rattle.yard_check.specs.Check.{CheckArgs, wide_rows, row_size, check_fault, Row, unvisited_row, is_finished_row, is_blocked_row, is_erred_row, put_row, Visit, visit, visited, slot_visit, slot_row, slot_image, yard_after, report_after, how_many, first_not, Answer, Refused, Erred, answer_by, answer_of, check, check_done, checked_by, checked_with, slot_set, is_seen, changed_slots}
use Rattle.yard_check.specs.Checks.{args_of, row_of, answered_of, WatchedAs, tallied_of, tally_after, NextTurn, Visits, slot_seen, SlotVisited, Spans, span_image, Agree, SpanVisited, AllVisited}
use Rattle.image_fault.specs.declared.Widths.{Widths}
use Rattle.yard_check.specs.declared.check.Args.{Args}
use Rattle.yard_check.specs.declared.check.Watched.{Watched}
use Rattle.yard_check.specs.declared.check.Row as Columns
use Rattle.yard_check.specs.declared.check.Seen.{Seen}
use Rattle.yard_check.specs.declared.check.Span.{Span}
use Rattle.yard_check.specs.declared.check.Counts.{Counts}
use Rattle.yard_check.proofs.SlotLaws.{bit-few}
use Rattle.yard_check.proofs.SeenLaws.{kept_unseen, set-none, set-turn, sets_same}
use Rattle.yard_check.proofs.YardLaws.{Fits, fits, ImagesFit, left, slots-after, part-done, part-later, after-lies}
use Rattle.yard_check.proofs.VisitLaws.{images_fit}
use Rattle.yard_check.proofs.ReportLaws.{next_place}
use Rattle.yard_check.proofs.PartLaws.{from_until, until_inside, part_span, fits-from, fits_until}
use Rattle.yard_check.proofs.WidthLaws.{given-none}
use Rattle.yard_check.proofs.CheckLaws.{Taken, taken, taken-done, part-back, slot_unvisited, next-turn}

-- a check that is not refused has at most 4,000 links
pub few-links : (yard occ : List ℕ) (a : CheckArgs) (long : ℕ) → (check_fault yard occ a long).number ≡ 0 → length occ ≤ 4000
few-links yard occ a long h = (call-links occ a.blocking a.moved a.limit (taken yard occ a long h).call).1

-- ---- the visit to a slot

module _ (yard occ : List ℕ) (a : CheckArgs) (t : ℕ) (v : Visits yard occ a t) where
  -- below begin
  pub slot_kept : t < a.begin → (room : ℕ) (r : Columns.Row) → row_of r ≡ unvisited_row → SlotVisited yard occ a t room (record { row = r; changed = false }) yard
  slot_kept h room r e =
      let f = v.lies in
      let s = slot_unvisited yard occ a f t h in
      record {
        row = e ∙ ap (λ (x : Visit). x.row) (sym s);
        yard-left = sym (part-back yard occ a f t v.low v.high) ∙ ap (λ (x : Visit). with_part yard t x.image) (sym s);
        changed = sym (ap (λ (x : Visit). is_seen room (part_of yard t) x.image) s ∙ kept_unseen room (part_of yard t));
      }

  visited-here : a.begin ≤ t → visited occ a t (part_of yard t) ≡ slot_visit yard occ a t
  unfolding slot_visit
  visited-here h = ap (λ (b : Bool). cond b (visit unvisited_row (part_of yard t)) (visited occ a t (part_of yard t))) (sym (le-ltb t a.begin h))

  pub slot-left : a.begin ≤ t → (room : ℕ) (r : Seen) (img : List ℕ) → visit (row_of r.row) img ≡ visited occ a t (part_of yard t) → r.changed ≡ is_seen room (part_of yard t) img
      → SlotVisited yard occ a t room r (with_part yard t img)
  slot-left h room r img e c =
      let s = e ∙ visited-here h in
      record {
        row = ap (λ (x : Visit). x.row) s;
        yard-left = ap (λ (x : Visit). with_part yard t x.image) s;
        changed = c ∙ ap (λ (x : Visit). is_seen room (part_of yard t) x.image) s;
      }

  -- the part is lent, and put back
  module _ (from until : ℕ) (p : from ≡ part_from yard t) (q : until ≡ part_until yard t) where
    pub lent-up : from ≤ until
    lent-up = omega (arith, from_until yard t)

    pub lent-inside : until ≤ length yard
    lent-inside = omega (arith, until_inside yard t)

    pub lent-part : take (until - from) (drop from yard) ≡ part_of yard t
    lent-part = rw (p, q) (part_span yard t)

    pub part_returned : (img : List ℕ) → take from yard ++ (img ++ drop (until - from) (drop from yard)) ≡ with_part yard t img
    unfolding with_part
    part_returned img =
        let f = v.lies in
        rw (Post-is from until yard lent-up, p ∙ fits-from yard f t v.low v.high, q ∙ fits_until yard f t v.low v.high)

-- ---- the tally

module _ (rows : ℕ → Row) (seen : ℕ → Bool) (begin : ℕ) where
  abbrev done : ℕ → Bool
  done t = is_finished_row (rows t)

  abbrev first : ℕ → ℕ
  first n = first_not done (n + 1 - begin) begin

  module _ (low : (t : ℕ) → t < begin → done t ≡ false) (n : ℕ) where
    first-turn : cond (done (suc n) && eqb (first n) (suc n)) (suc n + 1) (first n) ≡ first (suc n)
    first-turn = ⊎_elim below above (side (suc n) begin)
      where
        below : suc n < begin → cond (done (suc n) && eqb (first n) (suc n)) (suc n + 1) (first n) ≡ first (suc n)
        below h = let k : suc n + 1 - begin ≡ n + 1 - begin = omega arith in rw (low (suc n) h, k)

        above : begin ≤ suc n → cond (done (suc n) && eqb (first n) (suc n)) (suc n + 1) (first n) ≡ first (suc n)
        above h =
            let k : suc n + 1 - begin ≡ suc (n + 1 - begin) = omega arith in
            let m : begin + (n + 1 - begin) ≡ suc n = omega arith in
            rw k (sym (rw m at (next-turn done (n + 1 - begin) begin)))

    pub tally-turn : tallied_of (tally_after rows seen begin n) (rows (suc n)) (seen (suc n)) (suc n) ≡ tally_after rows seen begin (suc n)
    unfolding how_many slot_set
    tally-turn =
        ap (λ (x : ℕ). record {
          erred = cond (is_erred_row (rows (suc n))) 1 0 + how_many (λ t. is_erred_row (rows t)) n;
          blocked = cond (is_blocked_row (rows (suc n))) 1 0 + how_many (λ t. is_blocked_row (rows t)) n;
          next = x;
          changed = cond (seen (suc n)) (2 ^ suc n) 0 + slot_set seen n;
        }) first-turn

-- no slot yet
pub tally_start : (rows : ℕ → Row) (seen : ℕ → Bool) (begin : ℕ) → 1 ≤ begin → record { erred = 0; blocked = 0; next = begin; changed = 0 } ≡ tally_after rows seen begin 0
unfolding how_many first_not slot_set
tally_start rows seen begin h = let k : 0 + 1 - begin ≡ 0 = omega arith in rw k

-- the counts of one slot more have room
pub next-slot : (y : Counts) (r : Row) (seen : Bool) (n : ℕ) → NextTurn y (n + 1) → n + 2 ≤ 63 → NextTurn (tallied_of y r seen (n + 1)) (n + 1 + 1)
next-slot y r seen n k h =
    record {
      erred = omega (arith, bit-few (is_erred_row r), k.erred);
      blocked = omega (arith, bit-few (is_blocked_row r), k.blocked);
      changed = set-turn y seen n k;
      slot = omega arith;
    }

-- ---- a turn of the loop

module _ (yard occ : List ℕ) (a : CheckArgs) (s : Span) (y : Counts) (room : ℕ) (sp : Spans yard occ a s y) where
  abbrev z : ℕ → List ℕ
  z n = yard_after yard (span_image yard occ a s.from) n

  pub span_start : yard ≡ z s.from
  unfolding yard_after
  span_start = sym (go s.from (omega (arith, sp.up, sp.inside)) (omega arith))
    where
      go : (n : ℕ) → n ≤ slot_count yard → n ≤ s.from → z n ≡ yard
      go zero h k = refl
      go (suc n) h k =
          rw (go n (omega arith) (omega arith), le-ltb s.from (suc n) k)
          (part-back yard occ a sp.lies (suc n) (omega arith) h)

  images : ImagesFit yard (span_image yard occ a s.from)
  images t l m = go (ltb s.from t)
    where
      go : (b : Bool) → length (cond b (slot_image yard occ a t) (part_of yard t)) ≡ length (part_of yard t)
      go true = images_fit yard occ a t l m
      go false = refl

  pub turn-length : (n : ℕ) → n ≤ slot_count yard → length (z n) ≡ length yard
  turn-length n h = (left yard sp.lies (span_image yard occ a s.from) images n h).long

  pub few-slots : s.until ≤ 63
  few-slots = omega (arith, sp.inside, sp.lies.few)

  module _ (n : ℕ) (l : s.from ≤ n) (h : n < s.until) where
    n_inside : suc n ≤ slot_count yard
    n_inside = omega (arith, sp.inside)

    pub turn_visits : Visits (z n) occ a (n + 1)
    turn_visits =
        record {
          lies = after-lies yard sp.lies (span_image yard occ a s.from) images n (omega (arith, n_inside));
          low = omega arith;
          high = omega (arith, n_inside, slots-after yard sp.lies (span_image yard occ a s.from) images n (omega (arith, n_inside)));
          call = sp.call;
          given = rw (part-later yard sp.lies (span_image yard occ a s.from) images n (omega (arith, n_inside)) (n + 1) (omega arith) (omega (arith, n_inside)) (omega arith)) (sp.given (n + 1) (omega arith) (omega arith));
        }

    -- each slot is visited as the visits before it left it
    same-part : part_of (z n) (suc n) ≡ part_of yard (suc n)
    same-part = part-later yard sp.lies (span_image yard occ a s.from) images n (omega (arith, n_inside)) (suc n) (omega arith) n_inside (omega arith)

    same-visit : slot_visit (z n) occ a (suc n) ≡ slot_visit yard occ a (suc n)
    unfolding slot_visit
    same-visit = rw same-part

    module _ (r : Seen) (yard' : List ℕ) (v : SlotVisited (z n) occ a (n + 1) room r yard') where
      v' : SlotVisited (z n) occ a (suc n) room r yard'
      v' = rw (add-one n) at v

      row_is : row_of r.row ≡ slot_row yard occ a (suc n)
      row_is = v'.row ∙ ap (λ (x : Visit). x.row) same-visit

      seen-is : r.changed ≡ slot_seen room yard occ a (suc n)
      seen-is = v'.changed ∙ (ap (λ (x : List ℕ). is_seen room x (slot_image (z n) occ a (suc n))) same-part ∙ ap (λ (x : Visit). is_seen room (part_of yard (suc n)) x.image) same-visit)

      pub turn-yard : yard' ≡ z (n + 1)
      unfolding yard_after
      turn-yard =
          rw (add-one n, lt-ltb s.from (suc n) (omega arith))
          (v'.yard-left ∙ ap (λ (x : Visit). with_part (z n) (suc n) x.image) same-visit)

      module _ (rows : ℕ → Row) (seen : ℕ → Bool) (g : Agree yard occ a s room rows seen) where
        row_here : row_of r.row ≡ rows (suc n)
        row_here = row_is ∙ g.row (suc n) (omega arith) (omega arith)

        pub turn-report : (report : List ℕ) → put_row s.wide (row_of r.row) (row_size s.wide * n) (report_after s.wide rows report n) ≡ report_after s.wide rows report (n + 1)
        unfolding report_after
        turn-report report =
            rw (add-one n)
            (ap (λ (x : Row). put_row s.wide x (row_size s.wide * n) (report_after s.wide rows report n)) row_here
            ∙ ap (λ (k : ℕ). put_row s.wide (rows (suc n)) k (report_after s.wide rows report n)) (sym (next_place s.wide n)))

        pub turn-tally : tallied_of (tally_after rows seen a.begin n) (row_of r.row) r.changed (n + 1) ≡ tally_after rows seen a.begin (n + 1)
        turn-tally =
            subst (λ (m : ℕ). tallied_of (tally_after rows seen a.begin n) (row_of r.row) r.changed m ≡ tally_after rows seen a.begin m) (sym (add-one n))
            (ap₂ (λ (x : Row) (b : Bool). tallied_of (tally_after rows seen a.begin n) x b (suc n)) row_here (seen-is ∙ g.changed (suc n) (omega arith) (omega arith))
            ∙ tally-turn rows seen a.begin g.below n)

-- ---- all slots

module _ (yard occ : List ℕ) (a : CheckArgs) (report : List ℕ) (clean : (check_fault yard occ a (length report)).number ≡ 0) where
  T : Taken yard occ a (length report)
  T = taken yard occ a (length report) clean

  F : Fits yard
  F = fits yard T.yard-fits

  pub slots-few : slot_count yard ≤ 63
  slots-few = F.few

  module _ (room : ℕ) (s : Span) (y : Counts) (from : s.from ≡ 0) (until : s.until ≡ slot_count yard) (wide : s.wide ≡ wide_rows a.widths yard) (start : y ≡ record { erred = 0; blocked = 0; next = a.begin; changed = 0 }) where
    pub all_spans : Spans yard occ a s y
    all_spans =
        record {
          lies = F;
          up = omega (arith, from, until, F.some);
          inside = omega (arith, until);
          call = T.call;
          given = λ t l m. given-none yard occ a (length report) clean t (omega arith) (omega (arith, until));
          turn = rw (from, start) (record { erred = omega arith; blocked = omega arith; changed = omega arith; slot = omega arith });
        }

    agree : Agree yard occ a s room (slot_row yard occ a) (slot_seen room yard occ a)
    agree = record { row = λ t l m. refl; changed = λ t l m. refl; below = λ t h. ap (λ (x : Visit). is_finished_row x.row) (slot_unvisited yard occ a F t h) }

    all_images : (n : ℕ) → yard_after yard (span_image yard occ a 0) n ≡ yard_after yard (slot_image yard occ a) n
    unfolding yard_after
    all_images zero = refl
    all_images (suc n) = rw (all_images n, lt-ltb 0 (suc n) (omega arith))

    pub all_visited : (x : Counts) (yard' report' : List ℕ) → SpanVisited yard occ a s room y report x yard' report' → AllVisited yard occ a report room x yard' report'
    unfolding report_after
    all_visited x yard' report' v =
        record {
          tally = v.tally (slot_row yard occ a) (slot_seen room yard occ a) agree (start ∙ (tally_start (slot_row yard occ a) (slot_seen room yard occ a) a.begin T.begin-low ∙ ap (tally_after (slot_row yard occ a) (slot_seen room yard occ a) a.begin) (sym from))) ∙ ap (tally_after (slot_row yard occ a) (slot_seen room yard occ a) a.begin) until;
          yard-left = v.yard-left ∙ (ap (λ (k : ℕ). yard_after yard (span_image yard occ a k) s.until) from ∙ (all_images s.until ∙ ap (yard_after yard (slot_image yard occ a)) until));
          report-left = v.report-left (slot_row yard occ a) (slot_seen room yard occ a) report agree (ap (report_after s.wide (slot_row yard occ a) report) (sym from)) ∙ (ap (report_after s.wide (slot_row yard occ a) report) until ∙ ap (λ (b : Bool). report_after b (slot_row yard occ a) report (slot_count yard)) wide);
        }

  -- the answer
  pub visited_all : (room : ℕ) (x : Counts) (yard' report' : List ℕ) → AllVisited yard occ a report room x yard' report'
      → check (answer_by x.erred (not (eqb x.blocked 0)) x.next) yard' report' ≡ checked_with yard occ a report
  unfolding answer_of
  visited_all room x yard' report' v =
      rw (v.tally, v.yard-left, v.report-left) (sym (taken-done yard occ a report clean))

  -- and the slots that changed
  pub changed_all : (room : ℕ) (x : Counts) (yard' report' : List ℕ) → AllVisited yard occ a report room x yard' report' → x.changed ≡ changed_slots room yard yard'
  unfolding changed_slots
  changed_all room x yard' report' v =
      ap (λ (y : Counts). y.changed) v.tally
      ∙ sets_same (slot_seen room yard occ a) (λ t. is_seen room (part_of yard t) (part_of yard' t)) (slot_count yard) (λ t l m.
      ap (is_seen room (part_of yard t)) (sym (ap (λ (w : List ℕ). part_of w t) v.yard-left ∙ part-done yard F (slot_image yard occ a) (images_fit yard occ a) (slot_count yard) (omega arith) t l m m)))

pub check-refused : (yard occ : List ℕ) (a : CheckArgs) (report : List ℕ) (f : Refusal) → f ≡ check_fault yard occ a (length report) → (f.number ≡ 0 → ⊥)
    → check (Refused f) yard report ≡ checked_with yard occ a report
unfolding checked_with
check-refused yard occ a report f e h = rw (← e) (go f.number h)
  where
    go : (n : ℕ) → (n ≡ 0 → ⊥) → check (Refused f) yard report ≡ checked_by n f (check_done yard occ a report) yard report
    go zero k = absurd (k refl)
    go (suc n) k = refl

pub erred-answer : (n : ℕ) (deadlock : Bool) (next : ℕ) → (n ≡ 0 → ⊥) → Erred n ≡ answer_by n deadlock next
erred-answer zero deadlock next h = absurd (h refl)
erred-answer (suc n) deadlock next h = refl

-- ---- a check beside its changed slots

module _ (w : Widths) (yard occ blocking : List ℕ) (o : Args) (report : List ℕ) (room : ℕ) where
  abbrev A : CheckArgs
  A = args_of w blocking o

  -- refused: nothing changed
  pub watched_refused : (f : Refusal) → raised (check_fault yard occ A (length report)) ≡ Raised.Refused f → (x : Watched) → answered_of x.answer ≡ Refused f → x.changed ≡ 0
      → WatchedAs w yard occ blocking o report room x yard report
  unfolding changed_slots
  watched_refused f e x r z =
      let some = some_raised (check_fault yard occ A (length report)) f e in
      record {
        checked = ap (λ (y : Answer). check y yard report) r ∙ check-refused yard occ A report f (sym some.0) (λ n. some.1 (ap (λ (x : Refusal). x.number) some.0 ∙ n));
        changed = z ∙ sym (set-none (λ t. is_seen room (part_of yard t) (part_of yard t)) (slot_count yard) (λ t. kept_unseen room (part_of yard t)));
      }

  pub watched_done : (check_fault yard occ A (length report)).number ≡ 0 → (y : Counts) (yard' report' : List ℕ) → AllVisited yard occ A report room y yard' report'
      → (x : Watched) → answered_of x.answer ≡ answer_by y.erred (not (eqb y.blocked 0)) y.next → x.changed ≡ y.changed → WatchedAs w yard occ blocking o report room x yard' report'
  watched_done clean y yard' report' v x r z =
      record {
        checked = ap (λ (u : Answer). check u yard' report') r ∙ visited_all yard occ A report clean room y yard' report' v;
        changed = z ∙ changed_all yard occ A report clean room y yard' report' v;
      }
