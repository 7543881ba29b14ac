-- Undo: what its test says, what it gives from a record that a check filled, and 21 for every other yard and record. Assumes nothing.
use mathlib.Core.Path.{◌≡◌, refl, sym, ap, ◌∙◌}
use mathlib.Core.Bool.{Bool, true, false, cond, ◌&&◌}
use mathlib.Core.List.{List}
use Prim.Native.Nat.{ℕ, zero, suc, ◌+◌, ◌≤◌, ◌<◌}
use native.Mathlib.Omega.{arith}
use lib.Dec.{lit<, ltb, leb, eqb}
use lib.ListN.{length, get_or, take, drop, length-drop}
use lib.Seq.{length-take-le, get_or-take, get_or-drop, ext_get_or}
use borrow.Author.Tests.{eqb-true, leb-true, ltb-true, eq-eqb, ne_eqb, le-leb}
use Rattle.link_rules.specs.Octets.{le_at, put_le, put_bytes}
use Rattle.link_rules.specs.Network.{all_below}
use Rattle.link_rules.specs.Refusals.{refused}
use Rattle.link_rules.specs.declared.refusal.Refusal.{Refusal}
use Rattle.link_rules.specs.Refusals as TakenBack
use Rattle.link_rules.proofs.OctetLaws.{Bytes, le_cong, put-le}
use Rattle.link_rules.proofs.TableLaws.{all-at, both}
use Rattle.link_rules.proofs.RangeLaws.{all_same}
use Rattle.image_fault.proofs.AcceptLaws.{or_else_clean, refused_clean}
use Rattle.yard_check.specs.Yard.{slot_count, yard_fits}
use Rattle.yard_check.specs.Check.{CheckArgs, Refused, Checked, check, check_fault, check_done, checked_by, checked_with}
use Rattle.yard_check.specs.Checks.{answered_of, checked_of}
use Rattle.yard_check.specs.declared.check.Answer as Code
use Rattle.yard_check.proofs.YardLaws.{fits}
use Rattle.yard_check.proofs.CheckLaws.{taken, yard-length}
use Rattle.link_rules.specs.Refusals.{or_else, raised}
use Rattle.link_rules.proofs.RefusalLaws.{some_raised}
use Rattle.yard_check.specs.Bytes.{same_bytes}
use Rattle.yard_check.proofs.SeenLaws.{lengths_same}
use Rattle.undo.specs.Undo.{filled_bytes, old_offset, written_offset, old_yard, written_yard, with_numbers, with_old, with_written, filled, room_fault, recorded_fault, Recorded, recording, recorded_done, recorded_by, recorded_with, recorded_of, numbers_fit, old_fits, was_written, undo_fits, Undone, undoing, undone_by, undone}
use Rattle.undo.proofs.RecordLaws.{span_same, put_back, says_filled, says_slots, says_old, says_written, filled-length, filled-number, filled_old, filled-written}

pub recorded_is : (yard occ : List ℕ) (a : CheckArgs) (long room : ℕ) (x : TakenBack.Answer) → x ≡ raised (or_else (room_fault (length yard) room) (check_fault yard occ a long))
    → x ≡ raised (recorded_fault yard occ a long room)
unfolding recorded_fault
recorded_is yard occ a long room x e = e

-- ---- what the test says

pub record UndoFits (yard r : List ℕ) : Type 0 where
  pub room : filled_bytes (length yard) ≤ length r
  pub filled_is : le_at 4 r 0 ≡ filled_bytes (length yard)
  pub old_is : le_at 4 r 8 ≡ old_offset
  pub written_is : le_at 4 r 12 ≡ written_offset (length yard)
  pub old-fits : yard_fits (old_yard (length yard) r) ≡ true
  pub slots-is : le_at 4 r 4 ≡ slot_count (old_yard (length yard) r)
  pub same : written_yard (length yard) r ≡ yard

all_hold : (test : ℕ → Bool) (n : ℕ) → ((i : ℕ) → i < n → test i ≡ true) → all_below n test ≡ true
unfolding all_below
all_hold test zero h = refl
all_hold test (suc n) h = rw (all_hold test n (λ i l. h i (omega arith)), h n (omega arith))

module _ (yard r : List ℕ) where
  abbrev y : ℕ
  y = length yard

  -- a byte of the yard written
  written_at : (i : ℕ) → i < y → get_or (written_yard y r) i 0 ≡ get_or r (written_offset y + i) 0
  written_at i l = get_or-take y (drop (written_offset y) r) i 0 l ∙ get_or-drop (written_offset y) r i 0

  same-yard : filled_bytes y ≤ length r → was_written yard r ≡ true → written_yard y r ≡ yard
  unfolding was_written
  same-yard room h =
      let long : length (written_yard y r) ≡ y = length-take-le y (drop (written_offset y) r) (omega (arith, length-drop (written_offset y) r, room)) in
      ext_get_or 0 (written_yard y r) yard long (λ i l.
      let k : i < y = omega (arith, long) in
      written_at i k ∙ eqb-true (get_or r (written_offset y + i) 0) (get_or yard i 0) (all-at (λ j. eqb (get_or r (written_offset y + j) 0) (get_or yard j 0)) y i h k))

  pub was_same : filled_bytes y ≤ length r → same_bytes (written_yard y r) yard ≡ was_written yard r
  unfolding was_written
  was_same room =
      let long : length (written_yard y r) ≡ y = length-take-le y (drop (written_offset y) r) (omega (arith, length-drop (written_offset y) r, room)) in
      let test : ℕ → Bool = λ i. eqb (get_or (written_yard y r) i 0) (get_or yard i 0) in
      lengths_same (written_yard y r) yard long
      ∙ (ap (λ (n : ℕ). all_below n test) long
      ∙ all_same y test (λ i. eqb (get_or r (written_offset y + i) 0) (get_or yard i 0)) (λ i l. ap (λ (x : ℕ). eqb x (get_or yard i 0)) (written_at i l)))

  yard-same : written_yard y r ≡ yard → was_written yard r ≡ true
  unfolding was_written
  yard-same e =
      all_hold (λ j. eqb (get_or r (written_offset y + j) 0) (get_or yard j 0)) y (λ i l.
      eq-eqb (get_or r (written_offset y + i) 0) (get_or yard i 0) (sym (written_at i l) ∙ ap (λ (z : List ℕ). get_or z i 0) e))

  pub undo-fits : undo_fits yard r ≡ true → UndoFits yard r
  unfolding undo_fits numbers_fit old_fits
  undo-fits h =
      let a = both (numbers_fit y r) _ h in
      let b = both (old_fits y r) (was_written yard r) a.1 in
      let c = both (leb (filled_bytes y) (length r)) _ a.0 in
      let d = both (eqb (le_at 4 r 0) (filled_bytes y)) _ c.1 in
      let e = both (eqb (le_at 4 r 8) old_offset) (eqb (le_at 4 r 12) (written_offset y)) d.1 in
      let f = both (yard_fits (old_yard y r)) (eqb (le_at 4 r 4) (slot_count (old_yard y r))) b.0 in
      let room = leb-true (filled_bytes y) (length r) c.0 in
      record {
        room = room;
        filled_is = eqb-true (le_at 4 r 0) (filled_bytes y) d.0;
        old_is = eqb-true (le_at 4 r 8) old_offset e.0;
        written_is = eqb-true (le_at 4 r 12) (written_offset y) e.1;
        old-fits = f.0;
        slots-is = eqb-true (le_at 4 r 4) (slot_count (old_yard y r)) f.1;
        same = same-yard room b.1;
      }

  pub fits-undo : UndoFits yard r → undo_fits yard r ≡ true
  unfolding undo_fits numbers_fit old_fits
  fits-undo u =
      rw (
        le-leb (filled_bytes y) (length r) u.room,
        eq-eqb (le_at 4 r 0) (filled_bytes y) u.filled_is,
        eq-eqb (le_at 4 r 8) old_offset u.old_is,
        eq-eqb (le_at 4 r 12) (written_offset y) u.written_is,
        u.old-fits,
        eq-eqb (le_at 4 r 4) (slot_count (old_yard y r)) u.slots-is,
        yard-same u.same,
      )

  -- ---- done, or 21 and nothing changed

  pub undo-done : undo_fits yard r ≡ true → undone yard r ≡ undoing TakenBack.Done (old_yard y r)
  unfolding undone
  undo-done h = ap (λ (b : Bool). undone_by b yard r) h

  pub undo-refused : undo_fits yard r ≡ false → undone yard r ≡ undoing (TakenBack.Refused (refused 21 0)) yard
  unfolding undone
  undo-refused h = ap (λ (b : Bool). undone_by b yard r) h

-- ---- from a record that was filled

module _ (old written r : List ℕ) (ok : yard_fits old ≡ true) (long : length written ≡ length old) (room : filled_bytes (length old) ≤ length r) (small : filled_bytes (length old) < 4294967296) where
  abbrev record' : List ℕ
  record' = filled old written r

  few : slot_count old < 4294967296
  few = omega (arith, (fits old ok).few)

  head : 16 ≤ length r
  head = omega arith

  says : (j n : ℕ) → j + 4 ≤ 16 → le_at 4 (with_numbers (length old) (slot_count old) r) j ≡ n → le_at 4 record' j ≡ n
  says j n h e = filled-number old written r long room j h ∙ e

  filled_says : le_at 4 record' 0 ≡ filled_bytes (length old)
  filled_says = says 0 _ (omega arith) (says_filled (length old) (slot_count old) r head small few)

  -- the yard that was written passes the test, and no other
  pub filled-fits : undo_fits written record' ≡ true
  filled-fits =
      let back : old_yard (length written) record' ≡ old = ap (λ (n : ℕ). old_yard n record') long ∙ filled_old old written r long room in
      fits-undo written record' (record {
        room = omega (arith, filled-length old written r long room, long);
        filled_is = filled_says ∙ ap filled_bytes (sym long);
        old_is = says 8 _ (omega arith) (says_old (length old) (slot_count old) r head small few);
        written_is = says 12 _ (omega arith) (says_written (length old) (slot_count old) r head small few) ∙ ap written_offset (sym long);
        old-fits = ap yard_fits back ∙ ok;
        slots-is = says 4 _ (omega arith) (says_slots (length old) (slot_count old) r head small few) ∙ ap slot_count (sym back);
        same = ap (λ (n : ℕ). written_yard n record') long ∙ filled-written old written r long room;
      })

  pub fits-written : (yard : List ℕ) → undo_fits yard record' ≡ true → yard ≡ written
  fits-written yard h =
      let u = undo-fits yard record' h in
      let e : length yard ≡ length old = omega (arith, u.filled_is, filled_says) in
      sym u.same ∙ (ap (λ (n : ℕ). written_yard n record') e ∙ filled-written old written r long room)

  pub gives_old : undone written record' ≡ undoing TakenBack.Done old
  gives_old = undo-done written record' filled-fits ∙ ap (undoing TakenBack.Done) (ap (λ (n : ℕ). old_yard n record') long ∙ filled_old old written r long room)

  pub no_other : (yard : List ℕ) → (yard ≡ written → ⊥) → undone yard record' ≡ undoing (TakenBack.Refused (refused 21 0)) yard
  no_other yard h = go (undo_fits yard record') refl
    where
      go : (b : Bool) → undo_fits yard record' ≡ b → undone yard record' ≡ undoing (TakenBack.Refused (refused 21 0)) yard
      go true e = absurd (h (fits-written yard e))
      go false e = undo-refused yard record' e

-- ---- a check that was recorded

pub room_clean : (y room : ℕ) → (room_fault y room).number ≡ 0 → (filled_bytes y ≤ room) × (filled_bytes y < 4294967296)
unfolding room_fault
room_clean y room h =
    let b = both (leb (filled_bytes y) room) (ltb (filled_bytes y) 4294967296) (refused_clean (leb (filled_bytes y) room && ltb (filled_bytes y) 4294967296) 20 (lit< tt) h) in
    (leb-true (filled_bytes y) room b.0, ltb-true (filled_bytes y) 4294967296 b.1)

module _ (yard occ : List ℕ) (a : CheckArgs) (report r : List ℕ) where
  abbrev f : ℕ
  f = (recorded_fault yard occ a (length report) (length r)).number

  abbrev after : Recorded
  after = recorded_with yard occ a report r

  -- a refused one leaves the yard, the report and the record
  pub recorded-refused : (F : Refusal) → raised (recorded_fault yard occ a (length report) (length r)) ≡ TakenBack.Refused F → recording (Refused F) yard report r ≡ after
  unfolding recorded_with
  recorded-refused F q = go F.number refl ∙ ap (λ (x : Refusal). recorded_by x.number x (recorded_done yard r (checked_with yard occ a report)) yard report r) e
    where
      some : (recorded_fault yard occ a (length report) (length r) ≡ F) × ((recorded_fault yard occ a (length report) (length r)).number ≡ 0 → ⊥)
      some = some_raised (recorded_fault yard occ a (length report) (length r)) F q

      e : F ≡ recorded_fault yard occ a (length report) (length r)
      e = sym some.0

      h : F.number ≡ 0 → ⊥
      h n = some.1 (ap (λ (x : Refusal). x.number) some.0 ∙ n)

      go : (n : ℕ) → F.number ≡ n → recording (Refused F) yard report r ≡ recorded_by n F (recorded_done yard r (checked_with yard occ a report)) yard report r
      go zero k = absurd (h k)
      go (suc n) k = refl

  module _ (clean : f ≡ 0) where
    parts : ((room_fault (length yard) (length r)).number ≡ 0) × ((check_fault yard occ a (length report)).number ≡ 0)
    unfolding recorded_fault
    parts = or_else_clean (room_fault (length yard) (length r)) (check_fault yard occ a (length report)) clean

    abbrev written : List ℕ
    written = (checked_with yard occ a report).yard

    pub recorded-done : after ≡ recorded_done yard r (checked_with yard occ a report)
    unfolding recorded_with
    recorded-done = ap (λ (k : ℕ). recorded_by k (recorded_fault yard occ a (length report) (length r)) (recorded_done yard r (checked_with yard occ a report)) yard report r) clean

    -- copy, check, copy
    pub copied_around : (x : Code.Answer) (yard' report' r1 r2 : List ℕ) → r1 ≡ with_old yard r → checked_of x yard' report' ≡ checked_with yard occ a report → r2 ≡ with_written yard' r1
        → recorded_of x yard' report' r2 ≡ after
    copied_around x yard' report' r1 r2 before e behind =
        ap (recording (answered_of x) yard' report') (behind ∙ ap (with_written yard') before) ∙ (ap (recorded_done yard r) e ∙ sym recorded-done)

    pub recorded-room : (filled_bytes (length yard) ≤ length r) × (filled_bytes (length yard) < 4294967296)
    recorded-room = room_clean (length yard) (length r) parts.0

    pub recorded-fits : yard_fits yard ≡ true
    recorded-fits = (taken yard occ a (length report) parts.1).yard-fits

    -- undoing the record gives the old yard byte for byte, while the yard is what the check wrote
    pub taken_back : undone after.yard after.undo_record ≡ undoing TakenBack.Done yard
    taken_back =
        ap (λ (c : Recorded). undone c.yard c.undo_record) recorded-done
        ∙ gives_old yard written r recorded-fits (yard-length yard occ a report) recorded-room.0 recorded-room.1

    -- any other yard is refused by 21 and stays
    pub other_stays : (other : List ℕ) → (other ≡ after.yard → ⊥) → undone other after.undo_record ≡ undoing (TakenBack.Refused (refused 21 0)) other
    other_stays other h =
        ap (λ (c : Recorded). undone other c.undo_record) recorded-done
        ∙ no_other yard written r recorded-fits (yard-length yard occ a report) recorded-room.0 recorded-room.1 other (λ e. h (e ∙ sym (ap (λ (c : Recorded). c.yard) recorded-done)))

  abbrev c : Checked
  c = checked_with yard occ a report

  abbrev as_check : Recorded → Checked
  as_check x = check x.answer x.yard x.report

  -- 20 first, then the check's own
  pub after-room : (room_fault (length yard) (length r)).number ≡ 0 → recorded_fault yard occ a (length report) (length r) ≡ check_fault yard occ a (length report)
  unfolding recorded_fault
  after-room h = ap (λ (b : Bool). cond b (check_fault yard occ a (length report)) (room_fault (length yard) (length r))) (eq-eqb (room_fault (length yard) (length r)).number 0 h)

  -- one that 20 does not refuse answers and leaves what the check without a record does
  pub room-taken : (room_fault (length yard) (length r)).number ≡ 0 → check after.answer after.yard after.report ≡ c
  unfolding recorded_with checked_with
  room-taken h = ap (λ (x : Refusal). as_check (recorded_by x.number x (recorded_done yard r c) yard report r)) (after-room h) ∙ go (check_fault yard occ a (length report)).number refl
    where
      go : (n : ℕ) → (check_fault yard occ a (length report)).number ≡ n → as_check (recorded_by n (check_fault yard occ a (length report)) (recorded_done yard r c) yard report r) ≡ c
      go zero k = refl
      go (suc n) k = sym (ap (λ (m : ℕ). checked_by m (check_fault yard occ a (length report)) (check_done yard occ a report) yard report) k)

  -- and one that 20 refuses leaves all
  pub room-refused : (n : ℕ) → (room_fault (length yard) (length r)).number ≡ suc n → (f ≡ suc n) × (after ≡ recording (Refused (room_fault (length yard) (length r))) yard report r)
  unfolding recorded_with recorded_fault
  room-refused n h =
      let R = room_fault (length yard) (length r) in
      let e : recorded_fault yard occ a (length report) (length r) ≡ R = ap (λ (b : Bool). cond b (check_fault yard occ a (length report)) R) (ne_eqb R.number 0 (λ k. omega arith)) in (
        ap (λ (x : Refusal). x.number) e ∙ h,
        ap (λ (x : Refusal). recorded_by x.number x (recorded_done yard r (checked_with yard occ a report)) yard report r) e
            ∙ ap (λ (k : ℕ). recorded_by k R (recorded_done yard r (checked_with yard occ a report)) yard report r) h,
      )

-- two checks are taken back in the opposite order
pub both_back : (yard occ occ' : List ℕ) (a b : CheckArgs) (report report' r r' : List ℕ) → (recorded_fault yard occ a (length report) (length r)).number ≡ 0
    → let first = recorded_with yard occ a report r in (recorded_fault first.yard occ' b (length report') (length r')).number ≡ 0
    → let second = recorded_with first.yard occ' b report' r' in undone (undone second.yard second.undo_record).yard first.undo_record ≡ undoing TakenBack.Done yard
both_back yard occ occ' a b report report' r r' h k =
    let first = recorded_with yard occ a report r in
    ap (λ (u : Undone). undone u.yard first.undo_record) (taken_back first.yard occ' b report' r' k) ∙ taken_back yard occ a report r h

-- ---- any record

module _ (yard r : List ℕ) where
  -- an undo is done from a record as a check fills it, and from no other: a damaged one is refused by 21
  pub as_filled : Bytes r → undo_fits yard r ≡ true → r ≡ filled (old_yard (length yard) r) yard r
  unfolding with_numbers with_old with_written
  as_filled b h =
      let u = undo-fits yard r h in
      let Y = length yard in
      let old = old_yard Y r in
      let long : length old ≡ Y = length-take-le Y (drop old_offset r) (omega (arith, length-drop old_offset r, u.room)) in
      let s1 : put_le 4 (filled_bytes (length old)) 0 r ≡ r = ap (λ (n : ℕ). put_le 4 n 0 r) (ap filled_bytes long ∙ sym u.filled_is) ∙ put-le 4 0 r b in
      let s2 : put_le 4 (slot_count old) 4 r ≡ r = ap (λ (n : ℕ). put_le 4 n 4 r) (sym u.slots-is) ∙ put-le 4 4 r b in
      let s3 : put_le 4 old_offset 8 r ≡ r = ap (λ (n : ℕ). put_le 4 n 8 r) (sym u.old_is) ∙ put-le 4 8 r b in
      let s4 : put_le 4 (written_offset (length old)) 12 r ≡ r = ap (λ (n : ℕ). put_le 4 n 12 r) (ap written_offset long ∙ sym u.written_is) ∙ put-le 4 12 r b in
      let numbers : with_numbers (length old) (slot_count old) r ≡ r = rw (s1, s2, s3, s4) in
      let olds : with_old old r ≡ r = ap (put_bytes old_offset old) numbers ∙ put_back old_offset Y r (omega (arith, u.room)) in
      sym (ap (with_written yard) olds ∙ (ap (λ (x : List ℕ). put_bytes (written_offset Y) x r) (sym u.same) ∙ put_back (written_offset Y) Y r (omega (arith, u.room))))

  -- buffer bytes beyond go unread
  module _ (room : filled_bytes (length yard) ≤ length r) where
    abbrev n : ℕ
    n = filled_bytes (length yard)

    cut_long : length (take n r) ≡ n
    cut_long = length-take-le n r room

    cut_at : (i : ℕ) → i < n → get_or (take n r) i 0 ≡ get_or r i 0
    cut_at i l = get_or-take n r i 0 l

    cut_old : old_yard (length yard) (take n r) ≡ old_yard (length yard) r
    cut_old = span_same old_offset (length yard) (take n r) r (omega (arith, cut_long)) (omega arith) (λ i l m. cut_at i (omega arith))

    cut_fits : undo_fits yard (take n r) ≡ undo_fits yard r
    unfolding undo_fits numbers_fit old_fits was_written
    cut_fits =
        rw (
          le-leb n (length (take n r)) (omega (arith, cut_long)),
          le-leb n (length r) room,
          le_cong 4 (take n r) r 0 (λ i l m. cut_at i (omega arith)),
          le_cong 4 (take n r) r 4 (λ i l m. cut_at i (omega arith)),
          le_cong 4 (take n r) r 8 (λ i l m. cut_at i (omega arith)),
          le_cong 4 (take n r) r 12 (λ i l m. cut_at i (omega arith)),
          cut_old,
          all_same (length yard) (λ i. eqb (get_or (take n r) (written_offset (length yard) + i) 0) (get_or yard i 0)) (λ i. eqb (get_or r (written_offset (length yard) + i) 0) (get_or yard i 0))
              (λ i l. ap (λ (x : ℕ). eqb x (get_or yard i 0)) (cut_at (written_offset (length yard) + i) (omega arith))),
        )

    pub beyond_unread : undone yard (take n r) ≡ undone yard r
    beyond_unread = go (undo_fits yard r) refl
      where
        go : (b : Bool) → undo_fits yard r ≡ b → undone yard (take n r) ≡ undone yard r
        go true e = undo-done yard (take n r) (cut_fits ∙ e) ∙ (ap (undoing TakenBack.Done) cut_old ∙ sym (undo-done yard r e))
        go false e = undo-refused yard (take n r) (cut_fits ∙ e) ∙ sym (undo-refused yard r e)
